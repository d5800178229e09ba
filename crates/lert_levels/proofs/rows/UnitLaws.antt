-- How many units of a size a weight is, rounded up.
use Rattle.std.proofs.{Common.{ℕ, ◌≡◌, ◌+◌, ◌*◌, ◌<◌, ◌≤◌, inl, inr, arith}, Math.Nat.{add-mul, mul-le-mul_right}, lemmas.{Bool.cases_lt, Grind.div_ceil_times}}
use Rattle.std.specs.Int.{div_ceil}

module _ (unit : ℕ) (some : 1 ≤ unit) where
  -- no more than any number of them that is enough
  pub units_least : (weight number : ℕ) → weight ≤ number * unit → div_ceil weight unit ≤ number
  units_least weight number enough = elim (cases_lt number (div_ceil weight unit)) [
    | inl less ↦ absurd (omega (
      arith,
      enough,
      (div_ceil_times weight unit some).1,
      mul-le-mul_right {m = number + 1} {n = div_ceil weight unit} unit (omega (arith, less)),
      add-mul number 1 unit,
    ))
    | inr most ↦ omega (arith, most)
  ]

  pub units_none : div_ceil 0 unit ≡ 0
  units_none = omega (arith, units_least 0 0 (omega arith))

  -- more weight is as many or more, and two weights together are no more than both
  pub units_more : (less more : ℕ) → less ≤ more → div_ceil less unit ≤ div_ceil more unit
  units_more less more within = units_least less (div_ceil more unit) (omega (arith, within, (div_ceil_times more unit some).0))

  pub units_sum : (one other : ℕ) → div_ceil (one + other) unit ≤ div_ceil one unit + div_ceil other unit
  units_sum one other =
      units_least (one + other) (div_ceil one unit + div_ceil other unit)
      (omega (arith, (div_ceil_times one unit some).0, (div_ceil_times other unit some).0, add-mul (div_ceil one unit) (div_ceil other unit) unit))

  -- fewer units than a count has are less weight
  pub fewer_units : (one other count : ℕ) → div_ceil one unit + div_ceil other unit < div_ceil count unit → one + other < count
  fewer_units one other count fewer = elim (cases_lt (one + other) count) [
    | inl less ↦ less
    | inr most ↦ absurd (omega (arith, fewer, units_sum one other, units_more count (one + other) (omega (arith, most))))
  ]
