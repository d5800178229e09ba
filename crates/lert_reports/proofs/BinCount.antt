-- How many bins a level has: as many as there are whole spans from its edge up to that of the next younger level.
use Rattle.std.proofs.Common.{◌≡◌, ℕ, zero, suc, ◌+◌, ◌-◌, ◌*◌, ◌/◌, ◌<◌, ◌≤◌, ◌^◌, Bool, true, false, cond, min, max, refl, ap, sym, subst, ◌∙◌, arith, inl, inr}
use Rattle.std.proofs.{Math.Nat.{mul-le-mul_right, div-mul-le_self, mul-div-le, lt-div-mul-add, mul-div_cancel_left, mul_comm}, lemmas.Bool.{cases_lt, lt-ltb, le-ltb}, lemmas.List.Sums.sum_by-cons}
use Rattle.std.specs.{Prelude.{nat_lt, count_by}, List.range_with_len}
use Rattle.lert_spec.specs.{declared.numbers.Numbers.Numbers, Edges.{span, offset, edge, capacity}, Limits.IsValid}
use Rattle.lert_spec.proofs.{LimitLaws.span_within, EdgeLaws.{span_pos, edge_descends}}
use Rattle.lert_reports.specs.LogText.{bin_count}

-- numbers pass a test exactly from `a` on, up to `c`
module _ (test : ℕ → Bool) (a c : ℕ) (ordered : a ≤ c)
    (before : (k : ℕ) → k < a → test k ≡ false) (inside : (k : ℕ) → a ≤ k → k < c → test k ≡ true) (behind : (k : ℕ) → c ≤ k → test k ≡ false) where
  one_more : (from n : ℕ) (b : Bool) → test from ≡ b → count_by test (range_with_len from (suc n)) ≡ cond {A = ℕ} b 1 0 + count_by test (range_with_len (from + 1) n)
  one_more from n b is =
      sum_by-cons (λ k. cond {A = ℕ} (test k) 1 0) from (range_with_len (from + 1) n)
      ∙ ap (λ t. cond {A = ℕ} t 1 0 + count_by test (range_with_len (from + 1) n)) is

  none_behind : (n from : ℕ) → c ≤ from → count_by test (range_with_len from n) ≡ 0
  none_behind zero from late = refl
  none_behind (suc n) from late = omega (arith, one_more from n false (behind from late), none_behind n (from + 1) (omega arith))

  all_inside : (n from : ℕ) → a ≤ from → from ≤ c → c ≤ from + n → count_by test (range_with_len from n) ≡ c - from
  all_inside zero from low high long = omega arith
  all_inside (suc n) from low high long =
      elim (cases_lt from c) [
        | inl below ↦ (
            let rest = all_inside n (from + 1) (omega arith) (omega arith) (omega arith) in
            let here = one_more from n true (inside from low below) in omega (arith, here, rest))
        | inr end ↦ (let none = none_behind (suc n) from end in omega (arith, none))
      ]

  counted : (n from : ℕ) → from ≤ a → c ≤ from + n → count_by test (range_with_len from n) ≡ c - a
  counted zero from low long = omega arith
  counted (suc n) from low long =
      elim (cases_lt from a) [
        | inl below ↦ (
            let rest = counted n (from + 1) (omega arith) (omega arith) in
            let here = one_more from n false (before from below) in omega (arith, here, rest))
        | inr above ↦ (
            let same : from ≡ a = omega arith in
            let all = all_inside (suc n) from (omega arith) (omega (arith, ordered)) long in
            omega (arith, all, same))
      ]

-- whole spans of w from the `a`-th on that begin below `high`
module _ (w a high : ℕ) (wide : 1 ≤ w) (ordered : w * a ≤ high) where
  abbrev end : ℕ
  end = (high + w - 1) / w

  spread : (k : ℕ) → (k + 1) * w ≡ k * w + w
  spread k = grind arith

  end_below : end * w ≤ high + w - 1
  end_below = div-mul-le_self (high + w - 1) w

  end_above : high + w - 1 < end * w + w
  end_above = lt-div-mul-add {a = high + w - 1} {b = w} wide

  edge_is : w * a ≡ a * w
  edge_is = mul_comm w a

  pub ordered_end : a ≤ end
  ordered_end = elim (cases_lt end a) [
    | inl less ↦ (let steps = mul-le-mul_right {m = end + 1} {n = a} w (omega arith) in absurd (omega (arith, steps, spread end, end_above, ordered, edge_is)))
    | inr more ↦ more
  ]

  pub bins_between : (n : ℕ) → end ≤ n → count_by (λ k. nat_lt (max (w * a) (k * w)) (min high ((k + 1) * w))) (range_with_len 0 n) ≡ end - a
  bins_between n long =
      counted (λ k. nat_lt (max (w * a) (k * w)) (min high ((k + 1) * w))) a end ordered_end
      (λ k less. (let steps = mul-le-mul_right {m = k + 1} {n = a} w (omega arith) in le-ltb (max (w * a) (k * w)) (min high ((k + 1) * w)) (omega (arith, steps, spread k, edge_is))))
      (λ k low less. (
      let steps = mul-le-mul_right {m = k + 1} {n = end} w (omega arith) in
      let more = mul-le-mul_right {m = a} {n = k} w low in
      lt-ltb (max (w * a) (k * w)) (min high ((k + 1) * w)) (omega (arith, steps, more, spread k, edge_is, end_below, wide))))
      (λ k late. (
      let steps = mul-le-mul_right {m = end + 1} {n = k + 1} w (omega arith) in
      le-ltb (max (w * a) (k * w)) (min high ((k + 1) * w)) (omega (arith, steps, spread k, spread end, end_above, wide))))
      n 0 (omega arith) (omega (arith, long))

-- the bins of a level, counted by its edge and that of the next younger level
pub bin_count_is : (s : Numbers) (level n : ℕ) → 1 ≤ level → IsValid s →
    (edge s level n / span s level ≤ (edge s (level - 1) n + span s level - 1) / span s level)
    × ((edge s (level - 1) n + span s level - 1) / span s level - edge s level n / span s level ≡ bin_count s level n)
bin_count_is s level n some valid =
    let w = span s level in
    let a = (n - offset s level) / w in
    let high = edge s (level - 1) n in
    let base : 1 ≤ s.base = omega (arith, valid.limits.base_from) in
    let ratio : 1 ≤ s.ratio = omega (arith, valid.limits.ratio_from) in
    let wide = span_pos s level base ratio in
    let next : suc (level - 1) ≡ level = omega arith in
    let ordered = subst (λ m. edge s m n ≤ edge s (level - 1) n) next (edge_descends s base ratio (level - 1) n) in
    let within : high ≤ n = omega (arith, mul-div-le (n - offset s (level - 1)) (span s (level - 1))) in
    let enough : (high + w - 1) / w ≤ n / w + 1 = elim (cases_lt (n / w + 1) ((high + w - 1) / w)) [
      | inl more ↦ (
          let steps = mul-le-mul_right {m = n / w + 2} {n = (high + w - 1) / w} w (omega arith) in
          let parts : (n / w + 2) * w ≡ n / w * w + w + w = grind arith in
          absurd (omega (arith, steps, parts, div-mul-le_self (high + w - 1) w, lt-div-mul-add {a = n} {b = w} wide, within)))
      | inr few ↦ few
    ] in
    let whole : edge s level n / w ≡ a = mul-div_cancel_left a {n = w} wide in
    (omega (arith, whole, ordered_end w a high wide ordered), ap (λ m. (high + w - 1) / w - m) whole ∙ sym (bins_between w a high wide ordered (n / w + 1) enough))

-- an edge and a span fit together
pub edge_fits : (s : Numbers) (level n : ℕ) → level ≤ s.levels → n ≤ capacity s → IsValid s → edge s (level - 1) n + span s level < 2 ^ 64
edge_fits s level n last within valid =
    let few : level ≤ 8 = omega (arith, last, valid.limits.levels_to) in
    let edge_within = mul-div-le (n - offset s (level - 1)) (span s (level - 1)) in
    omega (arith, within, valid.positions_fit, edge_within, span_within s level valid.limits few)
