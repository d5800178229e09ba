-- Laws of what counts cost.
use Rattle.std.proofs.{Common.{ℕ, ◌≡◌, ◌+◌, ◌*◌, ◌/◌, ◌≤◌, ◌==◌, cond, List, [], ◌∷◌, true, false, ap, refl, arith, inl, inr}, lemmas.Bool.cases_order}
use Rattle.lert_spec.specs.{Table.{cost, costs, total, plus}, declared.piece.Piece.Piece}
use Rattle.lert_spec.proofs.Tables.{plus_here, plus_before, plus_behind}

-- a count costs something, and no more than itself
pub cost_some : (version c : ℕ) → 1 ≤ c → 1 ≤ cost version c
cost_some version c some = elim (version == 1) as (λ b. 1 ≤ cond b c ((c + 254) / 255)) [
  | true ↦ some
  | false ↦ omega arith
]

pub cost_to : (version c : ℕ) → cost version c ≤ c
cost_to version c = elim (version == 1) as (λ b. cond b c ((c + 254) / 255) ≤ c) [
  | true ↦ omega arith
  | false ↦ omega arith
]

-- and at least a 255th of itself
pub cost_from : (version c : ℕ) → c ≤ 255 * cost version c
cost_from version c = elim (version == 1) as (λ b. c ≤ 255 * cond b c ((c + 254) / 255)) [
  | true ↦ omega arith
  | false ↦ omega arith
]

-- what is counted together costs no more than apart
pub cost_sum : (version a b : ℕ) → cost version (a + b) ≤ cost version a + cost version b
cost_sum version a b = elim (version == 1) as (λ t. cond t (a + b) ((a + b + 254) / 255) ≤ cond t a ((a + 254) / 255) + cond t b ((b + 254) / 255)) [
  | true ↦ omega arith
  | false ↦ omega arith
]

-- what weighs at most 255 costs 1 with a version behind the first
pub cost_one : (version c : ℕ) → 1 ≤ c → c ≤ 255 → (version == 1) ≡ false → cost version c ≡ 1
cost_one version c some few later = rw later (omega (arith, some, few))

-- a count more costs no more than by itself
pub costs-plus : (version : ℕ) (ps : List Piece) (tail n : ℕ) → costs version (plus ps tail n) ≤ costs version ps + cost version n
costs-plus version [] tail n = omega arith
costs-plus version (p ∷ ps) tail n =
    elim (cases_order p.tail tail) [
      | inl same ↦ rw (plus_here p ps tail n same) (omega (arith, cost_sum version p.count n))
      | inr (inl below) ↦ rw (plus_behind p ps tail n below) (omega (arith, costs-plus version ps tail n))
      | inr (inr above) ↦ rw (plus_before p ps tail n above) (omega arith)
    ]

-- all costs together are no more than all counts, and at least a 255th of them
pub costs_to : (version : ℕ) (ps : List Piece) → costs version ps ≤ total ps
costs_to version [] = omega arith
costs_to version (p ∷ ps) = omega (arith, cost_to version p.count, costs_to version ps)

pub costs_from : (version : ℕ) (ps : List Piece) → total ps ≤ 255 * costs version ps
costs_from version [] = omega arith
costs_from version (p ∷ ps) = omega (arith, cost_from version p.count, costs_from version ps)

-- with the first version each count costs itself
pub costs-first : (ps : List Piece) → costs 1 ps ≡ total ps
costs-first [] = refl
costs-first (p ∷ ps) = ap (λ rest. p.count + rest) (costs-first ps)
