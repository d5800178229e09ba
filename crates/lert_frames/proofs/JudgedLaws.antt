-- What a frame's counts may cost and have to reach, where no other rule is broken.
use Rattle.std.proofs.Common.{◌≡◌, ℕ, ◌+◌, ◌-◌, ◌<◌, ◌≤◌, ◌&&◌, if◌then◌else◌, Bool, List, [], ◌∷◌, ◌++◌, Option, Some, None, true, false, leb, refl, sym, ap, ap₂, ◌∙◌, inl, inr, arith}
use Rattle.std.{proofs.lemmas.Bool.{cases_lt, le-leb, lt-leb}, proofs.Math.Bool.and-false}
use Rattle.lert_spec.{specs.declared.piece.Piece.Piece, specs.Table.{costs, total}}
use Rattle.lert_frames.{specs.Frame.if_summed, specs.Reading.if_over}

-- ---- sums of pieces

pub costs-append : (version : ℕ) (first second : List Piece) → costs version (first ++ second) ≡ costs version first + costs version second
costs-append version [] second = omega arith
costs-append version (p ∷ first) second = omega (arith, costs-append version first second)

pub total-append : (first second : List Piece) → total (first ++ second) ≡ total first + total second
total-append [] second = omega arith
total-append (p ∷ first) second = let h = total-append first second in omega (arith, h)

-- ---- the judgement

module _ (version most due place : ℕ) (pieces : List Piece) where
  judge_by : (cheap reaching : Bool) → leb (costs version pieces) most ≡ cheap → leb due (total pieces) ≡ reaching →
      if_summed version most due place pieces None ≡ (if cheap && reaching then None else Some place)
  judge_by cheap reaching first second = ap₂ (λ x y. if x && y then None else Some place) first second

  pub if_fits : costs version pieces ≤ most → due ≤ total pieces → if_summed version most due place pieces None ≡ None
  if_fits few reached = judge_by true true (le-leb (costs version pieces) most few) (le-leb due (total pieces) reached)

  pub if_costly : most < costs version pieces → if_summed version most due place pieces None ≡ Some place
  if_costly more = judge_by false (leb due (total pieces)) (lt-leb (costs version pieces) most more) refl

  pub if_short : total pieces < due → if_summed version most due place pieces None ≡ Some place
  if_short less =
      judge_by (leb (costs version pieces) most) false refl (lt-leb due (total pieces) less)
      ∙ ap (λ b. if b then None else Some place) (and-false (leb (costs version pieces) most))

-- where it finds nothing, both rules are kept
pub summed_parts : (version most due place : ℕ) (pieces : List Piece) (left : Option ℕ) → if_summed version most due place pieces left ≡ None →
    (left ≡ None) × (costs version pieces ≤ most) × (due ≤ total pieces)
summed_parts version most due place pieces (Some at) is = absurd (cc)
summed_parts version most due place pieces None is = elim (cases_lt most (costs version pieces)) [
  | inl more ↦ absurd (let wrong = sym (if_costly version most due place pieces more) ∙ is in cc)
  | inr few ↦ elim (cases_lt (total pieces) due) [
    | inl less ↦ absurd (let wrong = sym (if_short version most due place pieces less) ∙ is in cc)
    | inr reached ↦ (refl, omega (arith, few), omega (arith, reached))
  ]
]

-- ---- pieces in two parts

less_test : (a p c most : ℕ) → p ≤ most → a ≡ p + c → leb a most ≡ leb c (most - p)
less_test a p c most few sum = elim (cases_lt most a) [
  | inl over ↦ lt-leb a most over ∙ sym (lt-leb c (most - p) (omega (arith, over, few, sum)))
  | inr within ↦ le-leb a most (omega (arith, within)) ∙ sym (le-leb c (most - p) (omega (arith, within, sum)))
]

due_test : (a p c due : ℕ) → a ≡ p + c → leb due a ≡ leb (due - p) c
due_test a p c due sum = elim (cases_lt a due) [
  | inl short ↦ lt-leb due a short ∙ sym (lt-leb (due - p) c (omega (arith, short, sum)))
  | inr reached ↦ le-leb due a (omega (arith, reached)) ∙ sym (le-leb (due - p) c (omega (arith, reached, sum)))
]

-- the second part is judged by what the first leaves
pub same_sum : (version most due place : ℕ) (put rest : List Piece) (left : Option ℕ) → costs version put ≤ most →
    if_summed version most due place (put ++ rest) left ≡ if_summed version (most - costs version put) (due - total put) place rest left
same_sum version most due place put rest (Some at) few = refl
same_sum version most due place put rest None few =
    ap₂ (λ x y. if x && y then None else Some place)
    (less_test (costs version (put ++ rest)) (costs version put) (costs version rest) most few (costs-append version put rest))
    (due_test (total (put ++ rest)) (total put) (total rest) due (total-append put rest))

-- and where the first costs more, it doesn't matter
pub over_sum : (version most due place : ℕ) (put rest : List Piece) (left : Option ℕ) → most < costs version put →
    if_summed version most due place (put ++ rest) left ≡ if_over place left
over_sum version most due place put rest (Some at) more = refl
over_sum version most due place put rest None more =
    if_costly version most due place (put ++ rest) (omega (arith, costs-append version put rest, more))
