-- What a reader keeps through a step of its decoder.
use Rattle.std.proofs.Common.{◌≡◌, ℕ, zero, suc, ◌+◌, ◌-◌, ◌<◌, ◌≤◌, ◌^◌, List, [], ◌∷◌, ◌++◌, All, length, take, drop, get_or, Option, Some, None, refl, sym, ap, ap₂, ◌∙◌, subst, inl, inr}
use Rattle.std.{proofs.Common.{arith, ltb, lt-ltb, le-ltb, append_assoc, length-append}, proofs.lemmas.Bool.{cases_lt, cond-true, cond-false}}
use Rattle.std.{proofs.lemmas.List.drop-append-le, proofs.lemmas.List.Elements.All-nil}
use Rattle.lert_blocks.specs.Walk.{Found, behind}
use Rattle.lert_spec.{specs.declared.piece.Piece.Piece, specs.Table.{cost, costs, total, AreGiven, AscendsFrom}, proofs.GivenLaws.given_wide}
use Rattle.lert_frames.{specs.InOrder.given_on, specs.Reading.{if_over, verdict, SumsUp, sum_less, pieces_kept}, specs.declared.reader.Sum.Sum}
use Rattle.lert_frames.proofs.JudgedLaws.{costs-append, total-append, same_sum, over_sum}
use Rattle.lert_frames.specs.declared.reader.Sum.TheVariants.{Left, Over}

-- ---- pieces and their counts

pub given_none : (limit : ℕ) (first second : List Piece) → first ≡ [] → second ≡ [] → AreGiven limit (first ++ second)
given_none limit first second empty none =
    subst (AreGiven limit) (sym (ap₂ (λ xs ys. xs ++ ys) empty none)) (record { table = tt; counts = All-nil (λ (piece : Piece). piece.count ≤ 2 ^ 47) })

-- nothing is decoded at the begin: all of a width is left
pub sums_begun : (version wide : ℕ) (first second : List Piece) → first ≡ [] → second ≡ [] → SumsUp version wide (first ++ second) (Left wide wide)
sums_begun version wide first second empty none =
    subst (λ ps. SumsUp version wide ps (Left wide wide)) (sym (ap₂ (λ xs ys. xs ++ ys) empty none)) (omega arith, omega arith)

-- ---- the sums of what is decoded

module _ (version most due : ℕ) (put : List Piece) where
  less_over : most < costs version put → sum_less version (Left most due) put ≡ Over
  less_over more = cond-true {A = Sum} (ltb most (costs version put)) Over (Left (most - costs version put) (due - total put)) (lt-ltb most (costs version put) more)

  less_left : costs version put ≤ most → sum_less version (Left most due) put ≡ Left (most - costs version put) (due - total put)
  less_left few = cond-false {A = Sum} (ltb most (costs version put)) Over (Left (most - costs version put) (due - total put)) (le-ltb most (costs version put) few)

-- what is found stays, whether it is judged before or behind pieces that it begins with
pub verdict_stays : (version : ℕ) (sum : Sum) (place : ℕ) (put : List Piece) (found : Found) →
    verdict version (sum_less version sum put) place found ≡ verdict version sum place (behind (record { pieces = put; left = None }) found)
verdict_stays version (Left most due) place put found = elim (cases_lt most (costs version put)) [
  | inl more ↦ ap (λ sum. verdict version sum place found) (less_over version most due put more) ∙ sym (over_sum version most due place put found.pieces found.left more)
  | inr few ↦ ap (λ sum. verdict version sum place found) (less_left version most due put few) ∙ sym (same_sum version most due place put found.pieces found.left few)
]
verdict_stays version Over place put found = refl

-- where no rule is broken, all are kept
pub never_over : (place : ℕ) (left : Option ℕ) → if_over place left ≡ None → ⊥
never_over place (Some at) none = cc
never_over place None none = cc

pub all_kept : (version : ℕ) (sum : Sum) (place : ℕ) (before put : List Piece) (found : Found) → verdict version sum place found ≡ None → pieces_kept sum before put ≡ before ++ put
all_kept version (Left most due) place before put found whole = refl
all_kept version Over place before put found whole = absurd (never_over place found.left whole)

pub length_kept : (sum : Sum) (before put : List Piece) → length before ≤ length (pieces_kept sum before put)
length_kept (Left most due) before put = omega (arith, length-append before put)
length_kept Over before put = omega arith

-- those that are kept are given, in time, below what may come then
pub kept_given : (low high given : ℕ) (sum : Sum) (gave before put : List Piece) → given ≤ length before → low ≤ high → AreGiven low (gave ++ drop given before) →
    AscendsFrom low high put → All (λ piece. piece.count ≤ 2 ^ 47) put → AreGiven high (gave ++ drop given (pieces_kept sum before put))
kept_given low high given (Left most due) gave before put within up are ascend counts =
    subst (AreGiven high) (append_assoc gave (drop given before) put ∙ ap (λ xs. gave ++ xs) (sym (drop-append-le given before put within)))
    (given_on low high (gave ++ drop given before) put up are ascend counts)
kept_given low high given Over gave before put within up are ascend counts = given_wide low high (gave ++ drop given before) up are

-- and add up with what is left then
kept_all : (given : ℕ) (gave before put : List Piece) → given ≤ length before → gave ++ drop given (before ++ put) ≡ (gave ++ drop given before) ++ put
kept_all given gave before put within = ap (λ xs. gave ++ xs) (drop-append-le given before put within) ∙ sym (append_assoc gave (drop given before) put)

sums_on : (version wide most due : ℕ) (decoded put : List Piece) → costs version put ≤ most → SumsUp version wide decoded (Left most due) →
    SumsUp version wide (decoded ++ put) (Left (most - costs version put) (due - total put))
sums_on version wide most due decoded put few sums = (
  omega (arith, costs-append version decoded put, sums.0, few),
  omega (arith, total-append decoded put, sums.1),
)

pub kept_sums_up : (version wide given : ℕ) (sum : Sum) (gave before put : List Piece) → given ≤ length before → SumsUp version wide (gave ++ drop given before) sum →
    SumsUp version wide (gave ++ drop given (pieces_kept (sum_less version sum put) before put)) (sum_less version sum put)
kept_sums_up version wide given (Left most due) gave before put within sums =
    let Goal : Sum → Type 0 = λ sum. SumsUp version wide (gave ++ drop given (pieces_kept sum before put)) sum in
    elim (cases_lt most (costs version put)) [
      | inl more ↦ subst Goal (sym (less_over version most due put more)) (omega (arith, sums.0))
      | inr few ↦ subst Goal (sym (less_left version most due put few))
          (subst (λ ps. SumsUp version wide ps (Left (most - costs version put) (due - total put))) (sym (kept_all given gave before put within))
          (sums_on version wide most due (gave ++ drop given before) put (omega (arith, few)) sums))
    ]
kept_sums_up version wide given Over gave before put within sums = sums

-- one count more
pub costs-take_more : (version : ℕ) (pieces : List Piece) (i : ℕ) (d : Piece) → i < length pieces →
    costs version (take (i + 1) pieces) ≡ costs version (take i pieces) + cost version (get_or pieces i d).count
costs-take_more version [] i d within = absurd (omega arith)
costs-take_more version (p ∷ pieces) zero d within = omega arith
costs-take_more version (p ∷ pieces) (suc i) d within =
    let h = costs-take_more version pieces i d (omega arith) in let same : suc i + 1 ≡ suc (i + 1) = omega arith in
    ap (λ n. costs version (take n (p ∷ pieces))) same ∙ omega (arith, h)

pub total-take_more : (pieces : List Piece) (i : ℕ) (d : Piece) → i < length pieces → total (take (i + 1) pieces) ≡ total (take i pieces) + (get_or pieces i d).count
total-take_more [] i d within = absurd (omega arith)
total-take_more (p ∷ pieces) zero d within = omega arith
total-take_more (p ∷ pieces) (suc i) d within =
    let h = total-take_more pieces i d (omega arith) in let same : suc i + 1 ≡ suc (i + 1) = omega arith in
    ap (λ n. total (take n (p ∷ pieces))) same ∙ omega (arith, h)
