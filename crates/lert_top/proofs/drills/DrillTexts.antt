-- The texts of cones of a drill, one behind the other.
use Rattle.std.proofs.Common.{◌≡◌, ℕ, ◌+◌, ◌≤◌, zero, suc, List, [], ◌∷◌, ◌++◌, length, map, slice_get, take, drop, sum_by, Some, refl, ap, sym, ◌∙◌, subst, arith, append_assoc, append-nil}
use Rattle.std.proofs.{lemmas.List.{length-map, length-take-le, take-append-drop}, lemmas.List.Sums.sum_by-cons, lemmas.Option.{same_Some, slice_get_within}}
use Rattle.std.specs.List.{range_with_len}
use Rattle.lert_base.specs.Beginning.{BeginsWith}
use Rattle.lert_cone.specs.Stands.{Standing}
use Rattle.lert_top.specs.drills.Print.{drilled_as}
use Rattle.lert_spec.specs.Lines.{total_line}
use Rattle.lert_text.specs.Drill.{Drilled, drill_line, drill_lines, drill_text, drill_texts, exclusive_or}

texts-append : (n : ℕ) (xs ys : List Drilled) → drill_texts n (xs ++ ys) ≡ drill_texts n xs ++ drill_texts (n + length xs) ys
texts-append n [] ys = let same : n ≡ n + 0 = omega arith in ap (λ m. drill_texts m ys) same
texts-append n (x ∷ xs) ys =
    let same : suc n + length xs ≡ n + suc (length xs) = omega arith in
    ap (λ text. drill_text n x ++ text) (texts-append (suc n) xs ys ∙ ap (λ m. drill_texts (suc n) xs ++ drill_texts m ys) same)
    ∙ sym (append_assoc (drill_text n x) (drill_texts (suc n) xs) (drill_texts (n + suc (length xs)) ys))

-- the first cones and the next one
pub drilled_next : {B : Type 0} (cones : List (Standing B)) (n : ℕ) (cone : Standing B) → slice_get cones n ≡ Some cone →
    take n (map drilled_as cones) ++ drilled_as cone ∷ [] ≡ take (n + 1) (map drilled_as cones)
drilled_next [] n cone found = absurd (omega (arith, slice_get_within [] n cone found))
drilled_next (x ∷ xs) zero cone found = ap (λ (c : Standing _). drilled_as c ∷ []) (sym (same_Some x cone found))
drilled_next (x ∷ xs) (suc n) cone found =
    let same : suc (n + 1) ≡ suc n + 1 = omega arith in
    ap (λ (ps : List Drilled). drilled_as x ∷ ps) (drilled_next xs n cone found) ∙ ap (λ m. take m (map drilled_as (x ∷ xs))) same

-- the text of one cone more
pub texts_next : {B : Type 0} (cones : List (Standing B)) (n : ℕ) (cone : Standing B) (line : List ℕ) → slice_get cones n ≡ Some cone → line ≡ drill_text n (drilled_as cone) →
    drill_texts 0 (take n (map drilled_as cones)) ++ line ≡ drill_texts 0 (take (n + 1) (map drilled_as cones))
texts_next cones n cone line found is =
    let all = map drilled_as cones in
    let first = take n all in
    let within : n ≤ length all = omega (arith, slice_get_within cones n cone found, length-map cones drilled_as) in
    let place : 0 + length first ≡ n = omega (arith, length-take-le n all within) in
    ap (λ text. drill_texts 0 first ++ text) (is ∙ (sym (append-nil (drill_text n (drilled_as cone))) ∙ ap (λ m. drill_texts m (drilled_as cone ∷ [])) (sym place)))
    ∙ (sym (texts-append 0 first (drilled_as cone ∷ [])) ∙ ap (drill_texts 0) (drilled_next cones n cone found))

-- the texts of all cones and the totals are the whole text
pub lines_are : (all : List Drilled) (events reports : ℕ) → events ≡ sum_by (λ (one : Drilled). one.events) all → reports ≡ sum_by (λ (one : Drilled). length one.keys) all →
    drill_texts 0 all ++ total_line events reports ≡ drill_lines all
lines_are all events reports events_are reports_are =
    ap (λ n. drill_texts 0 all ++ total_line n reports) events_are
    ∙ ap (λ n. drill_texts 0 all ++ total_line (sum_by (λ (one : Drilled). one.events) all) n) reports_are

-- the texts of the first cones begin the text of all
pub texts_begin : (all : List Drilled) (n : ℕ) → BeginsWith (drill_lines all) (drill_texts 0 (take n all))
texts_begin all n =
    let total = total_line (sum_by (λ (one : Drilled). one.events) all) (sum_by (λ (one : Drilled). length one.keys) all) in
    let rest = drill_texts (0 + length (take n all)) (drop n all) in (
      rest ++ total,
      sym (append_assoc (drill_texts 0 (take n all)) rest total)
          ∙ ap (λ text. text ++ total) (sym (texts-append 0 (take n all) (drop n all)) ∙ ap (drill_texts 0) (take-append-drop n all)),
    )

-- two lists of cones of which the same is printed
pub record IsSameText (x y : Drilled) : Type 0 where
  pub events_are : x.events ≡ y.events
  pub number_is : length x.keys ≡ length y.keys
  pub keys_are : exclusive_or x.keys ≡ exclusive_or y.keys

abbrev pub AreSameTexts : List Drilled → List Drilled → Type 0
AreSameTexts [] [] = Unit {0}
AreSameTexts [] (y ∷ ys) = ⊥
AreSameTexts (x ∷ xs) [] = ⊥
AreSameTexts (x ∷ xs) (y ∷ ys) = IsSameText x y × AreSameTexts xs ys

same_texts : (n : ℕ) (xs ys : List Drilled) → AreSameTexts xs ys → drill_texts n xs ≡ drill_texts n ys
same_texts n [] [] same = refl
same_texts n [] (y ∷ ys) same = absurd same
same_texts n (x ∷ xs) [] same = absurd same
same_texts n (x ∷ xs) (y ∷ ys) same =
    (λ i. drill_line n (same.0.events_are i) (same.0.number_is i) (same.0.keys_are i) ++ same_texts (suc n) xs ys same.1 i)

same_events : (xs ys : List Drilled) → AreSameTexts xs ys → sum_by (λ (one : Drilled). one.events) xs ≡ sum_by (λ (one : Drilled). one.events) ys
same_events [] [] same = refl
same_events [] (y ∷ ys) same = absurd same
same_events (x ∷ xs) [] same = absurd same
same_events (x ∷ xs) (y ∷ ys) same =
    omega (arith, sum_by-cons (λ (one : Drilled). one.events) x xs, sum_by-cons (λ (one : Drilled). one.events) y ys, same.0.events_are, same_events xs ys same.1)

same_numbers : (xs ys : List Drilled) → AreSameTexts xs ys → sum_by (λ (one : Drilled). length one.keys) xs ≡ sum_by (λ (one : Drilled). length one.keys) ys
same_numbers [] [] same = refl
same_numbers [] (y ∷ ys) same = absurd same
same_numbers (x ∷ xs) [] same = absurd same
same_numbers (x ∷ xs) (y ∷ ys) same =
    omega (arith, sum_by-cons (λ (one : Drilled). length one.keys) x xs, sum_by-cons (λ (one : Drilled). length one.keys) y ys, same.0.number_is, same_numbers xs ys same.1)

pub same_lines : (xs ys : List Drilled) → AreSameTexts xs ys → drill_lines xs ≡ drill_lines ys
same_lines xs ys same = (λ i. same_texts 0 xs ys same i ++ total_line (same_events xs ys same i) (same_numbers xs ys same i))

-- so it is where it is so of each
pub same_each : (f : ℕ → Drilled) (xs : List Drilled) (from : ℕ) → ((at : ℕ) (x : Drilled) → slice_get xs at ≡ Some x → IsSameText x (f (from + at))) →
    AreSameTexts xs (map f (range_with_len from (length xs)))
same_each f [] from each = tt
same_each f (x ∷ xs) from each = (
  subst (λ n. IsSameText x (f n)) (let same : from + 0 ≡ from = omega arith in same) (each 0 x refl),
  same_each f xs (from + 1) (λ at y is. subst (λ n. IsSameText y (f n)) (let same : from + suc at ≡ from + 1 + at = omega arith in same) (each (suc at) y is)),
)
