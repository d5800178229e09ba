-- The texts of cones, one behind the other.
use Rattle.std.proofs.Common.{◌≡◌, ℕ, ◌+◌, ◌≤◌, zero, suc, List, [], ◌∷◌, ◌++◌, length, map, slice_get, take, drop, sum_by, Option, Some, ap, sym, ◌∙◌, subst, arith, append_assoc, append-nil}
use Rattle.std.proofs.{lemmas.List.{length-map, length-take-le, take-append-drop}, lemmas.Option.{same_Some, slice_get_within}}
use Rattle.lert_base.specs.Beginning.{BeginsWith}
use Rattle.lert_cone.specs.Stands.{Standing}
use Rattle.lert_spec.specs.Lines.{Printed, cone_text, cone_texts, lines, total_line}
use Rattle.lert_text.specs.Page.{IsCut}
use Rattle.lert_top.specs.cones.Print.{printed_as}
use Rattle.lert_text.proofs.Printing.{IsCut-more}

cone_texts-append : (n : ℕ) (xs ys : List Printed) → cone_texts n (xs ++ ys) ≡ cone_texts n xs ++ cone_texts (n + length xs) ys
cone_texts-append n [] ys = let same : n ≡ n + 0 = omega arith in ap (λ m. cone_texts m ys) same
cone_texts-append n (x ∷ xs) ys =
    let same : suc n + length xs ≡ n + suc (length xs) = omega arith in
    ap (λ text. cone_text n x ++ text) (cone_texts-append (suc n) xs ys ∙ ap (λ m. cone_texts (suc n) xs ++ cone_texts m ys) same)
    ∙ sym (append_assoc (cone_text n x) (cone_texts (suc n) xs) (cone_texts (n + suc (length xs)) ys))

-- the text of one cone more
pub texts_push : (cones : List Printed) (number : ℕ) (one : Printed) → length cones ≡ number → cone_texts 0 cones ++ cone_text number one ≡ cone_texts 0 (cones ++ one ∷ [])
texts_push cones number one is =
    let place : 0 + length cones ≡ number = omega (arith, is) in
    sym (cone_texts-append 0 cones (one ∷ [])
    ∙ ap (λ m. cone_texts 0 cones ++ cone_texts m (one ∷ [])) place
    ∙ ap (λ text. cone_texts 0 cones ++ text) (append-nil (cone_text number one)))

-- the texts of all cones and the totals are the whole text
pub lines_are : (cones : List Printed) (events reports : ℕ) → events ≡ sum_by (λ (p : Printed). p.events) cones → reports ≡ sum_by (λ (p : Printed). length p.reports) cones →
    cone_texts 0 cones ++ total_line events reports ≡ lines cones
lines_are cones events reports events_are reports_are =
    ap (λ n. cone_texts 0 cones ++ total_line n reports) events_are
    ∙ ap (λ n. cone_texts 0 cones ++ total_line (sum_by (λ (p : Printed). p.events) cones) n) reports_are

-- the first cones and the next one
pub printed_next : {B : Type 0} (cones : List (Standing B)) (n : ℕ) (cone : Standing B) → slice_get cones n ≡ Some cone →
    take n (map printed_as cones) ++ printed_as cone ∷ [] ≡ take (n + 1) (map printed_as cones)
printed_next [] n cone found = absurd (omega (arith, slice_get_within [] n cone found))
printed_next (x ∷ xs) zero cone found = ap (λ (c : Standing _). printed_as c ∷ []) (sym (same_Some x cone found))
printed_next (x ∷ xs) (suc n) cone found =
    let same : suc (n + 1) ≡ suc n + 1 = omega arith in
    ap (λ (ps : List Printed). printed_as x ∷ ps) (printed_next xs n cone found) ∙ ap (λ m. take m (map printed_as (x ∷ xs))) same

pub texts_next : {B : Type 0} (cones : List (Standing B)) (n : ℕ) (cone : Standing B) (one : Printed) → slice_get cones n ≡ Some cone → one ≡ printed_as cone →
    cone_texts 0 (take n (map printed_as cones)) ++ cone_text n one ≡ cone_texts 0 (take (n + 1) (map printed_as cones))
texts_next cones n cone one found is =
    let all = map printed_as cones in
    let within : n ≤ length all = omega (arith, slice_get_within cones n cone found, length-map cones printed_as) in
    texts_push (take n all) n one (length-take-le n all within) ∙ ap (cone_texts 0) (ap (λ (p : Printed). take n all ++ p ∷ []) is ∙ printed_next cones n cone found)

-- the texts of the first cones begin the text of all
pub texts_begin : (all : List Printed) (n : ℕ) → BeginsWith (lines all) (cone_texts 0 (take n all))
texts_begin all n =
    let total = total_line (sum_by (λ (p : Printed). p.events) all) (sum_by (λ (p : Printed). length p.reports) all) in
    let rest = cone_texts (0 + length (take n all)) (drop n all) in (
      rest ++ total,
      sym (append_assoc (cone_texts 0 (take n all)) rest total)
          ∙ ap (λ text. text ++ total) (sym (cone_texts-append 0 (take n all) (drop n all)) ∙ ap (cone_texts 0) (take-append-drop n all)),
    )

-- what is a part of a text that begins another is one of that
pub IsCut-begins : (start now : Option (List ℕ)) (text begun : List ℕ) → BeginsWith text begun → IsCut start now begun → IsCut start now text
IsCut-begins start now text begun begins cut = subst (IsCut start now) begins.1 (IsCut-more start now begun begins.0 cut)
