-- What the definition says of each status fits into the line and names its fields, and so does what the table says.
use Rattle.std.proofs.Common.{Bor, ℕ, ◌≡◌, ◌+◌, ◌<◌, ◌≤◌, Bool, true, true≢false, leb, ltb, List, [], length, get_or, map, sum_by, refl, ap, ap₂, sym, ◌∙◌, arith, inl, inr, subst}
use Rattle.std.proofs.lemmas.{Bool.{cases_Bool, ltb-true, leb-true}, List.{get_or-map, length-map}, List.Folds.{list_all_at, fold-map}}
use Rattle.std.specs.List.{All, list_all}
use Rattle.lert_text.specs.{declared.causes.Part.Part as Entry, Parts.{part_of, rows_of, NamesField, most_bytes}, StatusLine.{Part, text, field, causes, parts}}

-- what is true of all is true of each
each_is : {A : Type 0} (test : A → Bool) (xs : List A) → list_all test xs ≡ true → (k : ℕ) (d : A) → k < length xs → test (get_or xs k d) ≡ true
each_is test xs all k d below = elim (cases_Bool (test (get_or xs k d))) [
  | inl is ↦ is
  | inr not ↦ absurd (true≢false (sym all ∙ list_all_at test xs k d below not))
]

abbrev names_field : ℕ → Part → Bool
names_field fields (text bytes) = true
names_field fields (field place) = ltb place fields

names_is : (fields : ℕ) (part : Part) → names_field fields part ≡ true → NamesField fields part
names_is fields (text bytes) is = tt
names_is fields (field place) is = ltb-true place fields is

-- a row of a table whose rows say what the definition does
pub row_is : (rows : List (Bor (List Entry))) (place number : ℕ) (d : Bor (List Entry)) → rows_of rows ≡ causes → place ≡ number → number < length causes →
    map part_of (get_or rows place d).now ≡ parts number
row_is rows place number d same is there =
    let says = λ (row : Bor (List Entry)). map part_of row.now in
    let below : place < length rows = omega (arith, ap length same, length-map rows says) in
    sym (get_or-map says rows place d [] below) ∙ ap₂ (λ (list : List (List Part)) k. get_or list k []) same is

module _ (number : ℕ) (row : List Entry) (is : map part_of row ≡ parts number) (there : number < length causes) where
  -- it names some of the five fields
  pub row_names : All (λ part. NamesField 5 (part_of part)) row
  row_names =
      let all : list_all (names_field 5) (map part_of row) ≡ true =
      ap (list_all (names_field 5)) is ∙ each_is (list_all (names_field 5)) causes refl number [] there in
      λ k d below.
      let named = each_is (names_field 5) (map part_of row) all k (part_of d) (subst (λ n. k < n) (sym (length-map row part_of)) below) in
      names_is 5 (part_of (get_or row k d)) (ap (names_field 5) (sym (get_or-map part_of row k d (part_of d) below)) ∙ named)

  -- and takes at most 90 bytes
  pub row_fits : sum_by (λ part. most_bytes (part_of part)) row ≤ 90
  row_fits =
      let short = each_is (λ some. leb (sum_by most_bytes some) 90) causes refl number [] there in
      subst (λ n. n ≤ 90) (ap (sum_by most_bytes) (sym is) ∙ fold-map (λ n part. n + most_bytes part) part_of 0 row) (leb-true (sum_by most_bytes (parts number)) 90 short)
