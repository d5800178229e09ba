-- Rows with no bin, rows that move on one by one, and what a directory needs.
use Rattle.std.proofs.Common.{ℕ, ◌≡◌, ◌+◌, ◌-◌, ◌*◌, ◌<◌, ◌≤◌, List, [], ◌∷◌, ◌++◌, length, take, drop, get_or, set, replicate, ap, ap₂, sym, ◌∙◌, arith, inl, inr, subst, Bool, true, false}
use Rattle.std.proofs.lemmas.Bool.{cases_lt, cond-true, cond-false, le-ltb}
use Rattle.std.proofs.lemmas.List.{length-map, get_or-replicate, get_or_past, length-replicate, same_lists, take_at, get_or-set_same, get_or-set_other, get_or_default}
use Rattle.std.proofs.{lemmas.List.Concat.length-flat_map, lemmas.List.Elements.All-nil, lemmas.List.FromFn.{get_or-map-range_with_len, length-map-range_with_len}, lemmas.List.Sums.sum_by-le}
use Rattle.std.specs.Prelude.{nat_lt, if◌then◌else◌}
use Rattle.lert_spec.specs.{declared.numbers.Numbers.Numbers, Edges.{span, depth}}
use Rattle.lert_levels.specs.{declared.rows.bin_at.BinAt.BinAt, rows.Rows.{row_of, IsRow, AreRows, directory_text, begins, kept, arrived, moved_row, moved}}
use Rattle.lert_levels.proofs.{rows.RowLaws.all_rows, rows.DirectoryLaws.row_text}

-- rows with no bin
pub row_of-none : (n level : ℕ) → row_of (replicate n []) level ≡ []
row_of-none n level =
    elim (cases_lt (level - 1) n) [
      | inl within ↦ get_or-replicate n (level - 1) [] [] within
      | inr past ↦ get_or_past (replicate {A = List BinAt} n []) (level - 1) [] (omega (arith, length-replicate {A = List BinAt} n []))
    ]

pub IsRow-none : (s : Numbers) (level : ℕ) → IsRow s level []
IsRow-none s level = record {
  few = omega arith;
  distinct = λ frame. omega arith;
  frames = All-nil (λ (bin : BinAt). bin.frame ≤ s.bins);
  some = All-nil (λ (bin : BinAt). bin.from < bin.to);
  widths = All-nil (λ (bin : BinAt). bin.to - bin.from ≤ span s level);
  ends = λ k d below. absurd (omega arith);
}

pub AreRows-none : (s : Numbers) → AreRows s (replicate s.levels [])
AreRows-none s = record {
  levels = length-replicate {A = List BinAt} s.levels [];
  each = λ level from within. subst (IsRow s level) (sym (row_of-none s.levels level)) (IsRow-none s level);
}

-- a directory is no longer than the numbers of all bins and a byte a level
pub directory_short : (s : Numbers) (rows : List (List BinAt)) → AreRows s rows → length (directory_text rows) ≤ s.levels * (1 + s.bins)
directory_short s rows are =
    let whole = length-flat_map row_text rows in
    let product = ap (λ n. n * (1 + s.bins)) are.levels in
    omega (
      arith,
      sum_by-le (λ (row : List BinAt). length (row_text row)) (1 + s.bins) rows
          (λ k d below. (let long = length-map (get_or rows k d) (λ (bin : BinAt). bin.frame) in
          omega (arith, ((all_rows s rows are).each k below).few, ap (length {A = BinAt}) (get_or_default rows k d [] below)))),
    )

-- rows that are moved on one by one
pub rows_moved : (s : Numbers) (m : ℕ) (before after : List (List BinAt)) → length after ≡ length before →
    ((k : ℕ) → k < length before → get_or after k [] ≡ moved_row s m (k + 1) (get_or before k [])) → after ≡ moved s m before
rows_moved s m before after len each =
    let moved_at : ℕ → List BinAt = λ level. moved_row s m level (row_of before level) in
    let count = length-map-range_with_len moved_at 1 (length before) in
    same_lists after (moved s m before) (omega arith)
    (λ k d below. (
    let place : k + 1 - 1 ≡ k = omega arith in
    get_or_default after k d [] below
    ∙ each k (omega arith)
    ∙ ap (λ n. moved_row s m (k + 1) (get_or before n [])) (sym place)
    ∙ sym (get_or-map-range_with_len moved_at 1 (length before) k (k + 1) d (omega arith) (omega arith))))

-- one row more that is moved on
pub moved_on : (s : Numbers) (m : ℕ) (before rows : List (List BinAt)) (i : ℕ) (e new : List BinAt) → i < length rows →
    ((k : ℕ) → k < i → get_or rows k [] ≡ moved_row s m (k + 1) (get_or before k [])) →
    ((k : ℕ) (d : List BinAt) → i ≤ k → get_or rows k d ≡ get_or before k d) → new ≡ moved_row s m (i + 1) (get_or rows i e) → (k : ℕ) → k < i + 1 →
    get_or (set rows i new) k [] ≡ moved_row s m (k + 1) (get_or before k [])
moved_on s m before rows i e new within done left is k below =
    elim (cases_lt k i) [
      | inl earlier ↦ get_or-set_other rows i k new [] (λ same. omega arith) ∙ done k earlier
      | inr last ↦ (
          let same : i ≡ k = omega arith in
          subst (λ (n : ℕ). get_or (set rows i new) n [] ≡ moved_row s m (n + 1) (get_or before n [])) same
          (get_or-set_same rows i new [] within ∙ is ∙ ap (moved_row s m (i + 1)) (get_or_default rows i e [] within ∙ left i [] (omega arith))))
    ]

-- a vector whose items were written through a slice of all of them
pub written_back : {V : Type 0} (n : ℕ) (new rows : List V) → length new ≡ n → take n (new ++ drop (length new) rows) ≡ new
written_back n new rows len = take_at new (drop (length new) rows) n len

-- the bins that stay where the newest one is joined
pub kept_joined : (s : Numbers) (m level : ℕ) (row new : List BinAt) (began : Bool) → began ≡ false → began ≡ begins s m level → new ≡ take (length row - 1) row →
    new ≡ kept s m level row
kept_joined s m level row new began other test is =
    is ∙ sym (cond-false (begins s m level) row (take (length row - 1) row) (sym test ∙ other))

-- and where the bin that comes in begins an interval
pub kept_begun : (s : Numbers) (m level : ℕ) (row new : List BinAt) (began : Bool) → began ≡ true → began ≡ begins s m level → new ≡ row → new ≡ kept s m level row
kept_begun s m level row new began begun test is = is ∙ sym (cond-true (begins s m level) row (take (length row - 1) row) (sym test ∙ begun))

-- a row that a flush so deep reaches
pub row_moved : (s : Numbers) (m level deep gone : ℕ) (row lent stay new : List BinAt) (bin : BinAt) → deep ≡ depth s m → level ≤ deep → lent ≡ row →
    bin ≡ arrived s m level lent → stay ≡ kept s m level row → gone ≡ (if nat_lt level deep then 1 else 0) → new ≡ drop gone (stay ++ bin ∷ []) →
    new ≡ moved_row s m level row
row_moved s m level deep gone row lent stay new bin deep_is reached lent_is bin_is stays gone_is is =
    let after = kept s m level row ++ arrived s m level row ∷ [] in
    is
    ∙ ap₂ (λ bins b. drop gone (bins ++ b ∷ [])) stays (bin_is ∙ ap (arrived s m level) lent_is)
    ∙ ap (λ n. drop n after) (gone_is ∙ ap (λ n. if nat_lt level n then 1 else 0) deep_is)
    ∙ sym (cond-false (nat_lt (depth s m) level) row _ (le-ltb (depth s m) level (subst (λ (n : ℕ). level ≤ n) deep_is reached)))
