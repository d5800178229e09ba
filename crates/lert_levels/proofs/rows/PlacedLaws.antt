-- A directory from lists of frames, one for each level: there are rows that it names.
use Rattle.std.proofs.Common.{ℕ, ◌≡◌, ◌≢◌, ◌+◌, ◌-◌, ◌*◌, ◌/◌, ◌<◌, ◌≤◌, zero, suc, cond, ltb, eqb, List, [], ◌∷◌, ◌++◌, length, map, filter, get_or, min, max, count_by, refl, ap, ap₂, sym, ◌∙◌}
use Rattle.std.proofs.{Common.{arith, inl, inr, subst}, lemmas.Bool.{cases_eq, cases_lt, eq-eqb, ne_eqb, lt-ltb, le-ltb}, lemmas.List.{length-map, get_or-map}}
use Rattle.std.proofs.{lemmas.List.Elements.{All-head, All-tail}, lemmas.List.Sums.sum_by-cons}
use Rattle.std.specs.List.{All, AllPairs, range_with_len}
use Rattle.lert_spec.specs.{declared.numbers.Numbers.Numbers, Edges.{span, edge, capacity}, Limits.IsValid}
use Rattle.lert_levels.specs.{declared.rows.bin_at.BinAt.BinAt, rows.Named.{AreFramesAt, IsDirectory, frames_text}, rows.Ranges.{Range, range_at, ranges}}
use Rattle.lert_levels.specs.rows.Rows.{range_of, row_of, IsRow, times_named, directory_text}
use Rattle.lert_levels.proofs.{rows.DirectoryLaws.row_text, rows.RowLaws.row_at}

-- ---- bins of some positions, in these frames

placed : List Range → List ℕ → List BinAt
placed [] frames = []
placed (range ∷ positions) [] = []
placed (range ∷ positions) (frame ∷ frames) = record { from = range.from; to = range.to; frame = frame } ∷ placed positions frames

placed_ranges : (positions : List Range) (frames : List ℕ) → length frames ≡ length positions → map range_of (placed positions frames) ≡ positions
unfolding placed
placed_ranges [] frames len = refl
placed_ranges (range ∷ positions) [] len = absurd (omega arith)
placed_ranges (range ∷ positions) (frame ∷ frames) len = ap (λ rs. range ∷ rs) (placed_ranges positions frames (omega arith))

placed_frames : (positions : List Range) (frames : List ℕ) → length frames ≡ length positions → map (λ (bin : BinAt). bin.frame) (placed positions frames) ≡ frames
unfolding placed
placed_frames [] [] len = refl
placed_frames [] (frame ∷ frames) len = absurd (omega arith)
placed_frames (range ∷ positions) [] len = absurd (omega arith)
placed_frames (range ∷ positions) (frame ∷ frames) len = ap (λ fs. frame ∷ fs) (placed_frames positions frames (omega arith))

-- ---- no frame twice

none_named : (row : List BinAt) (frame : ℕ) → All (λ (bin : BinAt). bin.frame ≢ frame) row → times_named row frame ≡ 0
none_named [] frame other = refl
none_named (bin ∷ row) frame other =
    let parts = sum_by-cons (λ (b : BinAt). cond {A = ℕ} (eqb b.frame frame) 1 0) bin row in
    let here = ap (λ t. cond {A = ℕ} t 1 0) (ne_eqb bin.frame frame (All-head (λ (b : BinAt). b.frame ≢ frame) bin row other)) in
    omega (arith, none_named row frame (All-tail (λ (b : BinAt). b.frame ≢ frame) bin row other))

once_named : (row : List BinAt) → AllPairs (λ one other. one ≢ other) (map (λ (bin : BinAt). bin.frame) row) → (frame : ℕ) → times_named row frame ≤ 1
once_named [] distinct frame = omega arith
once_named (bin ∷ row) distinct frame =
    let parts = sum_by-cons (λ (b : BinAt). cond {A = ℕ} (eqb b.frame frame) 1 0) bin row in
    let count = length-map row (λ (b : BinAt). b.frame) in
    elim (cases_eq bin.frame frame) [
      | inl same ↦ (
          let here = ap (λ t. cond {A = ℕ} t 1 0) (eq-eqb bin.frame frame same) in
          let others : All (λ (b : BinAt). b.frame ≢ frame) row = λ k d below twice.
          distinct 0 (suc k) d.frame (omega arith) (omega (arith, below, count)) (same ∙ sym twice ∙ sym (get_or-map (λ (b : BinAt). b.frame) row k d d.frame below)) in
          omega (arith, none_named row frame others))
      | inr other ↦ (
          let here = ap (λ t. cond {A = ℕ} t 1 0) (ne_eqb bin.frame frame other) in
          omega (arith, once_named row (λ i j d before below. distinct (suc i) (suc j) d (omega arith) (omega arith)) frame))
    ]

-- ---- a level's row

module _ (s : Numbers) (valid : IsValid s) (n : ℕ) (within : n ≤ capacity s) where
  is_row : (level : ℕ) → 1 ≤ level → (frames : List ℕ) → AreFramesAt s n level frames → IsRow s level (placed (ranges s n level) frames)
  is_row level from frames are =
      let row = placed (ranges s n level) frames in
      let numbers = placed_frames (ranges s n level) frames are.counted in
      let known : All (λ frame. frame ≤ s.bins) (map (λ (bin : BinAt). bin.frame) row) = subst (All (λ frame. frame ≤ s.bins)) (sym numbers) are.known in
      row_at s valid n level row within from (placed_ranges (ranges s n level) frames are.counted)
      (once_named row (subst (AllPairs (λ one other. one ≢ other)) (sym numbers) are.distinct))
      (λ k d below. subst (λ frame. frame ≤ s.bins) (get_or-map (λ (bin : BinAt). bin.frame) row k d d.frame below)
      (known k d.frame (omega (arith, below, length-map row (λ (bin : BinAt). bin.frame)))))

  -- ---- the rows from a level on

  placed_rows : ℕ → List (List ℕ) → List (List BinAt)
  placed_rows level [] = []
  placed_rows level (frames ∷ levels) = placed (ranges s n level) frames ∷ placed_rows (suc level) levels

  many_rows : (level : ℕ) (levels : List (List ℕ)) → length (placed_rows level levels) ≡ length levels
  unfolding placed_rows
  many_rows level [] = refl
  many_rows level (frames ∷ levels) = ap suc (many_rows (suc level) levels)

  row_there : (level : ℕ) (levels : List (List ℕ)) (k : ℕ) → k < length levels → get_or (placed_rows level levels) k [] ≡ placed (ranges s n (level + k)) (get_or levels k [])
  unfolding placed_rows
  row_there level [] k below = absurd (omega arith)
  row_there level (frames ∷ levels) zero below = ap (λ l. placed (ranges s n l) frames) (let same : level ≡ level + 0 = omega arith in same)
  row_there level (frames ∷ levels) (suc k) below =
      row_there (suc level) levels k (omega arith) ∙ ap (λ l. placed (ranges s n l) (get_or levels k [])) (let same : suc level + k ≡ level + suc k = omega arith in same)

  text_there : (level : ℕ) (levels : List (List ℕ)) → ((k : ℕ) → k < length levels → length (get_or levels k []) ≡ length (ranges s n (level + k))) →
      directory_text (placed_rows level levels) ≡ frames_text levels
  unfolding placed_rows
  text_there level [] counted = refl
  text_there level (frames ∷ levels) counted =
      let here : length frames ≡ length (ranges s n level) = counted 0 (omega arith) ∙ ap (λ l. length (ranges s n l)) (let same : level + 0 ≡ level = omega arith in same) in
      let numbers = placed_frames (ranges s n level) frames here in
      let many : length (placed (ranges s n level) frames) ≡ length frames = sym (length-map (placed (ranges s n level) frames) (λ (bin : BinAt). bin.frame)) ∙ ap length numbers in
      let front : row_text (placed (ranges s n level) frames) ≡ length frames ∷ frames = ap₂ (λ m fs. m ∷ fs) many numbers in
      ap₂ (λ a b. a ++ b) front
      (text_there (suc level) levels (λ k below. counted (suc k) (omega arith) ∙ ap (λ l. length (ranges s n l)) (let same : level + suc k ≡ suc level + k = omega arith in same)))

  -- a directory names rows where each level has as many frames as bins, of those that it has, and none twice
  pub directory_of_frames : (levels : List (List ℕ)) → length levels ≡ s.levels → ((k : ℕ) → k < s.levels → AreFramesAt s n (k + 1) (get_or levels k [])) →
      IsDirectory s n (frames_text levels)
  directory_of_frames levels len are =
      let rows = placed_rows 1 levels in
      let count : length rows ≡ s.levels = many_rows 1 levels ∙ len in
      let row_is : (level : ℕ) → 1 ≤ level → level ≤ s.levels → row_of rows level ≡ placed (ranges s n level) (get_or levels (level - 1) []) =
      λ level from last. row_there 1 levels (level - 1) (omega arith) ∙ ap (λ l. placed (ranges s n l) (get_or levels (level - 1) [])) (let same : 1 + (level - 1) ≡ level = omega arith in
      same) in
      let frames_are : (level : ℕ) → 1 ≤ level → level ≤ s.levels → AreFramesAt s n level (get_or levels (level - 1) []) =
      λ level from last. subst (λ l. AreFramesAt s n l (get_or levels (level - 1) [])) (let same : level - 1 + 1 ≡ level = omega arith in same) (are (level - 1) (omega arith)) in
      record {
        rows = rows;
        named = record {
          at = record {
            levels = count;
            each = λ level from last. ap (map range_of) (row_is level from last) ∙ placed_ranges (ranges s n level) (get_or levels (level - 1) []) (frames_are level from last).counted;
          };
          are = record {
            levels = count;
            each = λ level from last. subst (IsRow s level) (sym (row_is level from last)) (is_row level from (get_or levels (level - 1) []) (frames_are level from last));
          };
          text_is = text_there 1 levels (λ k below. (are k (omega arith)).counted ∙ ap (λ l. length (ranges s n l)) (let same : k + 1 ≡ 1 + k = omega arith in same));
        };
      }

-- ---- how many bins a level has, counted by its intervals

counted_by : (wide low high : ℕ) (ks : List ℕ) →
    length (filter (λ range. ltb range.from range.to) (map (range_at wide low high) ks)) ≡ count_by (λ k. ltb (max low (k * wide)) (min high ((k + 1) * wide))) ks
counted_by wide low high [] = refl
counted_by wide low high (k ∷ ks) =
    let rest = filter (λ (range : Range). ltb range.from range.to) (map (range_at wide low high) ks) in
    let parts = sum_by-cons (λ j. cond {A = ℕ} (ltb (max low (j * wide)) (min high ((j + 1) * wide))) 1 0) k ks in
    let more = counted_by wide low high ks in
    let same : suc k * wide ≡ (k + 1) * wide = ap (λ j. j * wide) (let next : suc k ≡ k + 1 = omega arith in next) in
    let test = ap (λ e. ltb (max low (k * wide)) (min high e)) same in
    elim (cases_lt (max low (k * wide)) (min high ((k + 1) * wide))) [
      | inl some ↦ (
          let yes = lt-ltb (max low (k * wide)) (min high ((k + 1) * wide)) some in
          let one = ap (λ t. cond {A = ℕ} t 1 0) yes in
          let longer = ap (λ t. length (cond {A = List Range} t (range_at wide low high k ∷ rest) rest)) (test ∙ yes) in
          omega arith)
      | inr none ↦ (
          let no_more = le-ltb (max low (k * wide)) (min high ((k + 1) * wide)) none in
          let zero_more = ap (λ t. cond {A = ℕ} t 1 0) no_more in
          let same_len = ap (λ t. length (cond {A = List Range} t (range_at wide low high k ∷ rest) rest)) (test ∙ no_more) in
          omega arith)
    ]

pub ranges_counted : (s : Numbers) (n level : ℕ) →
    length (ranges s n level) ≡ count_by (λ k. ltb (max (edge s level n) (k * span s level)) (min (edge s (level - 1) n) ((k + 1) * span s level))) (range_with_len 0 (n / span s level + 1))
ranges_counted s n level =
    counted_by (span s level) (edge s level n) (edge s (level - 1) n) (range_with_len 0 (suc (n / span s level)))
    ∙ ap (λ m. count_by (λ k. ltb (max (edge s level n) (k * span s level)) (min (edge s (level - 1) n) ((k + 1) * span s level))) (range_with_len 0 m))
    (let next : suc (n / span s level) ≡ n / span s level + 1 = omega arith in next)
