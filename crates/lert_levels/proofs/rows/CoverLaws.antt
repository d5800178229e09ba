-- What the bins of several levels count together, and what the new bins of a flush hold.
use Rattle.std.proofs.Common.{ℕ, ◌≡◌, ◌+◌, ◌-◌, ◌^◌, ◌≤◌, zero, suc, List, [], ◌∷◌, ◌++◌, length, map, get_or, take, ap, sym, ◌∙◌, arith, subst, sum_by, flat_map, slice_range, append-nil}
use Rattle.std.proofs.{lemmas.Grind.flat_map-append, lemmas.List.{take_more, take_all}, lemmas.List.Sums.sum_by-append}
use Rattle.lert_spec.specs.{declared.item.Item.Item, declared.numbers.Numbers.Numbers, declared.piece.Piece.Piece, Bins.{Bin, tally}, Counts.weighed}
use Rattle.lert_spec.specs.{Edges.{edge, depth, lookback, capacity, tail_bits}, Limits.IsValid}
use Rattle.lert_spec.specs.Table.{count_of, IsTable}
use Rattle.lert_spec.proofs.EdgeLaws.{edge_descends_to, deepest_within, span_pos}
use Rattle.lert_levels.specs.{declared.rows.bin_at.BinAt.BinAt, rows.Loading.held_in, rows.Ranges.{Range, young_bins}, rows.Rows.{range_of, row_of, IsAt, tallied_in}}
use Rattle.lert_levels.proofs.{rows.RangeLaws.{edge_within, oldest_edge}, rows.WeightLaws.WeighAll}
use Rattle.lert_levels.proofs.{rows.Windows.{counted, counted-none, counted-join, ranges_cover, sum_by-map, young_cover, window_table}}

abbrev of_tail : ℕ → List Piece → ℕ
of_tail tail pieces = count_of pieces tail

module _ (s : Numbers) (valid : IsValid s) where
  base : 1 ≤ s.base
  base = omega (arith, valid.limits.base_from)

  ratio : 1 ≤ s.ratio
  ratio = omega (arith, valid.limits.ratio_from)

  -- an older level's edge is no greater than that of level 0
  below_youngest : (level n : ℕ) → edge s level n ≤ edge s 0 n
  below_youngest level n = subst (λ i. edge s i n ≤ edge s 0 n) (let same : 0 + level ≡ level = omega arith in same) (edge_descends_to s base ratio 0 level n)

  descends_from : (level n : ℕ) → edge s (suc level) n ≤ edge s level n
  descends_from level n = subst (λ i. edge s i n ≤ edge s level n) (let same : level + 1 ≡ suc level = omega arith in same) (edge_descends_to s base ratio level 1 n)

  -- the bins of the levels from 1 up to one count what stands between its edge and that of level 0
  pub rows_cover : (events : List Item) (tail n : ℕ) (rows : List (List BinAt)) → WeighAll events → IsAt s n rows → (level : ℕ) → level ≤ s.levels →
      sum_by (of_tail tail) (held_in (tallied_in s events) (take level rows)) ≡ counted s events tail (edge s level n) (edge s 0 n)
  rows_cover events tail n rows all at zero within = sym (counted-none s events tail (edge s 0 n))
  rows_cover events tail n rows all at (suc level) within =
      let lists = λ (row : List BinAt). map (tallied_in s events) row in
      let row = get_or rows level [] in
      let here : row_of rows (suc level) ≡ row = ap (λ k. get_or rows k []) (let same : suc level - 1 ≡ level = omega arith in same) in
      let more : take (suc level) rows ≡ take level rows ++ row ∷ [] =
      ap (λ k. take k rows) (let same : suc level ≡ level + 1 = omega arith in same) ∙ take_more rows level [] (omega (arith, at.levels)) in
      let before = rows_cover events tail n rows all at level (omega arith) in
      let own : sum_by (of_tail tail) (lists row) ≡ counted s events tail (edge s (suc level) n) (edge s level n) =
      sum_by-map (tallied_in s events) (of_tail tail) row
      ∙ sym (sum_by-map range_of (λ (range : Range). counted s events tail range.from range.to) row)
      ∙ ap (λ r. sum_by (λ (range : Range). counted s events tail range.from range.to) (map range_of r)) (sym here)
      ∙ ap (sum_by (λ (range : Range). counted s events tail range.from range.to)) (at.each (suc level) (omega arith) within)
      ∙ ranges_cover s events tail n (suc level) all base ratio (omega arith)
      ∙ ap (λ k. counted s events tail (edge s (suc level) n) (edge s k n)) (let same : suc level - 1 ≡ level = omega arith in same) in
      let joined = counted-join s events tail (edge s (suc level) n) (edge s level n) (edge s 0 n) all (descends_from level n) (below_youngest level n) in
      let parts : sum_by (of_tail tail) (held_in (tallied_in s events) (take (suc level) rows)) ≡ sum_by (of_tail tail) (held_in (tallied_in s events) (take level rows))
      + sum_by (of_tail tail) (lists row) =
      ap (λ rs. sum_by (of_tail tail) (flat_map lists rs)) more
      ∙ ap (sum_by (of_tail tail)) (flat_map-append lists (take level rows) (row ∷ []) ∙ ap (λ rest. flat_map lists (take level rows) ++ rest) (append-nil (lists row)))
      ∙ sum_by-append (of_tail tail) (flat_map lists (take level rows)) (lists row) in
      omega arith

  -- with those of level 0 above its edge they count all behind the older edge
  pub all_cover : (events : List Item) (tail n : ℕ) (rows : List (List BinAt)) → WeighAll events → IsAt s n rows → n ≤ length events → (level : ℕ) → level ≤ s.levels →
      sum_by (of_tail tail) (map (λ (bin : Bin). bin.pieces) (young_bins s events (edge s 0 n)) ++ held_in (tallied_in s events) (take level rows))
      ≡ counted s events tail (edge s level n) (length events)
  all_cover events tail n rows all at within level reached =
      let young = young_bins s events (edge s 0 n) in
      let pieces = λ (bin : Bin). bin.pieces in
      let edge_low = edge_within s 0 n in
      let parts = sum_by-append (of_tail tail) (map pieces young) (held_in (tallied_in s events) (take level rows)) in
      let first = sum_by-map pieces (of_tail tail) young ∙ young_cover s events tail (edge s 0 n) all base ratio (omega arith) in
      let others = rows_cover events tail n rows all at level reached in
      let joined = counted-join s events tail (edge s level n) (edge s 0 n) (length events) all (below_youngest level n) (omega arith) in
      omega arith

  -- the totals of the flush at m
  pub flush_totals : (events : List Item) (m : ℕ) (rows : List (List BinAt)) (pieces : List Piece) → WeighAll events → IsAt s (m - 1) rows → length events ≡ m → IsTable (2 ^ tail_bits s) pieces →
      ((tail : ℕ) → count_of pieces tail ≡ sum_by (of_tail tail) (map (λ (bin : Bin). bin.pieces) (young_bins s events (edge s 0 (m - 1)))
      ++ held_in (tallied_in s events) (take (depth s m) rows))) →
      pieces ≡ tally weighed s (slice_range events (lookback s m) m)
  flush_totals events m rows pieces all at len table sums =
      window_table s events (lookback s m) m pieces all table
      (λ tail. sums tail ∙ all_cover events tail (m - 1) rows all at (omega arith) (depth s m) (deepest_within s base ratio s.levels m)
      ∙ ap (counted s events tail (lookback s m)) len)

  -- the totals of all events
  pub scan_totals : (events : List Item) (rows : List (List BinAt)) (pieces : List Piece) → WeighAll events → IsAt s (length events) rows → length events ≤ capacity s →
      IsTable (2 ^ tail_bits s) pieces →
      ((tail : ℕ) → count_of pieces tail ≡ sum_by (of_tail tail) (map (λ (bin : Bin). bin.pieces) (young_bins s events (edge s 0 (length events)))
      ++ held_in (tallied_in s events) (take s.levels rows))) →
      pieces ≡ tally weighed s events
  scan_totals events rows pieces all at fits table sums =
      let n = length events in
      let positive = span_pos s s.levels base ratio in
      let start = oldest_edge s base ratio n (omega arith) in
      let whole : slice_range events 0 n ≡ events = take_all (n - 0) events (omega arith) in
      window_table s events 0 n pieces all table
      (λ tail. sums tail ∙ all_cover events tail n rows all at (omega arith) s.levels (omega arith) ∙ ap (λ from. counted s events tail from n) start)
      ∙ ap (tally weighed s) whole
