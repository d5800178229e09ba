-- What the parts of a flush's merge make: the new bins.
use Rattle.std.proofs.Common.{ℕ, ◌≡◌, ◌+◌, ◌-◌, ◌*◌, ◌/◌, ◌%◌, ◌^◌, ◌<◌, ◌≤◌, ◌≢◌, zero, suc, cond, true, false, List, [], ◌∷◌, ◌++◌, length, map, take, get_or, Some, None, refl, ap, ap₂, sym, ◌∙◌}
use Rattle.std.proofs.{Common.{arith, inl, inr, subst, flat_map, slice_range}, Math.Nat.{mul-suc, mul_comm, mul-mod_left}, lemmas.Bool.{cases_Bool, cases_eq, eq-eqb}}
use Rattle.std.proofs.{lemmas.List.{get_or-map, length-map, length-take, get_or_append_left}, lemmas.List.Sums.sum_by-cons}
use Rattle.std.specs.{Prelude.sum, List.All}
use Rattle.lert_spec.specs.{declared.item.Item.Item, declared.numbers.Numbers.Numbers, declared.piece.Piece.Piece, Bins.{Bin, tally}, Counts.weighed}
use Rattle.lert_spec.specs.{Edges.{span, edge, depth, capacity, tail_bits}, Limits.IsValid}
use Rattle.lert_spec.specs.Table.{count_of, IsTable}
use Rattle.lert_spec.proofs.{EdgeLaws.{steps, moves_by_one, deepest_within}, TallyLaws.tally_table}
use Rattle.lert_levels.specs.{landing.Summed.{sums_of, AreTables}, declared.rows.bin_at.BinAt.BinAt, rows.Loading.{width_of, widths_in, held_in}, Merged.{streams_of, widths_of, Fills, AreBins}}
use Rattle.lert_levels.specs.{Parts.{streams_to, oldest_stream, part_at, list_at, newest_in, in_part, part_table, HaveParts}, rows.Ranges.{Range, ranges, filled, young_bins}}
use Rattle.lert_levels.specs.rows.Rows.{range_of, row_of, IsAt, newest, begins, arrived, tallied_in, no_bin}
use Rattle.lert_levels.proofs.{landing.SummedLaws.{count_in, IsTable-sums_of, count_of-sums_of}, PartLaws.{streams_more, stream_at}, rows.RangeLaws.{range_cuts, oldest_is, oldest_young, depth_moves}}
use Rattle.lert_levels.proofs.{rows.RowLaws.{row_among, Arrives, arrives}, rows.WeightLaws.{WeighAll, weigh_slice}, rows.Windows.{counted, counted-join, window_table, young-ranges}}

-- a level's newest bin among the streams
newest_at : {X : Type 0} (h : BinAt → X) (first : List X) (rows : List (List BinAt)) (young k : ℕ) (e : X) → length first ≡ young → k < length rows →
    1 ≤ length (get_or rows k []) →
    get_or (first ++ flat_map (λ row. map h row) rows) (streams_to young rows (k + 1) - 1) e ≡ h (newest (get_or rows k []))
newest_at h first rows young k e len below some =
    let row = get_or rows k [] in
    let more = streams_more young rows k below in
    stream_at (λ r. map h r) (λ r. length-map r h) first rows young k (length row - 1) (streams_to young rows (k + 1) - 1) e len below (omega arith) (omega arith)
    ∙ get_or-map h row (length row - 1) no_bin e (omega arith)

-- the oldest one of an older level
oldest_at : {X : Type 0} (h : BinAt → X) (first : List X) (rows : List (List BinAt)) (young k : ℕ) (e : X) → length first ≡ young → k < length rows →
    1 ≤ length (get_or rows k []) →
    get_or (first ++ flat_map (λ row. map h row) rows) (oldest_stream young rows (suc k)) e ≡ h (get_or (get_or rows k []) 0 no_bin)
oldest_at h first rows young k e len below some =
    stream_at (λ r. map h r) (λ r. length-map r h) first rows young k 0 (streams_to young rows k) e len below (omega arith) (omega arith)
    ∙ get_or-map h (get_or rows k []) 0 no_bin e (omega arith)

-- one of some bins
bins_at : (version limit : ℕ) (widths : List ℕ) (lists : List (List Piece)) (k : ℕ) → AreBins version limit widths lists → k < length lists →
    Fills version limit (get_or widths k 0) (get_or lists k [])
bins_at version limit [] [] k are below = absurd (omega arith)
bins_at version limit [] (list ∷ lists) k are below = absurd are
bins_at version limit (width ∷ widths) [] k are below = absurd are
bins_at version limit (width ∷ widths) (list ∷ lists) zero are below = are.0
bins_at version limit (width ∷ widths) (list ∷ lists) (suc k) are below = bins_at version limit widths lists k are.1 (omega arith)

pub tables_from_bins : (version limit : ℕ) (widths : List ℕ) (lists : List (List Piece)) → AreBins version limit widths lists → AreTables limit lists
tables_from_bins version limit widths lists are = λ k below. (bins_at version limit widths lists k are below).given.table

-- the first of two or one
pair_tables : (limit : ℕ) (oldest : List Piece) (others : List (List Piece)) → IsTable limit oldest → AreTables limit others → AreTables limit (oldest ∷ others)
pair_tables limit oldest others table are zero below = table
pair_tables limit oldest others table are (suc k) below = are k (omega arith)

no_tables : (limit : ℕ) → AreTables limit []
no_tables limit k below = absurd (omega arith)

module _ (s : Numbers) (valid : IsValid s) (m : ℕ) (first : 1 ≤ m) (fits : m ≤ capacity s) (rows : List (List BinAt)) (at : IsAt s (m - 1) rows) where
  base : 1 ≤ s.base
  base = omega (arith, valid.limits.base_from)

  ratio : 1 ≤ s.ratio
  ratio = omega (arith, valid.limits.ratio_from)

  pub deep : depth s m ≤ s.levels
  deep = deepest_within s base ratio s.levels m

  pub enough : length (take (depth s m) rows) ≡ depth s m
  enough = omega (arith, length-take (depth s m) rows, at.levels, deep)

  -- the row of a level that the flush reaches
  row_is : (k : ℕ) → k < depth s m → row_of rows (k + 1) ≡ get_or (take (depth s m) rows) k []
  row_is k less = row_among rows (depth s m) k less

  ranges_are : (k : ℕ) → k < depth s m → map range_of (get_or (take (depth s m) rows) k []) ≡ ranges s (m - 1) (k + 1)
  ranges_are k less = ap (map range_of) (sym (row_is k less)) ∙ at.each (k + 1) (omega arith) (omega (arith, deep))

  comes : (k : ℕ) → k < depth s m → Arrives s m (k + 1) (get_or (take (depth s m) rows) k [])
  comes k less = arrives s valid m first fits (k + 1) (get_or (take (depth s m) rows) k []) (omega arith) (omega arith) (ranges_are k less)

  -- the oldest bin of a level that goes on
  record IsOldest (k : ℕ) (row : List BinAt) : Type 0 where
    some : 1 ≤ length row
    is : range_of (get_or row 0 no_bin) ≡ record { from = edge s (k + 1) (m - 1); to = edge s (k + 1) m }

  goes : (k : ℕ) → suc k < depth s m → IsOldest k (get_or (take (depth s m) rows) k [])
  goes k less =
      let row = get_or (take (depth s m) rows) k [] in
      let oldest = oldest_is s base ratio (k + 1) m (omega arith) first (omega (arith, valid.limits.bins_from)) (omega arith) in
      let are = ranges_are k (omega arith) ∙ oldest.1 in
      let some : 1 ≤ length row = omega (arith, length-map row range_of, ap (length {A = Range}) are) in
      record {
        some = some;
        is = sym (get_or-map range_of row 0 no_bin (range_of no_bin) some) ∙ ap (λ rs. get_or rs 0 (range_of no_bin)) are;
      }

  -- ---- the counts

  -- the stream of the oldest bin below a level holds the counts of what comes to the level
  oldest_holds : (events : List Item) → length events ≡ m → (k : ℕ) → k < depth s m →
      list_at (streams_of (young_bins s events (edge s 0 (m - 1))) (tallied_in s events) (take (depth s m) rows))
      (oldest_stream (length (young_bins s events (edge s 0 (m - 1)))) (take (depth s m) rows) k)
      ≡ tally weighed s (slice_range events (edge s k (m - 1)) (edge s k m))
  oldest_holds events len zero less =
      let pieces = λ (bin : Bin). bin.pieces in
      let oldest = oldest_young s base ratio m first less in
      let are = young-ranges s events (edge s 0 (m - 1)) ∙ ap (λ n. map (filled s events) (range_cuts (span s 0) (edge s 0 (m - 1)) n 0 (suc (n / span s 0)))) len
      ∙ ap (map (filled s events)) oldest.1 in
      ap (λ bins. get_or (map pieces bins ++ held_in (tallied_in s events) (take (depth s m) rows)) 0 []) are
  oldest_holds events len (suc k) less =
      let young = young_bins s events (edge s 0 (m - 1)) in
      let pieces = λ (bin : Bin). bin.pieces in
      let oldest = goes k less in
      let same : k + 1 ≡ suc k = omega arith in
      oldest_at (tallied_in s events) (map pieces young) (take (depth s m) rows) (length young) k [] (length-map young pieces) (omega (arith, enough)) oldest.some
      ∙ ap (λ (r : Range). tally weighed s (slice_range events r.from r.to)) oldest.is
      ∙ ap (λ i. tally weighed s (slice_range events (edge s i (m - 1)) (edge s i m))) same

  two_counts : (a b : List Piece) (tail : ℕ) → count_in (a ∷ b ∷ []) tail ≡ count_of a tail + count_of b tail
  two_counts a b tail = omega (arith, sum_by-cons (λ ps. count_of ps tail) a (b ∷ []), sum_by-cons (λ ps. count_of ps tail) b [])

  one_count : (a : List Piece) (tail : ℕ) → count_in (a ∷ []) tail ≡ count_of a tail
  one_count a tail = omega (arith, sum_by-cons (λ ps. count_of ps tail) a [])

  -- a part makes the counts of the new bin's positions
  pub part_holds : (events : List Item) → WeighAll events → length events ≡ m → (k : ℕ) → k < depth s m →
      part_table (streams_of (young_bins s events (edge s 0 (m - 1))) (tallied_in s events) (take (depth s m) rows))
      (part_at s m (length (young_bins s events (edge s 0 (m - 1)))) (take (depth s m) rows) k)
      ≡ tallied_in s events (arrived s m (k + 1) (get_or (take (depth s m) rows) k []))
  part_holds events all len k less =
      let young = young_bins s events (edge s 0 (m - 1)) in
      let pieces = λ (bin : Bin). bin.pieces in
      let some_rows = take (depth s m) rows in
      let row = get_or some_rows k [] in
      let lists = streams_of young (tallied_in s events) some_rows in
      let new = arrived s m (k + 1) row in
      let limit = 2 ^ tail_bits s in
      let oldest = oldest_holds events len k less in
      let low = slice_range events (edge s k (m - 1)) (edge s k m) in
      let low_table = tally_table weighed s low (weigh_slice events (edge s k (m - 1)) (edge s k m) all) in
      let below : k + 1 - 1 ≡ k = omega arith in
      let high_is : edge s (k + 1 - 1) (m - 1) ≡ edge s k (m - 1) = ap (λ i. edge s i (m - 1)) below in
      let end_is : edge s (k + 1 - 1) m ≡ edge s k m = ap (λ i. edge s i m) below in
      let arrival = comes k less in
      elim (cases_Bool (begins s m (k + 1))) [
        | inl alone ↦ (
            let from_is : new.from ≡ edge s k (m - 1) = ap (λ t. cond t (edge s (k + 1 - 1) (m - 1)) (newest row).from) alone ∙ high_is in
            let part_is : part_table lists (part_at s m (length young) some_rows k) ≡ sums_of (tally weighed s low ∷ []) =
            ap (λ t. sums_of (list_at lists (oldest_stream (length young) some_rows k) ∷ newest_in [] lists (cond t None (Some (streams_to (length young) some_rows (k + 1) - 1))))) alone
            ∙ ap (λ list. sums_of (list ∷ [])) oldest in
            let tables = pair_tables limit (tally weighed s low) [] low_table (no_tables limit) in
            part_is
            ∙ window_table s events new.from new.to (sums_of (tally weighed s low ∷ [])) all (IsTable-sums_of limit (tally weighed s low ∷ []) tables)
            (λ tail. count_of-sums_of limit (tally weighed s low ∷ []) tail tables ∙ one_count (tally weighed s low) tail ∙ ap₂ (counted s events tail) (sym from_is) (sym end_is)))
        | inr joined ↦ (
            let last = newest row in
            let from_is : new.from ≡ last.from = ap (λ t. cond t (edge s (k + 1 - 1) (m - 1)) last.from) joined in
            let to_is : last.to ≡ edge s k (m - 1) = arrival.ends joined ∙ high_is in
            let newer = newest_at (tallied_in s events) (map pieces young) some_rows (length young) k [] (length-map young pieces) (omega (arith, enough)) (arrival.some joined) in
            let other = tallied_in s events last in
            let part_is : part_table lists (part_at s m (length young) some_rows k) ≡ sums_of (tally weighed s low ∷ other ∷ []) =
            ap (λ t. sums_of (list_at lists (oldest_stream (length young) some_rows k) ∷ newest_in [] lists (cond t None (Some (streams_to (length young) some_rows (k + 1) - 1))))) joined
            ∙ ap₂ (λ a b. sums_of (a ∷ b ∷ [])) oldest newer in
            let tables = pair_tables limit (tally weighed s low) (other ∷ []) low_table
            (pair_tables limit other [] (tally_table weighed s (slice_range events last.from last.to) (weigh_slice events last.from last.to all)) (no_tables limit)) in
            part_is
            ∙ window_table s events new.from new.to (sums_of (tally weighed s low ∷ other ∷ [])) all (IsTable-sums_of limit (tally weighed s low ∷ other ∷ []) tables)
            (λ tail. (
            let counts = count_of-sums_of limit (tally weighed s low ∷ other ∷ []) tail tables ∙ two_counts (tally weighed s low) other tail in
            let first_part = ap₂ (counted s events tail) (sym from_is) to_is in
            let whole = counted-join s events tail new.from (edge s k (m - 1)) (edge s k m) all (omega (arith, arrival.ordered, high_is)) (omega (arith, arrival.further, high_is, end_is)) in
            let ends = ap (counted s events tail new.from) end_is in
            omega arith)))
      ]

  -- ---- whatever the frames hold

  -- the edge of a level that the flush is deeper than moves by a span
  moves_by_span : (k : ℕ) → k < depth s m → edge s k m ≡ edge s k (m - 1) + span s k
  moves_by_span k less =
      ap (λ c. span s k * c) (moves_by_one s base ratio k m (depth_moves s base ratio k m less)) ∙ mul-suc (span s k) (steps s k (m - 1)) ∙ refl

  -- the oldest bin below a level is no wider than what comes to the level
  oldest_width : (young : List Bin) → 1 ≤ length young → All (λ (bin : Bin). bin.to - bin.from ≤ span s 0) young → (k : ℕ) → k < depth s m →
      get_or (widths_of young (take (depth s m) rows)) (oldest_stream (length young) (take (depth s m) rows) k) 0 ≤ edge s k m - edge s k (m - 1)
  oldest_width young some narrow zero less =
      let widths = map (λ (bin : Bin). bin.to - bin.from) young in
      let d : Bin = record { from = 0; to = 0; pieces = [] } in
      let behind = get_or_append_left widths (widths_in (take (depth s m) rows)) 0 0 (omega (arith, length-map young (λ (bin : Bin). bin.to - bin.from))) in
      let is = get_or-map (λ (bin : Bin). bin.to - bin.from) young 0 d 0 some in
      omega (arith, behind, is, narrow 0 d some, moves_by_span 0 less)
  oldest_width young some narrow (suc k) less =
      let oldest = goes k less in
      let same : k + 1 ≡ suc k = omega arith in
      let bin = get_or (get_or (take (depth s m) rows) k []) 0 no_bin in
      let is = oldest_at width_of (map (λ (b : Bin). b.to - b.from) young) (take (depth s m) rows) (length young) k 0 (length-map young (λ (b : Bin). b.to - b.from)) (omega (arith, enough))
      oldest.some in
      let from_is = ap (λ (r : Range). r.from) oldest.is ∙ ap (λ i. edge s i (m - 1)) same in
      let to_is = ap (λ (r : Range). r.to) oldest.is ∙ ap (λ i. edge s i m) same in
      omega arith

  two_sum : (a b : ℕ) → sum (a ∷ b ∷ []) ≡ a + b
  two_sum a b = omega arith

  -- a part's streams are no wider than its level's bins
  pub part_widths : (young : List Bin) → 1 ≤ length young → All (λ (bin : Bin). bin.to - bin.from ≤ span s 0) young → (k : ℕ) → k < depth s m →
      sum (in_part 0 (widths_of young (take (depth s m) rows)) (part_at s m (length young) (take (depth s m) rows) k)) ≤ span s (k + 1)
  part_widths young some narrow k less =
      let some_rows = take (depth s m) rows in
      let row = get_or some_rows k [] in
      let new = arrived s m (k + 1) row in
      let widths = widths_of young some_rows in
      let oldest = get_or widths (oldest_stream (length young) some_rows k) 0 in
      let oldest_wide = oldest_width young some narrow k less in
      let below : k + 1 - 1 ≡ k = omega arith in
      let high_is : edge s (k + 1 - 1) (m - 1) ≡ edge s k (m - 1) = ap (λ i. edge s i (m - 1)) below in
      let end_is : edge s (k + 1 - 1) m ≡ edge s k m = ap (λ i. edge s i m) below in
      let arrival = comes k less in
      let last_place = streams_to (length young) some_rows (k + 1) - 1 in
      elim (cases_Bool (begins s m (k + 1))) [
        | inl alone ↦ (
            let from_is : new.from ≡ edge s k (m - 1) = ap (λ t. cond t (edge s (k + 1 - 1) (m - 1)) (newest row).from) alone ∙ high_is in
            let few : sum (oldest ∷ []) ≤ span s (k + 1) = omega (arith, oldest_wide, arrival.fits) in
            subst (λ t. sum (oldest ∷ newest_in 0 widths (cond t None (Some last_place))) ≤ span s (k + 1)) (sym alone) few)
        | inr joined ↦ (
            let last = newest row in
            let newer = get_or widths last_place 0 in
            let newest_wide = newest_at width_of (map (λ (b : Bin). b.to - b.from) young) some_rows (length young) k 0 (length-map young (λ (b : Bin). b.to - b.from)) (omega (arith, enough))
            (arrival.some joined) in
            let from_is : new.from ≡ last.from = ap (λ t. cond t (edge s (k + 1 - 1) (m - 1)) last.from) joined in
            let to_is : last.to ≡ edge s k (m - 1) = arrival.ends joined ∙ high_is in
            let few : sum (oldest ∷ newer ∷ []) ≤ span s (k + 1) =
            omega (arith, two_sum oldest newer, oldest_wide, newest_wide, arrival.fits, arrival.ordered, arrival.further) in
            subst (λ t. sum (oldest ∷ newest_in 0 widths (cond t None (Some last_place))) ≤ span s (k + 1)) (sym joined) few)
      ]

  -- the one bin of a level isn't both: as its oldest one it ends at an aligned interval, and the bin that comes begins one there
  not_both : (k : ℕ) → suc k < depth s m → begins s m (k + 1) ≡ false → length (get_or (take (depth s m) rows) k []) ≢ 1
  not_both k less joined one =
      let row = get_or (take (depth s m) rows) k [] in
      let oldest = goes k less in
      let arrival = comes k (omega arith) in
      let place : length row - 1 ≡ 0 = omega (arith, one) in
      let newest_is : newest row ≡ get_or row 0 no_bin = ap (λ i. get_or row i no_bin) place in
      let end_is : edge s (k + 1 - 1) (m - 1) ≡ edge s (k + 1) m = sym (arrival.ends joined) ∙ ap (λ (b : BinAt). b.to) newest_is ∙ ap (λ (r : Range). r.to) oldest.is in
      let aligned : edge s (k + 1 - 1) (m - 1) % span s (k + 1) ≡ 0 = ap (λ e. e % span s (k + 1)) end_is ∙ mul-mod_first (span s (k + 1)) (steps s (k + 1) m) in
      let begun : begins s m (k + 1) ≡ true = eq-eqb (edge s (k + 1 - 1) (m - 1) % span s (k + 1)) 0 aligned in
      let never : true ≡ false = sym begun ∙ joined in
      cc
    where
      mul-mod_first : (a b : ℕ) → (a * b) % a ≡ 0
      mul-mod_first a b = ap (λ n. n % a) (mul_comm a b) ∙ mul-mod_left b a

  -- the rows that a flush reaches have the streams of its parts
  pub parts_have : HaveParts s m (take (depth s m) rows)
  parts_have = record {
    goes_on = λ k below. (goes k (omega (arith, below, enough))).some;
    joined = λ k below alone. (comes k (omega (arith, below, enough))).some alone;
    two = λ k below joined. (
        let less : suc k < depth s m = omega (arith, below, enough) in
        let one = (comes k (omega (arith, less))).some joined in
        elim (cases_eq (length (get_or (take (depth s m) rows) k [])) 1) [
          | inl same ↦ absurd (not_both k less joined same)
          | inr other ↦ omega (arith, one, other)
        ]);
  }
