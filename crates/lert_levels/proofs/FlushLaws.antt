-- What the merge of a flush or a scan makes, in the words of the cone's events.
use Rattle.std.proofs.{Common.{ℕ, ◌≡◌, ◌-◌, ◌<◌, ◌≤◌, List, [], ◌++◌, length, map, take, get_or, ap, ◌∙◌, arith, subst, slice_range}, lemmas.List.{length-map, get_or-map}}
use Rattle.std.proofs.lemmas.List.FromFn.{get_or-map-range_with_len, length-map-range_with_len}
use Rattle.lert_frames.specs.Place.{tail_limit}
use Rattle.lert_spec.specs.{declared.item.Item.Item, declared.numbers.Numbers.Numbers, declared.piece.Piece.Piece, Bins.{Bin, tally}, Counts.weighed, Edges.{edge, depth, lookback, capacity}}
use Rattle.lert_spec.specs.{Limits.IsValid, Table.IsTable}
use Rattle.lert_levels.specs.{landing.Summed.sums_of, declared.rows.bin_at.BinAt.BinAt, Flushed.{AreNew, AreEvents, AreAllEvents}, Merged.{IsMade, streams_of, widths_of}}
use Rattle.lert_levels.specs.{Parts.{Part, part_at, parts_at, part_table}, rows.Ranges.young_bins, rows.Loading.held_in, rows.Young.loosened, rows.Rows.{IsAt, AreRows, tallied_in}}
use Rattle.lert_levels.proofs.{landing.SummedLaws.{count_in, IsTable-sums_of, count_of-sums_of}, ArrivalLaws.{deep, enough, tables_from_bins, part_holds}}
use Rattle.lert_levels.proofs.{rows.CoverLaws.{flush_totals, scan_totals}, rows.{LoadLaws.loosened_pieces, WeightLaws.version_weigh}}
use Rattle.lert_levels.proofs.HoldLaws.{rows_stand}

-- a made list behind its place
pub made_at : (lists : List (List Piece)) (s : Numbers) (m young : ℕ) (rows : List (List BinAt)) (made : List (List Piece)) → made ≡ map (part_table lists) (parts_at s m young rows) →
    (k : ℕ) → k < length rows → get_or made k [] ≡ part_table lists (part_at s m young rows k)
made_at lists s m young rows made is k below =
    let parts = parts_at s m young rows in
    let count = length-map-range_with_len (part_at s m young rows) 0 (length rows) in
    let d = part_at s m young rows k in
    ap (λ ms. get_or ms k []) is
    ∙ get_or-map (part_table lists) parts k d [] (omega arith)
    ∙ ap (part_table lists) (get_or-map-range_with_len (part_at s m young rows) 0 (length rows) k k d below (omega arith))

module _ (s : Numbers) (version : ℕ) (valid : IsValid s) (m : ℕ) (first : 1 ≤ m) (fits : m ≤ capacity s) (rows : List (List BinAt)) (at : IsAt s (m - 1) rows) (young : List Bin)
    (took : List Piece → Type 0) (frames : List ℕ → Type 0) (made : List (List Piece))
    (is : IsMade s version young (take (depth s m) rows) (parts_at s m (length young) (take (depth s m) rows)) took frames made) where
  pub made_count : length made ≡ depth s m
  made_count =
      let parts = parts_at s m (length young) (take (depth s m) rows) in
      let count = length-map-range_with_len (part_at s m (length young) (take (depth s m) rows)) 0 (length (take (depth s m) rows)) in
      ap (length {A = List Piece}) is.are ∙ length-map parts (part_table is.lists) ∙ count ∙ enough s valid m first fits rows at

  -- what `totals` took is a table
  pub made_table : IsTable (tail_limit s) (sums_of is.lists)
  made_table = IsTable-sums_of (tail_limit s) is.lists (tables_from_bins version (tail_limit s) (widths_of young (take (depth s m) rows)) is.lists is.bins)

  -- where the frames hold the bins of the events, the lists are the counts of these
  lists_are : (file : List ℕ) (events : List Item) → frames file → AreRows s rows → AreEvents (record { settings = s; version = version; rows = rows }) m young events file →
      is.lists ≡ streams_of (young_bins s events (edge s 0 (m - 1))) (tallied_in s events) (take (depth s m) rows)
  lists_are file events here are of =
      let stand = rows_stand s version events (m - 1) rows file at are (omega (arith, of.len)) of.weighed of.held (depth s m) (deep s valid m first fits rows at) in
      is.told file here (tallied_in s events) stand ∙ ap (λ bins. streams_of bins (tallied_in s events) (take (depth s m) rows)) of.young_are

  pub made_new : (file : List ℕ) (events : List Item) → frames file → AreRows s rows → AreEvents (record { settings = s; version = version; rows = rows }) m young events file →
      AreNew s m events (take (depth s m) rows) made
  made_new file events here are of k below =
      let some_rows = take (depth s m) rows in
      let less : k < depth s m = omega (arith, made_count) in
      made_at is.lists s m (length young) some_rows made is.are k (omega (arith, enough s valid m first fits rows at))
      ∙ ap (λ lists. part_table lists (part_at s m (length young) some_rows k)) (lists_are file events here are of)
      ∙ ap (λ n. part_table (streams_of (young_bins s events (edge s 0 (m - 1))) (tallied_in s events) some_rows) (part_at s m n some_rows k)) (ap (length {A = Bin}) of.young_are)
      ∙ part_holds s valid m first fits rows at events (version_weigh version events of.weighed) of.len k less

  pub made_totals : (file : List ℕ) (events : List Item) → frames file → AreRows s rows → AreEvents (record { settings = s; version = version; rows = rows }) m young events file →
      sums_of is.lists ≡ tally weighed s (slice_range events (lookback s m) m)
  made_totals file events here are of =
      let tables = tables_from_bins version (tail_limit s) (widths_of young (take (depth s m) rows)) is.lists is.bins in
      flush_totals s valid events m rows (sums_of is.lists) (version_weigh version events of.weighed) at of.len made_table
      (λ tail. count_of-sums_of (tail_limit s) is.lists tail tables ∙ ap (λ lists. count_in lists tail) (lists_are file events here are of))

  -- `totals` took a table, and the totals where the frames hold the bins
  pub made_took : (list : List Piece) × took list × IsTable (tail_limit s) list
  made_took = (sums_of is.lists, is.taken, made_table)

  pub made_taken : (file : List ℕ) (events : List Item) → frames file → AreRows s rows → AreEvents (record { settings = s; version = version; rows = rows }) m young events file →
      took (tally weighed s (slice_range events (lookback s m) m))
  made_taken file events here are of = subst took (made_totals file events here are of) is.taken

-- ---- a scan

module _ (s : Numbers) (version : ℕ) (valid : IsValid s) (rows : List (List BinAt)) (young : List Bin) (parts : List Part) (took : List Piece → Type 0) (frames : List ℕ → Type 0)
    (made : List (List Piece)) (is : IsMade s version (loosened young) (take s.levels rows) parts took frames made) where
  pub scan_took : (list : List Piece) × took list × IsTable (tail_limit s) list
  scan_took = (sums_of is.lists, is.taken, IsTable-sums_of (tail_limit s) is.lists (tables_from_bins version (tail_limit s) (widths_of (loosened young) (take s.levels rows)) is.lists is.bins))

  -- where the frames hold the bins, `totals` took the counts of all events
  pub scan_taken : (file : List ℕ) (events : List Item) → frames file → AreRows s rows → AreAllEvents (record { settings = s; version = version; rows = rows }) young events file →
      took (tally weighed s events)
  scan_taken file events here are of =
      let tables = tables_from_bins version (tail_limit s) (widths_of (loosened young) (take s.levels rows)) is.lists is.bins in
      let stand = rows_stand s version events (length events) rows file of.at are (omega arith) of.weighed of.held s.levels (omega arith) in
      let lists = is.told file here (tallied_in s events) stand ∙ ap (λ pieces. pieces ++ held_in (tallied_in s events) (take s.levels rows)) (loosened_pieces young)
      ∙ ap (λ bins. streams_of bins (tallied_in s events) (take s.levels rows)) of.young_are in
      subst took (scan_totals s valid events rows (sums_of is.lists) (version_weigh version events of.weighed) of.at of.fits (IsTable-sums_of (tail_limit s) is.lists tables)
      (λ tail. count_of-sums_of (tail_limit s) is.lists tail tables ∙ ap (λ ls. count_in ls tail) lists)) is.taken
