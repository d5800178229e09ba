-- What the frames hold before a flush and after it.
use Rattle.std.proofs.Common.{ℕ, ◌≡◌, ◌≢◌, ◌+◌, ◌-◌, ◌/◌, ◌<◌, ◌≤◌, zero, suc, cond, ltb, eqb, List, [], ◌∷◌, ◌++◌, length, take, drop, get_or, Option, Some, ap, ap₂, sym, ◌∙◌, arith, inl, inr, ◌⊎◌}
use Rattle.std.proofs.{Common.{subst, slice_range, length-take}, lemmas.Bool.{cases_lt, cases_eq, lt-ltb, le-ltb, eq-eqb}, lemmas.List.get_or-take}
use Rattle.std.proofs.{lemmas.List.Elements.{All-append, All-drop, All-cons, All-nil, Contains-get_or}, lemmas.List.Sums.sum_by-cons}
use Rattle.std.specs.List.{All}
use Rattle.lert_bay.specs.{declared.bay.TheConstants.FRAMES, Files.{Files, IfTold, Turns}}
use Rattle.lert_frames.specs.{Frame.{HoldsFrame, frame_text}, Place.frame_len}
use Rattle.lert_frames.proofs.{FrameLaws.text_within, PlaceLaws.places_apart}
use Rattle.lert_spec.specs.{declared.item.Item.Item, declared.numbers.Numbers.Numbers, declared.piece.Piece.Piece, Bins.tally, Counts.weighed, Items.AreOfVersion, Edges.{span, edge, depth}}
use Rattle.lert_spec.specs.{Limits.IsValid}
use Rattle.lert_spec.proofs.{EdgeLaws.edge_descends_to, CostLaws.costs_from, Tables.count_le-total, TallyLaws.{tally_table, total-tally}}
use Rattle.lert_levels.specs.{declared.rows.bin_at.BinAt.BinAt, Flushed.{AreNew, InNamed}, rows.Landing.{LeavesRest, landing_frame, AreApart, AreLanded}, rows.Loading.{Stands, AllStand}}
use Rattle.lert_levels.specs.rows.Rows.{row_of, IsAt, IsRow, AreRows, HoldsBins, times_named, kept, arrived, moved, tallied_in}
use Rattle.lert_levels.proofs.{rows.LandLaws.{holds_stays, landing_within}, rows.RangeLaws.{IsCut, cuts_are, edge_within}, rows.RowLaws.{row_among, All-ranges, All-kept, row_of-moved, lowest_is_free}}
use Rattle.lert_levels.proofs.rows.WeightLaws.{version_weigh, version_slice, weigh_some, weight_least, costs_number, window_length}

-- ---- what is read

-- the bins of a level end within the events
pub bins_end : (s : Numbers) (n : ℕ) (rows : List (List BinAt)) → IsAt s n rows → (level : ℕ) → 1 ≤ level → level ≤ s.levels → All (λ bin. bin.to ≤ n) (row_of rows level)
bins_end s n rows at level from within =
    let wide = span s level in
    let high = edge s (level - 1) n in
    let cuts = subst (All (IsCut wide high)) (sym (at.each level from within)) (cuts_are wide (edge s level n) high 0 (suc (n / wide))) in
    λ k d below. (let cut = All-ranges (IsCut wide high) (row_of rows level) cuts k d below in omega (arith, cut.end, edge_within s (level - 1) n))

-- nor behind the edge of level 0
edges_end : (s : Numbers) → IsValid s → (n : ℕ) (rows : List (List BinAt)) → IsAt s n rows → (level : ℕ) → 1 ≤ level → level ≤ s.levels → All (λ bin. bin.to ≤ edge s 0 n) (row_of rows level)
edges_end s valid n rows at level from within =
    let wide = span s level in
    let high = edge s (level - 1) n in
    let base : 1 ≤ s.base = omega (arith, valid.limits.base_from) in
    let ratio : 1 ≤ s.ratio = omega (arith, valid.limits.ratio_from) in
    let descends = subst (λ i. edge s i n ≤ edge s 0 n) (let same : 0 + (level - 1) ≡ level - 1 = omega arith in same) (edge_descends_to s base ratio 0 (level - 1) n) in
    let cuts = subst (All (IsCut wide high)) (sym (at.each level from within)) (cuts_are wide (edge s level n) high 0 (suc (n / wide))) in
    λ k d below. (let cut = All-ranges (IsCut wide high) (row_of rows level) cuts k d below in omega (arith, cut.end, descends))

-- the frames that hold the bins give them to a reader, where all end within the events
stand_within : (s : Numbers) (version : ℕ) (events : List Item) (rows : List (List BinAt)) (file : List ℕ) → AreRows s rows →
    ((level : ℕ) → 1 ≤ level → level ≤ s.levels → All (λ bin. bin.to ≤ length events) (row_of rows level)) →
    AreOfVersion version events → HoldsBins s version events rows file → (d : ℕ) → d ≤ s.levels → AllStand s version file (tallied_in s events) (take d rows)
stand_within s version events rows file are ending of holds d deep k below =
    let reached : k < d = omega (arith, length-take d rows) in
    let row_is = row_among rows d k reached in
    let level_within : k + 1 ≤ s.levels = omega arith in
    let ends = ending (k + 1) (omega arith) level_within in
    let row = are.each (k + 1) (omega arith) level_within in
    subst (All (Stands s version (k + 1) file (tallied_in s events))) row_is
    (λ i d' inside. (
    let bin = get_or (row_of rows (k + 1)) i d' in
    let end = ends i d' inside in
    let items = slice_range events bin.from bin.to in
    let own = version_slice version events bin.from bin.to of in
    let some = version_weigh version items own in
    let number = window_length events bin.from bin.to (omega (arith, end)) in
    let cheap = costs_number s version items own in
    let summed = total-tally weighed s items in
    let top = row.ends i d' inside in
    record {
      are = record {
        given = record {
          table = tally_table weighed s items (weigh_some items some);
          counts = λ j p here. omega (arith, count_le-total (tally weighed s items) j p here, costs_from version (tally weighed s items), cheap, number, top);
        };
        lower = omega (arith, cheap, number);
        upper = omega (arith, summed, weight_least items some, number);
      };
      text = holds (k + 1) (omega arith) level_within i d' inside;
    }))

-- those of the levels after no more events than there are
pub rows_stand : (s : Numbers) (version : ℕ) (events : List Item) (n : ℕ) (rows : List (List BinAt)) (file : List ℕ) → IsAt s n rows → AreRows s rows → n ≤ length events →
    AreOfVersion version events → HoldsBins s version events rows file → (d : ℕ) → d ≤ s.levels → AllStand s version file (tallied_in s events) (take d rows)
rows_stand s version events n rows file at are within of holds d deep =
    stand_within s version events rows file are
    (λ level from last k d' below. omega (arith, bins_end s n rows at level from last k d' below, within)) of holds d deep

-- and those after some, where there are the events up to the edge of level 0
pub edges_stand : (s : Numbers) → IsValid s → (version : ℕ) (events : List Item) (n : ℕ) (rows : List (List BinAt)) (file : List ℕ) → IsAt s n rows → AreRows s rows →
    edge s 0 n ≤ length events → AreOfVersion version events → HoldsBins s version events rows file → (d : ℕ) → d ≤ s.levels →
    AllStand s version file (tallied_in s events) (take d rows)
edges_stand s valid version events n rows file at are within of holds d deep =
    stand_within s version events rows file are
    (λ level from last k d' below. omega (arith, edges_end s valid n rows at level from last k d' below, within)) of holds d deep

-- ---- what stays

-- a bin of a row names its frame
named_at : (row : List BinAt) (i : ℕ) (bin : BinAt) → i < length row → get_or row i bin ≡ bin → 1 ≤ times_named row bin.frame
named_at [] i bin below is = absurd (omega arith)
named_at (other ∷ row) zero bin below is =
    omega (
      arith,
      sum_by-cons (λ (b : BinAt). cond {A = ℕ} (eqb b.frame bin.frame) 1 0) other row,
      ap (λ t. cond {A = ℕ} t 1 0) (eq-eqb other.frame bin.frame (ap (λ (b : BinAt). b.frame) is)),
    )
named_at (other ∷ row) (suc i) bin below is =
    omega (arith, sum_by-cons (λ (b : BinAt). cond {A = ℕ} (eqb b.frame bin.frame) 1 0) other row, named_at row i bin (omega arith) is)

-- a range in a frame that is named lies apart from those that a flush writes
pub named_apart : (s : Numbers) (version : ℕ) (m : ℕ) (rows : List (List BinAt)) → AreRows s rows → (d : ℕ) → d ≤ s.levels → (from to : ℕ) → InNamed s version rows from to →
    AreApart s version m (take d rows) from to
named_apart s version m rows are d deep from to inside k below =
    let reached : k < d = omega (arith, length-take d rows) in
    let row = get_or (take d rows) k [] in
    let row_is = row_among rows d k reached in
    let here = are.each (k + 1) (omega arith) (omega arith) in
    let landing = landing_frame s m (take d rows) k in
    let landing_fits : landing ≤ s.bins = landing_within s m (k + 1) row (subst (IsRow s (k + 1)) row_is here) in
    let bin = inside.bin in
    let place = inside.named in
    let there = are.each inside.level inside.first inside.last in
    let frame_fits : bin.frame ≤ s.bins = subst (λ (b : BinAt). b.frame ≤ s.bins) place.2 (there.frames place.0 bin place.1) in
    let differ : (inside.level ≢ k + 1) ⊎ (bin.frame ≢ landing) = elim (cases_eq inside.level (k + 1)) [
      | inr other ↦ inl other
      | inl same ↦ inr (λ twice.
          let own = ap (row_of rows) same ∙ row_is in
          let some = named_at (row_of rows inside.level) place.0 bin place.1 place.2 in
          let count = ap₂ times_named own twice in
          omega (arith, some, count, (lowest_is_free row).free))
    ] in
    elim (places_apart s version (k + 1) landing inside.level bin.frame (omega arith) landing_fits inside.first frame_fits differ) [
      | inl before ↦ inl (omega (arith, before, inside.below))
      | inr behind ↦ inr (omega (arith, behind, inside.above))
    ]

-- the text of a bin's counts fits its place
text_fits : (s : Numbers) (version : ℕ) (events : List Item) (level : ℕ) (bin : BinAt) → IsValid s → level ≤ s.levels → AreOfVersion version events → bin.to - bin.from ≤ span s level →
    length (frame_text s level (tallied_in s events bin)) ≤ frame_len s version level
text_fits s version events level bin valid last of narrow =
    let items = slice_range events bin.from bin.to in
    let own = version_slice version events bin.from bin.to of in
    text_within s version level (tally weighed s items) valid last (tally_table weighed s items (weigh_some items (version_weigh version items own))) (omega (
      arith,
      narrow,
      costs_number s version items own,
      length-take (bin.to - bin.from) (drop bin.from events),
    ))

-- after a flush the frames hold the bins of the rows as they are then
pub holds_moved : (s : Numbers) (version : ℕ) (m : ℕ) (events : List Item) (rows : List (List BinAt)) (made : List (List Piece)) (old new : Files) → IsValid s → length rows ≡ s.levels →
    AreRows s rows → AreOfVersion version events → HoldsBins s version events rows (old FRAMES) → LeavesRest (InNamed s version rows) old new →
    length made ≡ depth s m → AreLanded s version m (take (depth s m) rows) (new FRAMES) made (depth s m) → AreNew s m events (take (depth s m) rows) made →
    HoldsBins s version events (moved s m rows) (new FRAMES)
holds_moved s version m events rows made old new valid len are of holds leaves count landed news level from within =
    let row = row_of rows level in
    let d = depth s m in
    let P : BinAt → Type 0 = λ bin. HoldsFrame s version level bin.frame (new FRAMES) (tallied_in s events bin) in
    let is = are.each level from within in
    let stay : All P row =
    λ i e below. (
    let bin = get_or row i e in
    let fits = text_fits s version events level bin valid within of (is.widths i e below) in
    holds_stays (InNamed s version rows) old new s version level bin.frame (tallied_in s events bin) leaves
    (record { level = level; first = from; last = within; bin = bin; named = Contains-get_or row i e below; above = omega arith; below = omega (arith, fits) })
    (holds level from within i e below)) in
    let written = kept s m level row ++ arrived s m level row ∷ [] in
    let dropped = cond {A = ℕ} (ltb level d) 1 0 in
    subst (All P) (sym (row_of-moved s m rows level from (omega arith)))
    (elim (cases_lt d level) [
      | inl shallow ↦ subst (λ t. All P (cond t row (drop dropped written))) (sym (lt-ltb d level shallow)) stay
      | inr reached ↦ (
          let k = level - 1 in
          let up : k + 1 ≡ level = omega arith in
          let own : get_or (take d rows) k [] ≡ row = get_or-take d rows k [] (omega arith) in
          let stands = landed k (omega arith) in
          let new_is = news k (omega arith) in
          let both = subst (HoldsFrame s version (k + 1) (landing_frame s m (take d rows) k) (new FRAMES)) new_is stands in
          let at_row = subst (λ (r : List BinAt). HoldsFrame s version (k + 1) (arrived s m (k + 1) r).frame (new FRAMES) (tallied_in s events (arrived s m (k + 1) r))) own both in
          let here : P (arrived s m level row) = subst (λ (i : ℕ). HoldsFrame s version i (arrived s m i row).frame (new FRAMES) (tallied_in s events (arrived s m i row))) up at_row in
          subst (λ t. All P (cond t row (drop dropped written))) (sym (le-ltb d level reached))
          (All-drop P dropped written (All-append P (kept s m level row) (arrived s m level row ∷ []) (All-kept P s m level row stay) (All-cons P (arrived s m level row) [] here (All-nil P)))))
    ])

-- the frames after the new bins were written, as a bay tells them
pub written_holds : (s : Numbers) (version : ℕ) (m : ℕ) (rows : List (List BinAt)) (made : List (List Piece)) (before after : Option Files) → IsValid s → length rows ≡ s.levels →
    AreRows s rows → length made ≡ depth s m → Turns (LeavesRest (InNamed s version rows)) before after →
    IfTold after (λ seen. AreLanded s version m (take (depth s m) rows) (seen FRAMES) made (depth s m)) → (seen : Files) → before ≡ Some seen → (events : List Item) →
    AreOfVersion version events → HoldsBins s version events rows (seen FRAMES) → AreNew s m events (take (depth s m) rows) made →
    IfTold after (λ then. HoldsBins s version events (moved s m rows) (then FRAMES))
written_holds s version m rows made before after valid len are count turned landed seen told events of holds news then then_told =
    let step = turned.told seen told in
    let same : step.0 ≡ then = cc in
    holds_moved s version m events rows made seen then valid len are of holds (subst (λ (f : Files). LeavesRest (InNamed s version rows) seen f) same step.2) count (landed then then_told) news
