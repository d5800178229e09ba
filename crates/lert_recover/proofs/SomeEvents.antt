-- Frames in the format hold the bins of some events: items with the counts of each bin, put together in the order of positions.
use Rattle.std.proofs.Common.{ℕ, ◌≡◌, ◌+◌, ◌-◌, ◌<◌, ◌≤◌, List, [], ◌∷◌, length, map, get_or, take, ap, sym, ◌∙◌, arith, subst, flat_map, slice_range}
use Rattle.std.proofs.lemmas.{List.take_all, List.Elements.{All-nil, All-append, All-head, All-tail}}
use Rattle.std.specs.List.{All}
use Rattle.lert_frames.specs.Frame.{HoldsFrame}
use Rattle.lert_spec.specs.{declared.item.Item.Item, declared.numbers.Numbers.Numbers, Bins.tally, Counts.{weighed, weight_of}, Edges.{edge, capacity}, Items.most_weight, Limits.IsValid}
use Rattle.lert_spec.proofs.{EdgeLaws.span_pos, SpreadLaws.{spread, length-spread, light-spread, tally-spread}}
use Rattle.lert_levels.specs.{declared.rows.bin_at.BinAt.BinAt, rows.Checked.{held_after, rows_total, EachStands}, rows.Loading.{width_of, AllStand}}
use Rattle.lert_levels.specs.rows.Rows.{range_of, AreRows, IsAt, tallied_in}
use Rattle.lert_levels.proofs.{HoldLaws.edges_stand, rows.GaplessLaws.{IsGapless, All-joined, All-row, joined, joined_gapless, keys_many, keys_stand}, rows.HeldLaws.all_stand}
use Rattle.lert_levels.proofs.{rows.RangeLaws.oldest_edge, rows.SumLaws.rows_total-weighs}
use Rattle.lert_cone.specs.Framed.{HoldsSome}

-- ---- one list of items for all bins

-- what holds of each part holds of the parts joined
All-flat_map : {X Y : Type 0} (P : Y → Type 0) (f : X → List Y) (xs : List X) → All (λ x. All P (f x)) xs → All P (flat_map f xs)
All-flat_map P f [] each = All-nil P
All-flat_map P f (x ∷ xs) each =
    All-append P (f x) (flat_map f xs) (All-head (λ y. All P (f y)) x xs each) (All-flat_map P f xs (All-tail (λ y. All P (f y)) x xs each))

module _ (s : Numbers) (valid : IsValid s) (version n : ℕ) (fits : n ≤ capacity s) (rows : List (List BinAt)) (at : IsAt s n rows) (file : List ℕ) where
  -- frames in the format of files of a version hold the bins of some events of it
  pub some_events : EachStands s version file rows → HoldsSome version s n rows file
  some_events stand =
      let base : 1 ≤ s.base = omega (arith, valid.limits.base_from) in
      let ratio : 1 ≤ s.ratio = omega (arith, valid.limits.ratio_from) in
      let held = held_after s version n file in
      let items = λ (bin : BinAt). spread version (width_of bin) (held bin) in
      let stands = all_stand s version base ratio n rows at file stand in
      let bins = joined rows s.levels in
      let events = flat_map items bins in
      let Light : Item → Type 0 = λ item. (1 ≤ item.weight) × (item.weight ≤ most_weight version) in
      let positive = span_pos s s.levels base ratio in
      let start : edge s s.levels n ≡ 0 = oldest_edge s base ratio n (omega (arith, fits, positive)) in
      let gapless : IsGapless 0 (map range_of bins) (edge s 0 n) =
      subst (λ from. IsGapless from (map range_of bins) (edge s 0 n)) start (joined_gapless s base ratio n rows at s.levels (omega arith)) in
      let widths : All (λ (bin : BinAt). length (items bin) ≡ width_of bin) bins =
      All-joined (λ (bin : BinAt). length (items bin) ≡ width_of bin) rows s.levels
      (λ k less i d below.
      let is = (stands k (omega (arith, less, at.levels)) i d below).are in
      let bin = get_or (get_or rows k []) i d in
      length-spread version (width_of bin) (held bin) is.lower is.upper) in
      let light : All (λ (bin : BinAt). All Light (items bin)) bins =
      All-joined (λ (bin : BinAt). All Light (items bin)) rows s.levels
      (λ k less i d below.
      let is = (stands k (omega (arith, less, at.levels)) i d below).are in
      let bin = get_or (get_or rows k []) i d in
      light-spread version (width_of bin) (held bin) is.lower is.upper) in
      let many = keys_many items bins 0 (edge s 0 n) gapless widths in
      let placed = keys_stand items [] bins (edge s 0 n) gapless widths in
      record {
        events = events;
        len = omega (arith, many);
        light = All-flat_map Light items bins light;
        holds = λ level from within.
            let k = level - 1 in
            let less : k < s.levels = omega (arith, from, within) in
            let place : k + 1 ≡ level = omega (arith, from) in
            λ i d below.
            let bin = get_or (get_or rows k []) i d in
            let is = stands k (omega (arith, less, at.levels)) i d below in
            let there = All-row (λ (b : BinAt). slice_range events b.from b.to ≡ items b) rows s.levels placed k less i d below in
            let same : held bin ≡ tallied_in s events bin =
            sym (ap (tally weighed s) there ∙ tally-spread s version (width_of bin) (held bin) is.are.given.table is.are.lower is.are.upper) in
            subst (λ pieces. HoldsFrame s version level bin.frame file pieces) same
            (subst (λ l. HoldsFrame s version l bin.frame file (held bin)) place is.text);
      }

  -- and such events, whatever they are, weigh together what the frames count
  pub some_weigh : AreRows s rows → (some : HoldsSome version s n rows file) → weight_of weighed some.events ≡ rows_total s version file 1 rows
  some_weigh are some =
      let events = some.events in
      let stand = edges_stand s valid version events n rows file at are (omega (arith, some.len)) some.light some.holds s.levels (omega arith) in
      let all = subst (AllStand s version file (tallied_in s events)) (take_all s.levels rows (omega (arith, at.levels))) stand in
      let whole : take (edge s 0 n) events ≡ events = take_all (edge s 0 n) events (omega (arith, some.len)) in
      sym (rows_total-weighs s valid n fits rows at version events file are all ∙ ap (weight_of weighed) whole)
