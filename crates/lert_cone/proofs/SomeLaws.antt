-- Frames that hold the bins of some events, whatever these are, through a key and the flush that it may bring.
use Rattle.std.proofs.Common.{ℕ, ◌≡◌, ◌+◌, ◌-◌, ◌*◌, ◌/◌, ◌≤◌, suc, ltb, List, [], ◌∷◌, ◌++◌, length, map, filter, take, drop, get_or, min, max, All, ap, sym, ◌∙◌, arith, subst, slice_range}
use Rattle.std.proofs.{Common.length-append, lemmas.List.{take-append-drop, length-take, length-drop}, lemmas.Slice.drop-append-drop}
use Rattle.std.proofs.lemmas.List.Elements.{All-append, All-take, All-drop}
use Rattle.std.specs.List.{range_with_len}
use Rattle.lert_frames.specs.Frame.{HoldsFrame}
use Rattle.lert_spec.specs.{declared.numbers.Numbers.Numbers, Bins.{Bin, bin_in, tally}, Counts.weighed, declared.item.Item.Item, Items.{most_weight, AreOfVersion}, Edges.{span, edge}, Limits.IsValid}
use Rattle.lert_spec.proofs.{EdgeLaws.edge_descends_to, LookLaws.slice_range-append}
use Rattle.lert_levels.specs.{declared.rows.bin_at.BinAt.BinAt, rows.Ranges.young_bins, rows.Rows.{row_of, IsAt, HoldsBins, tallied_in}}
use Rattle.lert_levels.proofs.{rows.RangeLaws.{IsCut, cuts_are, edge_within}, rows.RowLaws.All-ranges}
use Rattle.lert_cone.specs.{Framed.HoldsSome, Tally.Tallied}

module _ (s : Numbers) (valid : IsValid s) where
  -- the bins of the older levels end where level 0 begins
  bins_under : (n : ℕ) (rows : List (List BinAt)) → IsAt s n rows → (level : ℕ) → 1 ≤ level → level ≤ s.levels → All (λ bin. bin.to ≤ edge s 0 n) (row_of rows level)
  bins_under n rows at level from within =
      let wide = span s level in
      let high = edge s (level - 1) n in
      let cuts = subst (All (IsCut wide high)) (sym (at.each level from within)) (cuts_are wide (edge s level n) high 0 (suc (n / wide))) in
      let up : 0 + (level - 1) ≡ level - 1 = omega arith in
      let below : high ≤ edge s 0 n = subst (λ i. edge s i n ≤ edge s 0 n) up
      (edge_descends_to s (omega (arith, valid.limits.base_from)) (omega (arith, valid.limits.ratio_from)) 0 (level - 1) n) in
      λ k d inside. (let cut = All-ranges (IsCut wide high) (row_of rows level) cuts k d inside in omega (arith, cut.end, below))

  -- so further events behind those of the older levels change nothing, and neither does it to leave them out
  some_more : (version : ℕ) (n : ℕ) (rows : List (List BinAt)) (events others : List Item) (file : List ℕ) → IsAt s n rows → length events ≡ edge s 0 n → HoldsBins s version events rows file →
      HoldsBins s version (events ++ others) rows file
  some_more version n rows events others file at len holds level from within k d below =
      let end = bins_under n rows at level from within k d below in
      let bin = get_or (row_of rows level) k d in
      let same : tallied_in s events bin ≡ tallied_in s (events ++ others) bin = ap (tally weighed s) (sym (slice_range-append events others bin.from bin.to (omega (arith, end, len)))) in
      subst (HoldsFrame s version level bin.frame file) same (holds level from within k d below)

  some_fewer : {version : ℕ} (n : ℕ) (rows : List (List BinAt)) (events : List Item) (file : List ℕ) → IsAt s n rows → edge s 0 n ≤ length events → AreOfVersion version events →
      HoldsBins s version events
      rows file → HoldsSome version s n rows file
  some_fewer {version} n rows events file at long light holds =
      let e = edge s 0 n in
      let front = take e events in
      let len : length front ≡ e = omega (arith, length-take e events, long) in
      record {
        events = front;
        len = len;
        light = All-take (λ (i : Item). (1 ≤ i.weight) × (i.weight ≤ most_weight version)) e events light;
        holds = λ level from within k d below. (
            let end = bins_under n rows at level from within k d below in
            let bin = get_or (row_of rows level) k d in
            let same : tallied_in s events bin ≡ tallied_in s front bin =
            ap (λ all. tally weighed s (slice_range all bin.from bin.to)) (sym (take-append-drop e events))
            ∙ ap (tally weighed s) (slice_range-append front (drop e events) bin.from bin.to (omega (arith, end, len))) in
            subst (HoldsFrame s version level bin.frame file) same (holds level from within k d below));
      }

  -- the events that the frames hold, and behind them the newest of others
  module _ (all front : List Item) (edge_ : ℕ) (len : length front ≡ edge_) (within : edge_ ≤ length all) where
    abbrev pub shadow : List Item
    shadow = front ++ drop edge_ all

    pub shadow_len : length shadow ≡ length all
    shadow_len = omega (arith, length-append front (drop edge_ all), length-drop edge_ all)

    bin_same : (k : ℕ) → bin_in weighed s shadow 0 edge_ (length all) k ≡ bin_in weighed s all 0 edge_ (length all) k
    bin_same k =
        let from = max edge_ (k * span s 0) in
        let to = min (length all) (suc k * span s 0) in
        ap (λ items. record { from = from; to = to; pieces = tally weighed s (take (to - from) items) }) (drop-append-drop edge_ all front from (omega arith) len)

    -- level 0 has the same bins of both
    pub shadow_young : young_bins s shadow edge_ ≡ young_bins s all edge_
    shadow_young =
        ap (λ n. filter (λ (bin : Bin). ltb bin.from bin.to) (map (bin_in weighed s shadow 0 edge_ n) (range_with_len 0 (suc (n / span s 0))))) shadow_len
        ∙ ap (λ (f : ℕ → Bin). filter (λ (bin : Bin). ltb bin.from bin.to) (map f (range_with_len 0 (suc (length all / span s 0))))) (λ i k. bin_same k i)

  -- the next item, where the frames hold the bins of some events
  module _ {version : ℕ} (events : List Item) (item : Item) (rows : List (List BinAt)) (file : List ℕ) (at : IsAt s (length events) rows) (some : HoldsSome version s (length events) rows file) where
    abbrev pub with_key : List Item
    with_key = some.events ++ drop (edge s 0 (length events)) (events ++ item ∷ [])

    pub with_key_len : length with_key ≡ suc (length events)
    with_key_len = shadow_len (events ++ item ∷ []) some.events (edge s 0 (length events)) some.len (omega (arith, length-append events (item ∷ []), edge_within s 0 (length events))) ∙ omega
        (arith, length-append events (item ∷ []))

    pub with_key_light : AreOfVersion version (events ++ item ∷ []) → AreOfVersion version with_key
    with_key_light light =
        let P : Item → Type 0 = λ i. (1 ≤ i.weight) × (i.weight ≤ most_weight version) in
        All-append P some.events (drop (edge s 0 (length events)) (events ++ item ∷ [])) some.light (All-drop P (edge s 0 (length events)) (events ++ item ∷ []) light)

    pub with_key_young : young_bins s with_key (edge s 0 (length events)) ≡ young_bins s (events ++ item ∷ []) (edge s 0 (length events))
    with_key_young = shadow_young (events ++ item ∷ []) some.events (edge s 0 (length events)) some.len (omega (arith, length-append events (item ∷ []), edge_within s 0 (length events)))

    pub with_key_holds : HoldsBins s version with_key rows file
    with_key_holds = some_more version (length events) rows some.events (drop (edge s 0 (length events)) (events ++ item ∷ [])) file at some.len some.holds

    pub with_key_some : (new_rows : List (List BinAt)) (new : List ℕ) → IsAt s (suc (length events)) new_rows → AreOfVersion version (events ++ item ∷ []) → HoldsBins s version with_key new_rows new →
        HoldsSome version s (suc (length events)) new_rows new
    with_key_some new_rows new at_new light holds = some_fewer (suc (length events)) new_rows with_key new at_new (omega (arith, with_key_len, edge_within s 0 (suc (length events))))
        (with_key_light light) holds

-- the same rows with other words for how many events there are
pub some_counted : (before after : Tallied) (n : ℕ) (file : List ℕ) → after.listing.settings ≡ before.listing.settings → after.listing.version ≡ before.listing.version → after.rows ≡ before.rows →
    n ≡ length after.listing.events →
    HoldsSome before.listing.version before.listing.settings n before.rows file → HoldsSome after.listing.version after.listing.settings (length after.listing.events) after.rows file
some_counted before after n file settings_are version_is rows_are n_is some =
    subst (λ (s : Numbers). HoldsSome after.listing.version s (length after.listing.events) after.rows file) (sym settings_are)
    (subst (λ v. HoldsSome v before.listing.settings (length after.listing.events) after.rows file) (sym version_is)
    (subst (λ (rows : List (List BinAt)). HoldsSome before.listing.version before.listing.settings (length after.listing.events) rows file) (sym rows_are)
    (subst (λ k. HoldsSome before.listing.version before.listing.settings k before.rows file) n_is some)))
