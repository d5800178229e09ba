use Rattle.std.proofs.Common.{◌≡◌, ℕ, ◌-◌, ◌<◌, ◌≤◌, min, ◌∙◌, ◌++◌, ◌∷◌, ◌/◌, [], length, map, suc, add-zero, subst, ap, ap₂, sym, arith}
use Rattle.std.proofs.{lemmas.List.{length-map, length-take, map_push, take_all, take_more}, lemmas.List.FromFn.map-range_with_len_more, lemmas.Nat.mul-le}
use Rattle.lert_spec.specs.Limits.{IsValid}
use Rattle.lert_levels.specs.{declared.rows.bin_at.BinAt.BinAt, rows.Ranges.range_at, rows.Rows.range_of}
use Rattle.lert_levels.proofs.rows.NamedLaws.{interval_within, ranges_back}
use Rattle.lert_levels.proofs.rows.named.restore_row.Goals as goal

pub edge-low-requires : goal.edge-low-requires
edge-low-requires c = record { level = c.requires.to; events = c.requires.within }

pub overflow_sub-level : goal.overflow_sub-level
overflow_sub-level c = c.requires.from

lower : (level most : ℕ) → level ≤ most → level - 1 ≤ most
lower level most to = omega arith

pub edge-high-requires : goal.edge-high-requires
edge-high-requires c = record { level = lower c.args.level c.args.settings.now.levels c.requires.to; events = c.requires.within }

pub span-wide-requires : goal.span-wide-requires
span-wide-requires c = c.requires.to

pub nonzero_div-interval : goal.nonzero_div-interval
nonzero_div-interval c = c.span-wide.ensures.positive

pub bounds-frames-frame-index : goal.bounds-frames-frame-index
bounds-frames-frame-index c = c.loop-frame-test.true

pub bin_in-requires : goal.bin_in-requires
bin_in-requires c =
    let valid : IsValid c.args.settings.now = subst IsValid c.numbers-valid.ensures.value c.numbers-valid.ensures.valid in
    record {
      some = c.span-wide.ensures.positive;
      last = interval_within c.args.settings.now valid c.args.level c.args.n0 c.loop-frame.frame-index c.loop-frame.interval c.span-wide.result c.edge-low.result c.requires.to c.requires.within
          c.span-wide.ensures.value c.edge-low.ensures (omega (arith, c.loop-frame-test.true, c.requires.few)) c.loop-frame.invariant.place;
    }

-- so many as were read, and the room is for all
room_for : (count index all bins : ℕ) → count ≡ min index all → index < all → all ≤ bins → bins ≤ 16 → count < 17
room_for count index all bins is below few most = omega arith

pub put-requires : goal.put-requires
put-requires c =
    let valid : IsValid c.args.settings.now = subst IsValid c.numbers-valid.ensures.value c.numbers-valid.ensures.valid in
    room_for (length c.loop-frame.row) c.loop-frame.frame-index (length c.args.frames.now) c.args.settings.now.bins
    (sym (length-map c.loop-frame.row (λ (bin : BinAt). bin.frame)) ∙ ap length c.loop-frame.invariant.frames ∙ length-take c.loop-frame.frame-index c.args.frames.now)
    c.loop-frame-test.true c.requires.few valid.limits.bins_to

pub overflow_add-interval : goal.overflow_add-interval
overflow_add-interval c =
    let valid : IsValid c.args.settings.now = subst IsValid c.numbers-valid.ensures.value c.numbers-valid.ensures.valid in
    let last = interval_within c.args.settings.now valid c.args.level c.args.n0 c.loop-frame.frame-index c.loop-frame.interval c.span-wide.result c.edge-low.result c.requires.to c.requires.within
    c.span-wide.ensures.value c.edge-low.ensures (omega (arith, c.loop-frame-test.true, c.requires.few)) c.loop-frame.invariant.place in
    omega (arith, mul-le (suc c.loop-frame.interval) 1 (suc c.loop-frame.interval) c.span-wide.result (omega arith) c.span-wide.ensures.positive, last)

pub loop-frame-init : goal.loop-frame-init
loop-frame-init c = record {
  place = sym (add-zero (c.edge-low.result / c.span-wide.result));
  ranges = ap (map range_of) c.clear.ensures;
  frames = ap (map (λ (bin : BinAt). bin.frame)) c.clear.ensures;
}

pub loop-frame-preserved : goal.loop-frame-preserved
loop-frame-preserved c =
    let f = range_at c.span-wide.result c.edge-low.result c.edge-high.result in
    record {
      place = omega (arith, c.loop-frame.invariant.place);
      ranges = ap (map range_of) c.put.ensures
          ∙ map_push range_of c.loop-frame.row c.bin_in.result
          ∙ ap₂ (λ ranges range. ranges ++ range ∷ []) c.loop-frame.invariant.ranges c.bin_in.ensures.range
          ∙ sym (map-range_with_len_more f (c.edge-low.result / c.span-wide.result) c.loop-frame.frame-index c.loop-frame.interval (sym c.loop-frame.invariant.place));
      frames = ap (map (λ (bin : BinAt). bin.frame)) c.put.ensures
          ∙ map_push (λ (bin : BinAt). bin.frame) c.loop-frame.row c.bin_in.result
          ∙ ap₂ (λ frames frame. frames ++ frame ∷ []) c.loop-frame.invariant.frames c.bin_in.ensures.frame
          ∙ sym (take_more c.args.frames.now c.loop-frame.frame-index 0 c.loop-frame-test.true);
    }

pub returns : goal.returns
returns c = record {
  ranges = c.loop-frame.invariant.ranges
      ∙ ranges_back c.args.settings.now c.args.n0 c.args.level c.span-wide.result c.edge-low.result c.edge-high.result c.loop-frame.frame-index c.span-wide.ensures.positive
      c.span-wide.ensures.value c.edge-low.ensures
      c.edge-high.ensures (omega (arith, c.requires.count, c.loop-frame-test.false, c.loop-frame.auto.frame-index-end));
  frames = c.loop-frame.invariant.frames ∙ take_all c.loop-frame.frame-index c.args.frames.now c.loop-frame-test.false;
}
