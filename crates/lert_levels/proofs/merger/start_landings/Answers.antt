use Rattle.std.proofs.Common.{ℕ, ◌≡◌, ◌+◌, ◌<◌, ◌≤◌, ◌∙◌, List, [], get_or, length, subst, sym, ap, arith, length-set}
use Rattle.lert_levels.specs.{landing.Landed.{taken, IsLanding}, declared.landing.landing.Landing.Landing, declared.rows.bin_at.BinAt.BinAt, rows.Landing.landing_frame, rows.Rows.arrived}
use Rattle.lert_levels.proofs.{rows.LandLaws.landing_within, rows.ReadLaws.row_here, ReadyLaws.{set_more, landings_set}, merger.start_landings.Goals.{After-bins, After-from}}
use Rattle.lert_spec.specs.{declared.numbers.Numbers.Numbers, Limits.IsValid}
use Rattle.lert_levels.proofs.merger.start_landings.Goals as goal

-- the level's row
here : (c : After-bins) → get_or c.args.rows.now c.loop-lower.lower [] ≡ c.bins.result.now
here c = row_here c.args.rows.now c.loop-lower.lower c.index-rows-lower.result c.bins.result.now c.loop-lower-test.true c.index-rows-lower.is c.bins.ensures.bins

-- the frame of its new bin
frame_is : (c : After-from) → get_or c.args.rows.now c.loop-lower.lower [] ≡ c.bins.result.now →
    c.from.result ≡ landing_frame c.args.settings.now c.args.m c.args.rows.now c.loop-lower.lower
frame_is c is =
    c.from.ensures ∙ ap (λ (b : BinAt). b.frame) c.arrival-bin.ensures
    ∙ ap (λ (row : List BinAt). (arrived c.args.settings.now c.args.m (c.loop-lower.lower + 1) row).frame) (sym is)

pub arrival-bin-requires : goal.arrival-bin-requires
arrival-bin-requires c =
    let i = c.loop-lower.lower in
    let s = c.args.settings.now in
    let row = c.requires.rows.each i c.loop-lower-test.true in
    let valid : IsValid s = subst IsValid c.numbers-valid.ensures.value c.numbers-valid.ensures.valid in
    record {
      first = c.requires.first;
      last = c.requires.last;
      from = omega arith;
      to = omega (arith, c.loop-lower-test.true, c.requires.rows.few);
      few = omega (arith, ap length (here (goal.at.arrival-bin-requires c).After-bins), row.few, valid.limits.bins_to);
    }

pub start-requires : goal.start-requires
start-requires c =
    let at = goal.at.start-requires c in
    let i = c.loop-lower.lower in
    let s = c.args.settings.now in
    let within = landing_within s c.args.m (i + 1) (get_or c.args.rows.now i []) (c.requires.rows.each i c.loop-lower-test.true) in
    let below : i < length c.loop-lower.landings = omega (arith, c.loop-lower-test.true, c.loop-lower.invariant.len, c.requires.enough) in
    let is = c.loop-lower.invariant.landings i c.index-landings-lower.result below in
    record {
      version = c.requires.version;
      frame = subst (λ (t : Numbers). c.from.result ≤ t.bins) (sym is.settings) (omega (arith, frame_is at.After-from (here at.After-bins), within));
    }

pub loop-lower-preserved : goal.loop-lower-preserved
loop-lower-preserved c =
    let at = goal.at.loop-lower-preserved c in
    let i = c.loop-lower.lower in
    let s = c.args.settings.now in
    let was = c.loop-lower.invariant in
    let begun = c.start.ensures in
    let below : i < length c.loop-lower.landings = omega (arith, c.loop-lower-test.true, was.len, c.requires.enough) in
    let is = was.landings i c.index-landings-lower.result below in
    record {
      len = length-set c.loop-lower.landings i c.start.new.self ∙ was.len;
      started = set_more (λ k (l : Landing). (l.frame ≡ landing_frame s c.args.m c.args.rows.now k) × (l.writer.version ≡ c.args.version) × (taken l ≡ [])
          × ((file : List ℕ) → IsLanding l file)) c.loop-lower.landings i
          c.start.new.self below was.started (begun.frame ∙ frame_is at.After-from (here at.After-bins), begun.version, begun.taken, begun.landing);
      landings = landings_set s c.loop-lower.landings i c.start.new.self below was.landings
          (record { settings = begun.settings ∙ is.settings; level_is = begun.level ∙ is.level_is });
    }

pub returns : goal.returns
returns c =
    let was = c.loop-lower.invariant in
    record {
      started = record {
        frame = λ k d below. (was.started k d (omega (arith, below, c.loop-lower-test.false))).0;
        of_version = λ k d below. (was.started k d (omega (arith, below, c.loop-lower-test.false))).1;
        empty = λ k d below. (was.started k d (omega (arith, below, c.loop-lower-test.false))).2;
        landing = λ k d below. (was.started k d (omega (arith, below, c.loop-lower-test.false))).3;
      };
      landings = was.landings;
      len = was.len;
    }
