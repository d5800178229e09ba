use Rattle.std.proofs.Common.{◌+◌, ◌*◌, ◌∙◌, ap, refl, arith}
use Rattle.lert_bay.{specs.declared.bay.TheConstants.FRAMES, specs.Settled.part}
use Rattle.lert_blocks.specs.Text.{blocks_text, pieces_in}
use Rattle.lert_frames.{specs.Place.slots_each, specs.Writing.end_of, proofs.CallLaws.writes_as, proofs.ClosingLaws.before_stays, proofs.GrowingLaws.{growing_room, growing_gone, growing_kept}}
use Rattle.lert_frames.{proofs.ProceedLaws.{proceeds_on, stays_on}, proofs.WritingLaws.{behind_some, in_block-ascend}}
use Rattle.lert_frames.proofs.writer.FrameWriter.spill.Goals as goal

pub let_go-requires-clause-reach : goal.let_go-requires-clause-reach
let_go-requires-clause-reach g c = let m = c.long_block.new.self in (growing_room m.growing m.holding).spilt c.in_ok-long.long c.in_ok-long.ensures.long

pub invariant_of-self : goal.invariant_of-self
invariant_of-self g c =
    let m = c.long_block.new.self in
    let long = c.in_ok-long.long in
    let is = c.in_ok-long.ensures.long in
    let gone = c.in_err-gone.ensures in
    record {
      growing = m.growing;
      holding = growing_kept m.growing m.holding c.let_go.new.outlet c.let_go.new.ends c.let_go.new.block.len long is gone.size gone.ends_size gone.stays
          (gone.failed (m.block.len + slots_each m.version * m.left) (end_of m) (m.holding.spilt long is).reach);
      given = m.given;
    }

pub returns-in_err-gone-clause-proceeds : goal.returns-in_err-gone-clause-proceeds
returns-in_err-gone-clause-proceeds g c =
    let m = c.long_block.new.self in
    let spilt = m.holding.spilt c.in_ok-long.long c.in_ok-long.ensures.long in
    proceeds_on g.met.B.Bay.since_earlier c.in_ok-long.ensures.proceeds (record {
      same = record { settings = refl; version = refl; level = refl; frame = refl; width = refl; place = refl; put = refl; left = refl };
      writes = writes_as (λ _. refl)
          (c.in_err-gone.ensures.writes m.place (end_of m) spilt.at (omega (arith, spilt.reach.slots_fit)));
    })

pub invariant_of-self-2 : goal.invariant_of-self-2
invariant_of-self-2 g c =
    let m = c.long_block.new.self in
    let long = c.in_ok-long.long in
    let is = c.in_ok-long.ensures.long in
    let gone = c.in_ok-gone.ensures in
    record {
      growing = m.growing;
      holding = growing_gone m.growing m.holding c.let_go.new.outlet c.let_go.new.ends c.let_go.new.block.len long c.in_ok-gone.gone is gone.size gone.ends_size gone.begin gone.words
          gone.room.0 gone.less (gone.reach (m.block.len + slots_each m.version * m.left) (end_of m) (omega arith) (m.holding.spilt long is).reach);
      given = m.given;
    }

pub returns-clause-proceeds : goal.returns-clause-proceeds
returns-clause-proceeds g c =
    let m = c.long_block.new.self in
    let spilt = m.holding.spilt c.in_ok-long.long c.in_ok-long.ensures.long in
    proceeds_on g.met.B.Bay.since_earlier c.in_ok-long.ensures.proceeds (record {
      same = record { settings = refl; version = refl; level = refl; frame = refl; width = refl; place = refl; put = refl; left = refl };
      writes = c.in_ok-gone.ensures.writes m.place (end_of m) spilt.at (omega (arith, spilt.reach.slots_fit));
    })

pub returns-clause-stays : goal.returns-clause-stays
returns-clause-stays g c =
    let m = c.long_block.new.self in
    let long = c.in_ok-long.long in
    let is = c.in_ok-long.ensures.long in
    let spilt = m.holding.spilt long is in
    let gone = c.in_ok-gone.ensures in
    let text = blocks_text m.width 0 m.number m.put in
    let pieces = pieces_in m.width m.number m.put in
    stays_on c.in_ok-long.ensures.proceeds c.in_ok-long.ensures.stays (λ seen told later told_later at.
    record {
      passed = at.passed;
      stands = behind_some c.in_ok-gone.gone m.place text m.width m.number pieces (later FRAMES) c.let_go.new.ends c.let_go.new.outlet c.let_go.new.block
          (gone.spilt seen told later told_later m.width m.number _ pieces (in_block-ascend m.width m.number 0 _ m.put at.passed) (at.stands.spilt long is))
          (ap (part (later FRAMES) m.place) gone.begin ∙ before_stays _ long.begin (end_of m) _ _ seen later told told_later
          (gone.writes long.begin (end_of m) (omega arith) (omega (arith, spilt.reach.slots_fit))).within
          (omega (arith, spilt.reach.slots_fit, spilt.reach.slots_at, spilt.reach.words_fit, spilt.reach.ends_at, spilt.reach.ends_next)) m.place text (at.stands.begins long is)
          (at.stands.before long is))
          (gone.begin ∙ at.stands.begins long is);
    })
