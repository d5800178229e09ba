use Rattle.std.proofs.Common.{◌+◌, refl, arith}
use Rattle.lert_bay.specs.declared.bay.TheConstants.{FRAMES}
use Rattle.lert_blocks.specs.Text.{blocks_text, pieces_in}
use Rattle.lert_frames.{specs.Writing.end_of, proofs.CallLaws.writes_as, proofs.GrowingLaws.{growing_room, growing_again, growing_next, first_within, last_within}}
use Rattle.lert_frames.proofs.WritingLaws.{in_block-ascend, passed_next, stands_next}
use Rattle.lert_frames.proofs.writer.FrameWriter.end_block.Goals as goal

pub close-requires-clause-room : goal.close-requires-clause-room
close-requires-clause-room g c = let w = c.args.self.now in growing_room w.growing w.holding

pub invariant_of-self-clause-holding : goal.invariant_of-self-clause-holding
invariant_of-self-clause-holding g c =
    let w = c.args.self.now in
    growing_again w.growing w.holding c.restart.new.outlet c.close.new.ends c.restart.new.block.len (omega (arith, c.restart.ensures.size, c.in-Err.ensures.size)) c.in-Err.ensures.ends_size
    c.restart.ensures.len c.restart.ensures.place (omega (arith, c.restart.ensures.at))

pub returns-in-Err-clause-proceeds : goal.returns-in-Err-clause-proceeds
returns-in-Err-clause-proceeds g c =
    let w = c.args.self.now in
    record {
      same = record { settings = refl; version = refl; level = refl; frame = refl; width = refl; place = refl; put = refl; left = refl };
      writes = writes_as (λ _. refl) (c.in-Err.ensures.writes w.place (end_of w) (first_within w.growing w.holding) (last_within w.growing w.holding));
    }

pub invariant_of-self-2-clause-holding : goal.invariant_of-self-2-clause-holding
invariant_of-self-2-clause-holding g c =
    let w = c.args.self.now in
    growing_next w.growing w.holding c.close.new.outlet c.close.new.ends c.clear.new.self.len c.requires c.in_default.ensures.size c.in_default.ensures.ends_size
    (omega (arith, (c.clear.ensures 0 0).skipped)) c.in_default.ensures.place c.in_default.ensures.at

pub returns-clause-proceeds : goal.returns-clause-proceeds
returns-clause-proceeds g c =
    let w = c.args.self.now in
    record {
      same = record { settings = refl; version = refl; level = refl; frame = refl; width = refl; place = refl; put = refl; left = refl };
      writes = writes_as (λ never. never) (c.in_default.ensures.writes w.place (end_of w) (first_within w.growing w.holding) (last_within w.growing w.holding));
    }

pub returns-clause-stays : goal.returns-clause-stays
returns-clause-stays g c seen told later told_later at =
    let w = c.args.self.now in
    record {
      passed = passed_next w.width w.number w.put at.passed;
      stands = stands_next w.place w.width w.number w.put (later FRAMES) c.close.new.ends c.close.new.outlet c.clear.new.self at.passed
          (c.in_default.ensures.out seen told later told_later w.place w.width w.number _ (blocks_text w.width 0 w.number w.put) (pieces_in w.width w.number w.put)
          (in_block-ascend w.width w.number 0 _ w.put at.passed) at.stands)
          (c.clear.ensures w.width (w.number + 1));
    }
