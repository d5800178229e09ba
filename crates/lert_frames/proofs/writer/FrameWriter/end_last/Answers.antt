use Rattle.std.proofs.Common.{refl, arith}
use Rattle.lert_bay.specs.declared.bay.TheConstants.{FRAMES}
use Rattle.lert_blocks.specs.Text.{blocks_text, pieces_in}
use Rattle.lert_frames.{specs.Writing.end_of, proofs.CallLaws.writes_as, proofs.GrowingLaws.{growing_room, growing_again, first_within, last_within, closed_within}}
use Rattle.lert_frames.proofs.WritingLaws.{in_block-ascend, holds_frame}
use Rattle.lert_frames.proofs.writer.FrameWriter.end_last.Goals as goal

pub close_last-requires-clause-room : goal.close_last-requires-clause-room
close_last-requires-clause-room g c = let w = c.args.self.now in growing_room w.growing w.holding

pub invariant_of-self-clause-holding : goal.invariant_of-self-clause-holding
invariant_of-self-clause-holding g c =
    let w = c.args.self.now in
    growing_again w.growing w.holding c.restart.new.outlet c.close_last.new.ends c.restart.new.block.len (omega (arith, c.restart.ensures.size, c.in-Err.ensures.size)) c.in-Err.ensures.ends_size
    c.restart.ensures.len c.restart.ensures.place (omega (arith, c.restart.ensures.at))

pub returns-in-Err-clause-proceeds : goal.returns-in-Err-clause-proceeds
returns-in-Err-clause-proceeds g c =
    let w = c.args.self.now in
    record {
      same = record { settings = refl; version = refl; level = refl; frame = refl; width = refl; place = refl; put = refl; left = refl };
      writes = writes_as (λ _. refl)
          (c.in-Err.ensures.writes w.place (end_of w) (first_within w.growing w.holding) (last_within w.growing w.holding) (closed_within w.growing w.holding));
    }

pub invariant_of-self-2-clause-holding : goal.invariant_of-self-2-clause-holding
invariant_of-self-2-clause-holding g c =
    let w = c.args.self.now in
    growing_again w.growing w.holding c.restart-2.new.outlet c.close_last.new.ends c.restart-2.new.block.len (omega (arith, c.restart-2.ensures.size, c.in_default.ensures.size))
    c.in_default.ensures.ends_size c.restart-2.ensures.len c.restart-2.ensures.place (omega (arith, c.restart-2.ensures.at))

pub returns : goal.returns
returns g c =
    let w = c.args.self.now in
    record {
      proceeds =
          record {
            same = record { settings = refl; version = refl; level = refl; frame = refl; width = refl; place = refl; put = refl; left = refl };
            writes = writes_as (λ never. never)
                (c.in_default.ensures.writes w.place (end_of w) (first_within w.growing w.holding) (last_within w.growing w.holding) (closed_within w.growing w.holding));
          };
      stands = λ seen told later told_later at.
          holds_frame w.settings w.version w.level w.frame w.width w.place w.number w.put (later FRAMES) w.growing.width_is w.growing.place_is c.requires
          (c.in_default.ensures.there seen told later told_later w.place w.width w.number _ (blocks_text w.width 0 w.number w.put) (pieces_in w.width w.number w.put)
          (in_block-ascend w.width w.number 0 _ w.put at.passed) at.stands);
    }
