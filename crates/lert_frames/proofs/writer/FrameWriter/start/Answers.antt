use Rattle.std.proofs.Common.{[], List, sym, ap, subst, ◌∙◌, ◌+◌, ◌*◌, ◌^◌, None, arith}
use Rattle.lert_blocks.specs.Text.{blocks_text, pieces_in}
use Rattle.lert_frames.{specs.Place.tail_limit, specs.Spilt.IsBehind, proofs.GrowingLaws.{growing_new, some_block}, proofs.WritingLaws.{given_none, behind_none}}
use Rattle.lert_spec.{specs.declared.piece.Piece.Piece, specs.Table.{AreGiven, AscendsFrom, costs}}
use Rattle.lert_frames.proofs.writer.FrameWriter.start.Goals as goal

pub invariant_of-self-clause-growing : goal.invariant_of-self-clause-growing
invariant_of-self-clause-growing c =
    let old = c.args.self.now.growing in
    let place = c.frame_place-self.ensures in
    record { valid = old.valid; known = c.requires.version; first = old.first; last = old.last; within = c.requires.frame; width_is = old.width_is; place_is = place.value; end = place.end }

pub invariant_of-self-clause-holding : goal.invariant_of-self-clause-holding
invariant_of-self-clause-holding c =
    let w = c.args.self.now in
    growing_new w.settings c.args.version w.level c.frame_place-self.result 0 c.span-self.result c.restart.new.outlet w.ends c.restart.new.block.len c.new.result
    (some_block w.settings w.level w.growing.valid w.growing.last) (omega (arith, ap (costs c.args.version) c.new.ensures, c.span-self.ensures.value))
    (c.restart.ensures.size ∙ w.holding.size) w.holding.ends_size
    c.restart.ensures.len c.restart.ensures.place (omega (arith, c.restart.ensures.at))

pub invariant_of-self-clause-given : goal.invariant_of-self-clause-given
invariant_of-self-clause-given c = subst (λ (ps : List Piece). AreGiven (tail_limit c.args.self.now.settings) ps) (sym c.new.ensures) (given_none (tail_limit c.args.self.now.settings))

pub returns-clause-writing : goal.returns-clause-writing
returns-clause-writing c file =
    let w = c.args.self.now in
    let place = c.frame_place-self.result in
    record {
      ahead = λ piece up. omega arith;
      at = record {
        passed = subst (λ (ps : List Piece). AscendsFrom 0 (64 * (0 + 1) * 2 ^ w.width) ps) (sym c.new.ensures) tt;
        stands = subst (λ (ps : List Piece). IsBehind None place (blocks_text w.width 0 0 ps) w.width 0 (pieces_in w.width 0 ps) file w.ends c.restart.new.outlet c.restart.new.block)
            (sym c.new.ensures)
            (behind_none place [] w.width 0 [] file w.ends c.restart.new.outlet c.restart.new.block (c.restart.ensures.out file) (c.restart.ensures.filled w.width 0));
      };
    }
