use Rattle.std.proofs.Common.{List, sym, ap, subst, ◌∙◌, arith}
use Rattle.lert_frames.{specs.Place.tail_limit, proofs.GrowingLaws.{growing_new, some_block}, proofs.WritingLaws.given_none}
use Rattle.lert_spec.{specs.declared.piece.Piece.Piece, specs.Limits.IsValid, specs.Table.{AreGiven, costs}}
use Rattle.lert_frames.proofs.writer.FrameWriter.of.Goals as goal

pub invariant_of-result-clause-growing : goal.invariant_of-result-clause-growing
invariant_of-result-clause-growing c =
    let valid : IsValid c.args.settings.now = subst IsValid c.numbers-valid.ensures.value c.numbers-valid.ensures.valid in
    let place = c.frame_place-place.ensures in
    record {
      valid = valid;
      known = (omega arith, omega arith);
      first = c.requires.first;
      last = c.requires.last;
      within = omega arith;
      width_is = c.width.ensures.value;
      place_is = place.value;
      end = place.end;
    }

pub invariant_of-result-clause-holding : goal.invariant_of-result-clause-holding
invariant_of-result-clause-holding c =
    let s = c.args.settings.now in
    let valid : IsValid s = subst IsValid c.numbers-valid.ensures.value c.numbers-valid.ensures.valid in
    growing_new s 1 c.args.level c.frame_place-place.result 0 c.span.result c.restart.new.outlet c.args.ends c.restart.new.block.len c.new.result
    (some_block s c.args.level valid c.requires.last) (omega (arith, ap (costs 1) c.new.ensures, c.span.ensures.value)) (c.restart.ensures.size ∙ c.requires.size) c.requires.ends_size
    c.restart.ensures.len c.restart.ensures.place (omega (arith, c.restart.ensures.at))

pub invariant_of-result-clause-given : goal.invariant_of-result-clause-given
invariant_of-result-clause-given c = subst (λ (ps : List Piece). AreGiven (tail_limit c.args.settings.now) ps) (sym c.new.ensures) (given_none (tail_limit c.args.settings.now))
