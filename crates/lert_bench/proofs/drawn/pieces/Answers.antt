use Rattle.std.proofs.Common.{rules, arith, ◌≡◌, ◌+◌, ◌^◌, ◌∙◌, ap, subst, sym}
use Rattle.lert_bench.proofs.drawn.pieces.Goals as goal
use Rattle.lert_frames.proofs.WritingLaws.{total_push}
use Rattle.lert_spec.proofs.GivenLaws.{given_more, given_wide}
use Rattle.lert_spec.specs.declared.piece.Piece.{Piece}
use Rattle.lert_spec.specs.Table.{total, AreGiven}

pub loop-preserved : goal.loop-preserved
loop-preserved c =
    let piece : Piece = c.draw-piece.result in
    let drawn = c.draw-piece.ensures in
    let above : c.in-Some.above ≡ piece.tail + 1 = search rules in
    let items = c.in_ok-push.ensures.items in
    let was = c.loop.invariant in
    record {
      given = subst (AreGiven c.in-Some.above) (sym items) (given_wide (piece.tail + 1) c.in-Some.above _ (omega (arith, above))
          (given_more c.loop.least c.loop.pieces.items piece was.given drawn.tail drawn.count.0 (omega (arith, drawn.count.1, was.summed, was.counted, c.requires.most))));
      low = search rules;
      counted = search rules;
      summed = omega (arith, ap total items ∙ total_push c.loop.pieces.items piece, was.summed, drawn.count.0, drawn.count.1);
    }

pub returns-clause-given : goal.returns-clause-given
returns-clause-given c = let low = c.loop.invariant.low in given_wide c.loop.least (2 ^ 64) c.loop.pieces.items (omega (arith, low)) c.loop.invariant.given
