use Rattle.std.proofs.Common.{◌≡◌, Some, subst, arith}
use Rattle.std.specs.Prelude.{IfSome}
use Rattle.lert_levels.proofs.landing.SummedLaws.{plus_up_to}
use Rattle.lert_levels.specs.landing.Whole.{AreUpTo, Takes}
use Rattle.lert_merge.specs.order.Ordering.{IsNotBelow}
use Rattle.lert_spec.proofs.Tables.{total-plus}
use Rattle.lert_spec.specs.Table.{plus}
use Rattle.lert_bench.specs.Streams.{took_any}
use Rattle.lert_bench.proofs.merge.merge_all.Goals as goal

pub loop-preserved : goal.loop-preserved
loop-preserved c =
    let was = c.loop.invariant in
    let e = c.in-Ok-Some.ensures in
    let tail = c.in-Ok-Some.piece.tail in
    let count = c.in-Ok-Some.piece.count in
    let is : c.in-Ok-Some.field-0 ≡ Some (c.in-Ok-Some.stream, c.in-Ok-Some.piece) = c.in-Ok-Some.field-0-is in
    let above : IsNotBelow c.loop.order.last tail = subst (λ given. IfSome given (λ g. IsNotBelow c.loop.order.last g.1.tail)) is e.above in
    let last : c.step.new.self.last ≡ Some tail = subst (λ given. IfSome given (λ g. c.step.new.self.last ≡ Some g.1.tail)) is e.last in
    let up : AreUpTo tail was.list = was.up tail above in
    let same : Takes took_any c.piece.new.self c.loop.sum was.list = record {
      front = was.takes.front;
      taken = tt;
      is = was.takes.is;
      below = was.takes.below;
      begun = was.takes.begun;
    } in
    record {
      list = plus was.list tail count;
      takes = c.add_total.ensures was.list same up;
      up = λ most beyond.
          let less = beyond tail last in plus_up_to was.list tail count most less (λ k d below. omega (arith, up k d below, less));
      fits = omega (arith, total-plus was.list tail count, was.fits, c.if-piece-gt-MOST_COUNT.false);
    }
