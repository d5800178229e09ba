use Rattle.std.proofs.Common.{rules, arith, get_or, ◌≡◌, ◌+◌, ◌^◌}
use Rattle.lert_spec.proofs.GivenLaws.{given_more, given_wide}
use Rattle.lert_merge_tests.proofs.sorted.pieces_of.Goals as goal

pub returns : goal.returns
returns g c = given_wide c.loop-tail.least (2 ^ 64) _ (omega (arith, c.loop-tail.invariant.low)) c.loop-tail.invariant.given

pub returns-then-not-is_next : goal.returns-then-not-is_next
returns-then-not-is_next g c = given_wide c.loop-tail.least (2 ^ 64) _ (omega (arith, c.loop-tail.invariant.low)) c.loop-tail.invariant.given

pub returns-in_default : goal.returns-in_default
returns-in_default g c =
    rw c.put.ensures (given_wide _ (2 ^ 64) _ (omega (arith, c.is_next.ensures.fits))
    (given_more _ _ _ c.loop-tail.invariant.given (c.is_next.ensures.tail c.if-not-is_next.false) (c.is_next.ensures.some c.if-not-is_next.false)
    (c.is_next.ensures.small c.if-not-is_next.false)))

pub loop-tail-preserved : goal.loop-tail-preserved
loop-tail-preserved g c =
    let above : c.in-Some.above ≡ (get_or c.args.rows.now c.loop-tail.tail-index (0, 0)).0 + 1 = search rules in
    record {
      given = rw (above, c.put.ensures)
          (given_more _ _ _ c.loop-tail.invariant.given (c.is_next.ensures.tail c.if-not-is_next.false) (c.is_next.ensures.some c.if-not-is_next.false)
          (c.is_next.ensures.small c.if-not-is_next.false));
      low = search rules;
    }
