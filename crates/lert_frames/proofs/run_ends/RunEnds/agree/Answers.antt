use Rattle.std.proofs.Common.{sym}
use Rattle.lert_frames.proofs.RunEndLaws.{agree_same, agree_other, none_agree}
use Rattle.lert_frames.proofs.run_ends.RunEnds.agree.Goals as goal

pub returns-then-count-eq0 : goal.returns-then-count-eq0
returns-then-count-eq0 c words long are = sym (none_agree c.args.occupied c.args.count words c.if-count-eq0.true (c.requires c.if-count-eq0.true) long)

pub returns-then-self-from : goal.returns-then-self-from
returns-then-self-from c words long are =
    agree_same c.args.occupied c.args.count c.from.result words c.args.self c.ranges.occupied.fits c.if-count-eq0.false long are c.from.ensures c.if-self-from.true

pub returns-else-self-from : goal.returns-else-self-from
returns-else-self-from c words long are =
    agree_other c.args.occupied c.args.count c.from.result words c.args.self c.ranges.occupied.fits c.if-count-eq0.false long are c.from.ensures c.if-self-from.false
