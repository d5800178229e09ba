use Rattle.std.proofs.{Common.arith, lemmas.List.length-set}
use Rattle.lert_counter.proofs.{CounterLemmas.{front-one, length_from_front}, GroupLemmas.length_group-positive}
use Rattle.lert_blocks.proofs.block.put_group.Goals as goal

pub returns-then-count-eq1-clause-front : goal.returns-then-count-eq1-clause-front
returns-then-count-eq1-clause-front c = front-one c.args.width c.args.x c.args.count c.args.into.now (omega arith) c.if-count-eq1.true

pub returns-then-count-eq1-clause-len : goal.returns-then-count-eq1-clause-len
returns-then-count-eq1-clause-len c =
    length_from_front 1 _ _ (simp length-set (omega arith)) (front-one c.args.width c.args.x c.args.count c.args.into.now (omega arith) c.if-count-eq1.true)

pub returns-clause-some : goal.returns-clause-some
returns-clause-some c = omega (arith, length_group-positive c.args.width c.args.x c.args.count (omega arith))
