use Rattle.std.proofs.Common.{◌∙◌, subst, sym, arith}
use Rattle.lert_worker.specs.crew.Sharing.{ArePartTaken}
use Rattle.lert_worker.proofs.crew.Shared.{all_taken, first_left, part_more}
use Rattle.lert_worker.proofs.crew.sharing.take_readers.Goals as goal

pub take_one-requires-clause-first : goal.take_one-requires-clause-first
take_one-requires-clause-first g c = first_left c.args.count c.args.crew.now c.loop-trace.crew c.loop-trace.readers.items c.requires.shared c.loop-trace.trace c.loop-trace-test.true
    c.loop-trace.invariant.part c.requires.some

pub loop-trace-preserved : goal.loop-trace-preserved
loop-trace-preserved g c = record {
  part = subst (ArePartTaken _ c.args.crew.now c.take_one.new.crew) (sym c.push_back_reserved.ensures.items)
      (part_more c.args.count c.args.crew.now c.loop-trace.crew c.loop-trace.readers.items c.requires.shared c.loop-trace.trace c.loop-trace-test.true c.loop-trace.invariant.part
      c.requires.some c.take_one.new.crew c.take_one.result c.take_one.ensures);
  capacity = c.push_back_reserved.ensures.capacity ∙ c.loop-trace.invariant.capacity;
}

pub returns-clause-taken : goal.returns-clause-taken
returns-clause-taken g c = all_taken c.args.count c.args.crew.now c.loop-trace.crew c.loop-trace.readers.items c.requires.shared
    (subst (λ n. ArePartTaken n c.args.crew.now c.loop-trace.crew c.loop-trace.readers.items)
    (let a = c.loop-trace-test.false in let b = c.loop-trace.auto.trace-end in omega (arith, a, b)) c.loop-trace.invariant.part)
