use Rattle.std.proofs.Common.{◌≡◌, ◌∙◌, length, ap, arith, refl}
use Rattle.lert_worker.specs.crew.Crewed.{end_at}
use Rattle.lert_ingest.specs.Faults.{earliest, end_fault}
use Rattle.lert_ingest.proofs.FaultOrder.{earliest_more, end_there}
use Rattle.lert_ingest.proofs.faults.first_of_ends.Goals as goal

pub bounds-ends-by : goal.bounds-ends-by
bounds-ends-by c = c.loop-by-test.true

pub loop-by-init : goal.loop-by-init
loop-by-init c = record { first_is = refl }

pub loop-by-smaller : goal.loop-by-smaller
loop-by-smaller c = let t = c.loop-by-test.true in omega (arith, t)

pub loop-by-preserved : goal.loop-by-preserved
loop-by-preserved c = record {
  first_is = earliest_more (λ by. end_fault (end_at c.args.ends.now by)) c.loop-by.by c.loop-by.first c.end_fault.result c.earlier-first.result c.earlier-first.ensures
      c.loop-by.invariant.first_is (end_there c.args.ends.now c.loop-by.by c.end_fault.result c.loop-by-test.true c.end_fault.ensures);
}

pub returns : goal.returns
returns c =
    let all : c.loop-by.by ≡ length c.args.ends.now = (let a = c.loop-by-test.false in let b = c.loop-by.auto.by-end in omega (arith, a, b)) in
    c.loop-by.invariant.first_is ∙ ap (earliest (λ by. end_fault (end_at c.args.ends.now by))) all
