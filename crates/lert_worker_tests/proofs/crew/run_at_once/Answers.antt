use Rattle.lert_worker_tests.proofs.PairLaws.{both, each_of_two}
use Rattle.lert_worker.specs.Ran.{MayRun}
use Rattle.lert_worker_tests.proofs.crew.run_at_once.Goals as goal

pub run_all-requires-clause-may : goal.run_all-requires-clause-may
run_all-requires-clause-may g c =
    let may = both (MayRun g.H.Held c.args.fleet.now) c.args.first c.args.second c.requires.may c.requires.other_may in
    search may

pub returns : goal.returns
returns g c = each_of_two g.S.Source.remaining g.S.Faulty.faults g.S.Faulty.mark c.args.fleet.now c.args.first c.args.second _ _ _ c.both_of.ensures c.run_all.ensures.ran
