use Rattle.lert_worker.proofs.crew.Manning.{shared_still}
use Rattle.lert_worker.proofs.crew.reading.read_all.Goals as goal

pub take_readers-requires-clause-shared : goal.take_readers-requires-clause-shared
take_readers-requires-clause-shared g c = shared_still g.S.Source.remaining g.S.Faulty.faults g.S.Faulty.mark c.args.fleet.now c.args.count c.args.crew.now c.run_all.new.workers
    c.run_all.ensures.ran c.requires.shared
