use Rattle.std.proofs.{Common.length, lemmas.Nat.mod_below}
use Rattle.lert_worker.proofs.crew.Shared.{none_first, taken_one}
use Rattle.lert_worker.proofs.crew.sharing.take_one.Goals as goal

pub returns : goal.returns
returns g c = taken_one c.args.trace c.in-Some.reader c.args.crew.now c.index-crew-by.result c.take_back.new.self c.in-Some._trace
    (mod_below c.args.trace (length c.args.crew.now) c.requires.some) c.in-Some.ensures c.requires.first

pub nonzero_rem-by : goal.nonzero_rem-by
nonzero_rem-by g c = c.requires.some

pub bounds-crew-by : goal.bounds-crew-by
bounds-crew-by g c = mod_below c.args.trace (length c.args.crew.now) c.requires.some

pub unreachable-requires : goal.unreachable-requires
unreachable-requires g c = none_first c.args.trace c.args.crew.now c.index-crew-by.result
    (mod_below c.args.trace (length c.args.crew.now) c.requires.some) c.requires.first c.in-None.ensures.0
