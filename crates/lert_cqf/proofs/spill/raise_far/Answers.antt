use Rattle.lert_cqf.proofs.SumLemmas.{block_room}
use Rattle.lert_cqf.proofs.spill.raise_far.Goals as goal

pub raise-requires-2-clause-room : goal.raise-requires-2-clause-room
raise-requires-2-clause-room c = λ block _ before.
    block_room c.args.own.now c.args.common.now c.args.from c.args.to block c.requires.within c.requires.room before
