use Rattle.std.proofs.Common.{rules}
use Rattle.lert_conelock.proofs.Freeing.{frees}
use Rattle.lert_conelock.proofs.steps.free.Goals as goal

pub swap-requires : goal.swap-requires
swap-requires g c = (search rules, search rules, frees _ _ _ _ _ _ c.requires.lock.0 g.C.Counting.more c.requires.sized.1 c.requires.lock.1)
