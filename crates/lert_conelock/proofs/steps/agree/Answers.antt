use Rattle.std.proofs.Common.{rules}
use Rattle.lert_conelock.proofs.Looking.{agreeing}
use Rattle.lert_conelock.proofs.steps.agree.Goals as goal

pub load-requires : goal.load-requires
load-requires g c = (search rules, search rules, agreeing _ _ _ _ _ _)
