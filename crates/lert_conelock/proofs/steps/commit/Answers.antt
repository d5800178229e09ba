use Rattle.std.proofs.Common.{rules}
use Rattle.lert_conelock.proofs.Committing.{committing}
use Rattle.lert_conelock.proofs.steps.commit.Goals as goal

pub fetch_add-requires : goal.fetch_add-requires
fetch_add-requires g c = let try = c.requires.trying in (search rules, search rules, committing _ _ _ _ _ _ try.pass try.packet try.me_is try.tries (c.requires.short try.pass try.me_is))
