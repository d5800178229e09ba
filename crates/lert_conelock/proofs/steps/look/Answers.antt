use Rattle.std.proofs.Common.{rules}
use Rattle.lert_conelock.proofs.Looking.{looking}
use Rattle.lert_conelock.proofs.steps.look.Goals as goal

pub load-requires : goal.load-requires
load-requires g c = let me = c.requires.idle in (
  search rules,
  search rules,
  looking _ _ _ _ _ _ me.pass
      (λ i. (me.me_is i).0) me.idle,
)
