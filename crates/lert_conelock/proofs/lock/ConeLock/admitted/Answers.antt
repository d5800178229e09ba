use Rattle.lert_conelock.proofs.Seeing.{idles}
use Rattle.lert_conelock.proofs.lock.ConeLock.admitted.Goals as goal

pub look-requires-clause-idle : goal.look-requires-clause-idle
look-requires-clause-idle g c = idles _ c.pass.invariant.0 c.pass.invariant.1
