use Rattle.lert_conelock.proofs.Seeing.{idles}
use Rattle.lert_conelock.proofs.lock.ConeLock.split.Goals as goal

pub split-seat-requires-clause-idle : goal.split-seat-requires-clause-idle
split-seat-requires-clause-idle g c = idles _ c.pass.invariant.0 c.pass.invariant.1
