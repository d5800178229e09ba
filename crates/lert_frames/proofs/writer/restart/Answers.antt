use Rattle.std.proofs.Common.{arith}
use Rattle.lert_frames.proofs.writer.restart.Goals as goal

pub returns-clause-len : goal.returns-clause-len
returns-clause-len c = omega (arith, (c.clear.ensures 0 0).skipped)
