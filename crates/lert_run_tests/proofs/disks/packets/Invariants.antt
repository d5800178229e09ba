use Rattle.std.proofs.Common.{length}
use Rattle.lert_run_tests.proofs.disks.packets.Given as goal

-- the bytes that weren't read yet
abbrev pub decreases-loop-rest : goal.decreases-loop-rest
decreases-loop-rest g l = length l.rest
