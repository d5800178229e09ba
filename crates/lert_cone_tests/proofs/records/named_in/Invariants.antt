use Rattle.std.proofs.Common.{length}
use Rattle.lert_cone_tests.proofs.records.named_in.Given as goal

-- the bytes that weren't read yet
abbrev pub decreases-loop-rest : goal.decreases-loop-rest
decreases-loop-rest g l = length l.rest
