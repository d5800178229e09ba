use Rattle.std.proofs.Common.{◌+◌, ◌*◌}
use Rattle.lert_levels_tests.specs.Samples.{IsReady}
use Rattle.lert_levels_tests.proofs.levels.directories.Given as goal

abbrev pub invariant-loop-k : goal.invariant-loop-k
invariant-loop-k g l = IsReady (12 + 4 * l.k) l.zero l.levels
