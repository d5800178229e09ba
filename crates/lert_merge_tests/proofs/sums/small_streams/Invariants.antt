use Rattle.std.proofs.Common.{◌≡◌, length}
use Rattle.lert_merge_tests.proofs.sums.small_streams.Given as goal

abbrev pub invariant-loop-table : goal.invariant-loop-table
invariant-loop-table g l = length l.streams.items ≡ l.table
