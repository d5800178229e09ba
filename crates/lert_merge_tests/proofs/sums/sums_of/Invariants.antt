use Rattle.std.proofs.Common.{◌≤◌, length}
use Rattle.lert_merge_tests.proofs.sums.sums_of.Given as goal

abbrev pub invariant-loop : goal.invariant-loop
invariant-loop g l = l.streams ≤ length l.merge.order.streams
