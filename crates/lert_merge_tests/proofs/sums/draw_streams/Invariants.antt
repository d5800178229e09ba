use Rattle.std.proofs.Common.{◌≡◌, length}
use Rattle.lert_merge_tests.proofs.sums.draw_streams.Given as goal

abbrev pub invariant-loop-stream : goal.invariant-loop-stream
invariant-loop-stream g l = length l.streams.items ≡ l.stream
