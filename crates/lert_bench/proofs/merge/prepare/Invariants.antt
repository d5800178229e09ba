use Rattle.std.proofs.Common.{◌≡◌, length}
use Rattle.lert_bench.proofs.merge.prepare.Given as goal

abbrev pub invariant-loop : goal.invariant-loop
invariant-loop l = length l.streams.items ≡ l.counter
