use Rattle.std.proofs.Common.{◌≡◌, length}
use Rattle.lert_bench.proofs.window.Window.new.Given as goal

abbrev pub invariant-loop : goal.invariant-loop
invariant-loop l = length l.bins.items ≡ l.counter
