use Rattle.std.proofs.Common.{◌≡◌, ℕ, ◌<◌}
use Rattle.lert_merge.specs.tree.Race.{number_at}
use Rattle.lert_merge.proofs.order.ahead.Ahead.left.Given as goal

abbrev pub invariant-loop-stream : goal.invariant-loop-stream
invariant-loop-stream l = (k : ℕ) → k < l.stream → number_at l.self.counts k ≡ 0
