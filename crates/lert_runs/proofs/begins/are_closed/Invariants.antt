use Rattle.std.proofs.Common.{ℕ, ◌+◌, ◌<◌, ◌≤◌}
use Rattle.lert_runs.specs.Begins.{IsClosed}
use Rattle.lert_runs.proofs.begins.are_closed.Given as goal

-- so are the slots before this one
abbrev pub invariant-loop-i : goal.invariant-loop-i
invariant-loop-i l = (i : ℕ) → i < l.i → l.at ≤ i + 8 → IsClosed l.run i l.at
