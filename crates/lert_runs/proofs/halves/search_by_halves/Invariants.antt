use Rattle.std.proofs.Common.{ℕ, ◌-◌, ◌≤◌, List, length}
use Rattle.lert_runs.specs.{RunText.IsTextOf, Halves.IsBefore}
use Rattle.lert_runs.proofs.halves.search_by_halves.Given as goal

-- a walk may begin at `low`, of every text that the run can be
abbrev pub invariant-loop-high : goal.invariant-loop-high
invariant-loop-high l =
    (l.low ≤ l.high) × (l.high ≤ length l.run) × ((ps : List (ℕ × ℕ)) → IsTextOf l.width l.run ps → IsBefore l.width l.x ps l.low)

abbrev pub decreases-loop-high : goal.decreases-loop-high
decreases-loop-high l = l.high - l.low
