use Rattle.std.proofs.Common.{ℕ, ◌≡◌, ◌≢◌, ◌-◌, ◌<◌, ◌≤◌}
use Rattle.lert_spec.specs.Edges.{edge}
use Rattle.lert_base.proofs.settings.Settings.depth.Given as goal

abbrev pub invariant-loop-level : goal.invariant-loop-level
invariant-loop-level l =
    (l.levels ≡ l.self.levels) × (l.level ≤ l.levels) × ((k : ℕ) → k < l.level → edge l.self k l.m ≢ edge l.self k (l.m - 1))

abbrev pub decreases-loop-level : goal.decreases-loop-level
decreases-loop-level l = l.levels - l.level
