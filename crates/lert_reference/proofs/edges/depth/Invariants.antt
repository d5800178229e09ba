use Rattle.std.proofs.Common.{◌≡◌, ◌≤◌}
use Rattle.lert_spec.specs.Edges.{depth, deepest}
use Rattle.lert_reference.proofs.edges.depth.Given as goal

abbrev pub invariant-loop-level : goal.invariant-loop-level
invariant-loop-level l = (l.level ≤ l.s.levels) × (depth l.s l.m ≡ deepest l.s l.level l.m)

abbrev pub decreases-loop-level : goal.decreases-loop-level
decreases-loop-level l = l.level
