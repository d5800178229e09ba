use Rattle.std.proofs.Common.{◌≡◌, ◌≤◌, length, drop}
use Rattle.lert_spec.specs.Counts.{weighed, distinct_in}
use Rattle.lert_reference.proofs.counts.distinct.Given as goal

abbrev pub invariant-loop-left : goal.invariant-loop-left
invariant-loop-left l = (l.left ≤ length l.events) × (l.keys.items ≡ distinct_in weighed (drop l.left l.events))

abbrev pub decreases-loop-left : goal.decreases-loop-left
decreases-loop-left l = l.left
