use Rattle.std.proofs.Common.{◌≡◌, ◌*◌, ◌≤◌, take, sum_by}
use Rattle.lert_spec.specs.Counts.{weighed, weight_for}
use Rattle.lert_reference.proofs.counts.weight.Given as goal

abbrev pub invariant-loop-event : goal.invariant-loop-event
invariant-loop-event l = (l.weight ≡ sum_by (weight_for weighed l.key) (take l.event-index l.window)) × (l.weight ≤ 255 * l.event-index)
