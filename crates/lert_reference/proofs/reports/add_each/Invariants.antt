use Rattle.std.proofs.Common.{◌≡◌, ◌-◌}
use Rattle.lert_spec.specs.{Counts.weighed, Look.look_up_to}
use Rattle.lert_reference.proofs.reports.add_each.Given as goal

abbrev pub invariant-loop-m : goal.invariant-loop-m
invariant-loop-m l = l.reports.items ≡ look_up_to weighed l.s l.events (l.m - 1)
