use Rattle.std.proofs.Common.{◌≡◌, ◌++◌, take, map, filter}
use Rattle.lert_spec.specs.{Counts.weighed, Look.is_due_in}
use Rattle.lert_reference.proofs.reports.add_due.Given as goal

abbrev pub invariant-loop-key : goal.invariant-loop-key
invariant-loop-key l =
    l.reports.items ≡ l.fn.reports.items ++ map (λ key. record { key = key; at = l.to }) (filter (is_due_in weighed l.threshold l.events l.from l.to l.fn.reports.items) (take l.key-index l.keys))
