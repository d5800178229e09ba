use Rattle.std.proofs.Common.{◌≡◌, ◌+◌, ◌==◌, drop}
use Rattle.std.specs.List.{position_from}
use Rattle.lert_spec.specs.Counts.{weighed, first_in}
use Rattle.lert_reference.proofs.counts.first.Given as goal

abbrev pub invariant-loop-place : goal.invariant-loop-place
invariant-loop-place l = first_in weighed l.key l.events ≡ position_from (λ event. event.key == l.key) (1 + l.place) (drop l.place l.events)
