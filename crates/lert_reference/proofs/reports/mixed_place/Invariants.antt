use Rattle.std.proofs.Common.{◌≡◌, ◌++◌, take, drop}
use Rattle.lert_spec.specs.Look.{insert_mixed}
use Rattle.lert_reference.proofs.reports.mixed_place.Given as goal

abbrev pub invariant-loop-place : goal.invariant-loop-place
invariant-loop-place l = insert_mixed l.key l.keys ≡ take l.place l.keys ++ insert_mixed l.key (drop l.place l.keys)
