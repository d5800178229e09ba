use Rattle.std.proofs.Common.{◌≡◌, ◌++◌, take, drop}
use Rattle.lert_spec.specs.Counts.{insert_key}
use Rattle.lert_reference.proofs.counts.place_of.Given as goal

abbrev pub invariant-loop-place : goal.invariant-loop-place
invariant-loop-place l = insert_key l.key l.keys ≡ take l.place l.keys ++ insert_key l.key (drop l.place l.keys)
