use Rattle.std.proofs.Common.{◌≡◌, take}
use Rattle.lert_spec.specs.{Counts.weighed, Mix.part_in}
use Rattle.lert_reference.proofs.parts.part.Given as goal

abbrev pub invariant-loop-item : goal.invariant-loop-item
invariant-loop-item l = l.part.items ≡ part_in weighed l.s l.of (take l.item-index l.items)
