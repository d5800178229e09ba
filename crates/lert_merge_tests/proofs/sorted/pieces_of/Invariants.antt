use Rattle.std.proofs.Common.{◌<◌, ◌^◌}
use Rattle.lert_spec.specs.Table.{AreGiven}
use Rattle.lert_merge_tests.proofs.sorted.pieces_of.Given as goal

abbrev pub invariant-loop-tail : goal.invariant-loop-tail
invariant-loop-tail g l = record { given : AreGiven l.least l.pieces.items; low : l.least < 2 ^ 64 }
