use Rattle.std.proofs.Common.{◌≡◌}
use Rattle.lert_spec.proofs.EdgeLaws.{spans_below}
use Rattle.lert_reference.proofs.edges.offset.Given as goal

abbrev pub invariant-loop-younger : goal.invariant-loop-younger
invariant-loop-younger l = l.spans ≡ spans_below l.s l.younger
