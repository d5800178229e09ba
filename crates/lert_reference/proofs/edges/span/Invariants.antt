use Rattle.std.proofs.Common.{◌≡◌}
use Rattle.lert_spec.specs.Edges.{span}
use Rattle.lert_reference.proofs.edges.span.Given as goal

abbrev pub invariant-loop-younger : goal.invariant-loop-younger
invariant-loop-younger l = l.span ≡ span l.s l._younger
