use Rattle.std.proofs.Common.{arith}
use Rattle.lert_spec.proofs.EdgeLaws.{span_pos}
use Rattle.lert_reference.proofs.edges.edge.Goals as goal

pub nonzero_div-result : goal.nonzero_div-result
nonzero_div-result c =
    omega (arith, span_pos c.args.s.now c.args.level (omega (arith, c.requires.valid.limits.base_from)) (omega (arith, c.requires.valid.limits.ratio_from)), c.span-span.ensures)
