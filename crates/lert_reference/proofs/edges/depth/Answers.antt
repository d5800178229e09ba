use Rattle.std.proofs.Common.{◌≢◌, ◌-◌, arith, sym, ◌∙◌}
use Rattle.lert_spec.specs.Edges.{edge}
use Rattle.lert_spec.proofs.EdgeLaws.{deepest_moves, deepest_stays}
use Rattle.lert_reference.proofs.edges.depth.Goals as goal

pub returns-then-edge-clause-value : goal.returns-then-edge-clause-value
returns-then-edge-clause-value c =
    let level = c.loop-level.level in
    let moves : edge c.args.s.now (level - 1) c.args.m ≢ edge c.args.s.now (level - 1) (c.args.m - 1) =
    λ same. c.if-edge.true (c.edge.ensures ∙ same ∙ sym c.edge-in-loop-level.ensures) in
    sym (c.loop-level.invariant.1 ∙ deepest_moves c.args.s.now level c.args.m (omega arith) moves)

pub loop-level-preserved : goal.loop-level-preserved
loop-level-preserved c =
    let level = c.loop-level.level in (
      omega arith,
      c.loop-level.invariant.1
          ∙ deepest_stays c.args.s.now level c.args.m (omega arith) (sym c.edge.ensures ∙ c.if-edge.false ∙ c.edge-in-loop-level.ensures),
    )
