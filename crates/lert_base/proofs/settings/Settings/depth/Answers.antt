use borrow.Author.Count.{below_more}
use Rattle.std.proofs.{Common.{◌≢◌, ◌-◌, arith, refl}, lemmas.Bool.false≢true}
use Rattle.lert_spec.specs.Edges.{edge}
use Rattle.lert_base.proofs.Levels.{valid_as_seen, depth_reached}
use Rattle.lert_base.proofs.settings.Settings.depth.Goals as goal

pub returns-else-edge_moves-clause-value : goal.returns-else-edge_moves-clause-value
returns-else-edge_moves-clause-value c =
    depth_reached c.args.self.now (valid_as_seen _ _ c.self.invariant.valid c.self.view_is) c.loop-level.level c.args.m
    (omega (arith, c.loop-level.invariant.0, c.loop-level.invariant.1)) c.loop-level.invariant.2
    (λ less moves. false≢true (c.if-edge_moves.ensures.1 moves))

pub returns-after-loop-level-clause-value : goal.returns-after-loop-level-clause-value
returns-after-loop-level-clause-value c =
    depth_reached c.args.self.now (valid_as_seen _ _ c.self.invariant.valid c.self.view_is) c.loop-level.level c.args.m
    (omega (arith, c.loop-level.invariant.0, c.loop-level.invariant.1)) c.loop-level.invariant.2
    (λ less moves. omega (arith, c.loop-level.invariant.0, c.loop-level-test.false))

pub loop-level-preserved : goal.loop-level-preserved
loop-level-preserved c =
    let s = c.args.self.now in (
      c.loop-level.invariant.0,
      omega (arith, c.loop-level-test.true),
      below_more (λ k. edge s k c.args.m ≢ edge s k (c.args.m - 1)) c.loop-level.level c.loop-level.invariant.2 (c.if-edge_moves.ensures.0 refl),
    )

pub edge_moves-requires-clause-level : goal.edge_moves-requires-clause-level
edge_moves-requires-clause-level c = omega (arith, c.loop-level.invariant.0, c.loop-level-test.true)

pub returns-else-edge_moves-clause-within : goal.returns-else-edge_moves-clause-within
returns-else-edge_moves-clause-within c = omega (arith, c.loop-level.invariant.0, c.loop-level.invariant.1)

pub returns-after-loop-level-clause-within : goal.returns-after-loop-level-clause-within
returns-after-loop-level-clause-within c = omega (arith, c.loop-level.invariant.0, c.loop-level.invariant.1)
