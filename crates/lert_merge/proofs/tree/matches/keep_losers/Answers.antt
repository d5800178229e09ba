use Rattle.std.proofs.Common.{refl}
use Rattle.lert_merge.proofs.tree.BeginLemmas.{one_has_won, losing_goes_on}
use Rattle.lert_merge.proofs.tree.matches.keep_losers.Goals as goal

pub loser_of-requires : goal.loser_of-requires
loser_of-requires c = one_has_won _ _ c.loop-node.node _ _ _ c.loop-node.invariant c.loop-node-test.true c.requires.won c.winner_at-one.ensures c.winner_at-other.ensures refl

pub loop-node-preserved : goal.loop-node-preserved
loop-node-preserved c = losing_goes_on _ _ c.loop-node.node c.winner_at-one.result c.winner_at-other.result _ _ c.loop-node.invariant c.loop-node-test.true
    c.winner_at-one.ensures c.winner_at-other.ensures refl c.loser_of.ensures
