use Rattle.std.proofs.Common.{refl}
use Rattle.lert_merge.proofs.tree.BeginLemmas.{play_goes_on}
use Rattle.lert_merge.proofs.tree.matches.find_winners.Goals as goal

pub loop-node-preserved : goal.loop-node-preserved
loop-node-preserved c = play_goes_on _ _ _ c.loop-node.node _ _ _ _ c.loop-node.invariant c.loop-node-test.true refl c.winner_at-one.ensures c.winner_at-other.ensures c.better.ensures
