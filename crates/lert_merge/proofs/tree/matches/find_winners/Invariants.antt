use Rattle.lert_merge.proofs.tree.BeginLemmas.{IsPlaying}
use Rattle.lert_merge.proofs.tree.matches.find_winners.Given as goal

abbrev pub invariant-loop-node : goal.invariant-loop-node
invariant-loop-node l = IsPlaying l.keys l.nodes l.streams l.node

abbrev pub decreases-loop-node : goal.decreases-loop-node
decreases-loop-node l = l.node
