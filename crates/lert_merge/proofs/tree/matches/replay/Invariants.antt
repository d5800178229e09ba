use Rattle.lert_merge.proofs.tree.ReplayLemmas.{IsAt}
use Rattle.lert_merge.proofs.tree.matches.replay.Given as goal

abbrev pub invariant-loop-place : goal.invariant-loop-place
invariant-loop-place l = IsAt l.fn.keys l.keys l.nodes l.fn.first l.fn.key l.place l.winner l.winner_key

abbrev pub decreases-loop-place : goal.decreases-loop-place
decreases-loop-place l = l.place
