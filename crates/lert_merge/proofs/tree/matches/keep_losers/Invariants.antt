use Rattle.lert_merge.proofs.tree.BeginLemmas.{IsLosing}
use Rattle.lert_merge.proofs.tree.matches.keep_losers.Given as goal

abbrev pub invariant-loop-node : goal.invariant-loop-node
invariant-loop-node l = IsLosing l.fn.nodes l.nodes l.node
