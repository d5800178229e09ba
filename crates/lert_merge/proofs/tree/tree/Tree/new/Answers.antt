use Rattle.std.proofs.Common.{rules}
use Rattle.lert_merge.proofs.tree.TreeLemmas.{new_kept}
use Rattle.lert_merge.proofs.tree.tree.Tree.new.Goals as goal

pub invariant_of-result : goal.invariant_of-result
invariant_of-result c = new_kept _ _ _ _ _ c.in_ok-with_capacity.ensures.items c.in_ok-with_capacity-2.ensures.items (search rules) (search rules)
