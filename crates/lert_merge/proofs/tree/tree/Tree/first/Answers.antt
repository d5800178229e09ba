use Rattle.lert_merge.proofs.tree.TreeLemmas.{first_is_least}
use Rattle.lert_merge.proofs.tree.tree.Tree.first.Goals as goal

pub returns-clause-least : goal.returns-clause-least
returns-clause-least c = first_is_least _ _ _ _ _ _ _ _ c.self.invariant c.self.view_is c.requires.some
