use Rattle.std.proofs.Common.{rules}
use Rattle.lert_merge.proofs.tree.TreeLemmas.{take_back, replaced_kept, replaced_keys}
use Rattle.lert_merge.proofs.tree.tree.Tree.replace.Goals as goal

pub invariant_of-self : goal.invariant_of-self
invariant_of-self c = replaced_kept _ _ _ _ _ _ _ _ _ _ _ _ _ _ _ c.self.invariant c.self.view_is c.requires.some c.deref_mut.ensures.value
    (take_back _ _ _ (search rules)) (take_back _ _ _ (search rules))
    c.replay-self-inside.ensures.keys c.replay-self-inside.ensures.nodes c.replay-self-inside.ensures.below c.replay-self-inside.ensures.played
    c.replay-self-inside.ensures.within c.replay-self-inside.ensures.changed

pub returns-clause-keys : goal.returns-clause-keys
returns-clause-keys c = replaced_keys _ _ _ _ _ _ _ _ _ _ _ _ c.self.invariant c.self.view_is c.requires.some c.deref_mut.ensures.value
    (take_back _ _ _ (search rules)) c.replay-self-inside.ensures.keys
