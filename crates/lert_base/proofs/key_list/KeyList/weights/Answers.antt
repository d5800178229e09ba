use Rattle.std.proofs.Common.{sym, ◌∙◌, ap}
use Rattle.lert_base.specs.{Keys.Keys, Keys.weights_in}
use Rattle.lert_base.proofs.ItemsOf.{weights_in-items_of}
use Rattle.lert_base.proofs.key_list.KeyList.weights.Goals as goal

pub returns-clause-value : goal.returns-clause-value
returns-clause-value c =
    c.as_slice.ensures.value ∙ sym (weights_in-items_of c.self.inside.keys.items c.self.inside.weights.items c.self.invariant.same)
    ∙ ap (λ (l : Keys). weights_in l.items) c.self.view_is
