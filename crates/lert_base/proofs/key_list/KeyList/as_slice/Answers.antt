use Rattle.std.proofs.Common.{sym, ◌∙◌, ap}
use Rattle.lert_base.specs.{Keys.Keys}
use Rattle.lert_spec.specs.Items.{keys_in}
use Rattle.lert_base.proofs.ItemsOf.{keys_in-items_of}
use Rattle.lert_base.proofs.key_list.KeyList.as_slice.Goals as goal

pub returns : goal.returns
returns c =
    c.as_slice.ensures.value ∙ sym (keys_in-items_of c.self.inside.keys.items c.self.inside.weights.items c.self.invariant.same)
    ∙ ap (λ (l : Keys). keys_in l.items) c.self.view_is
