use Rattle.std.proofs.Common.{◌∙◌, length, ap, sym}
use Rattle.lert_base.proofs.ItemsOf.{length-items_of}
use Rattle.lert_spec.specs.declared.item.Item.{Item}
use Rattle.lert_cone.proofs.items.Items.len.Goals as goal

pub returns-clause-value : goal.returns-clause-value
returns-clause-value c = sym (length-items_of c.self.inside.keys.now c.self.inside.weights.now c.self.invariant) ∙ ap (length {A = Item}) c.self.view_is
