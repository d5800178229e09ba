use Rattle.std.proofs.Common.{◌≡◌, ◌∙◌, ℕ, ◌^◌, ◌<◌, List, All, length, get_or, sym, ap, ap₂, subst, arith, rules}
use Rattle.std.proofs.lemmas.{Grind.get_or_default_zero, List.length-map}
use Rattle.lert_base.specs.Keys.{items_of}
use Rattle.lert_base.proofs.ItemsOf.{items_of-parts, keys_in-items_of}
use Rattle.lert_spec.specs.declared.item.Item.{Item}
use Rattle.lert_cone.proofs.items.Items.of.Goals as goal

pub returns-clause-value : goal.returns-clause-value
returns-clause-value c = ap₂ items_of c.as_slice-keys.ensures c.weights-weights.ensures.value ∙ items_of-parts c.args.entry.now.keys.items

pub returns-clause-fit : goal.returns-clause-fit
returns-clause-fit c =
    let items : List Item = c.args.entry.now.keys.items in
    let keys : List ℕ = c.as_slice-keys.result.now in
    let weights : List ℕ = c.weights-weights.result.now in
    let same : length weights ≡ length keys =
    ap length c.weights-weights.ensures.value ∙ length-map items (λ item. item.weight) ∙ sym (ap length c.as_slice-keys.ensures ∙ length-map items (λ item. item.key)) in
    subst (All (λ key. key < 2 ^ 64)) (sym (keys_in-items_of keys weights same))
    (λ k d below.
    let fits : get_or c.as_slice-keys.result.now k 0 < 2 ^ 64 = search rules in
    omega (arith, fits, get_or_default_zero c.as_slice-keys.result.now k d below))
