use Rattle.std.proofs.Common.{ℕ, ◌≡◌, ◌<◌, zero, suc, List, [], ◌∷◌, length, get_or, refl, sym, ap, ◌∙◌, arith, rules}
use Rattle.lert_base.specs.Keys.{items_of}
use Rattle.lert_base.proofs.ItemsOf.{length-items_of}
use Rattle.lert_spec.specs.declared.item.Item.{Item}
use Rattle.lert_cone.proofs.items.Items.at.Goals as goal

-- an item is the key and the weight with its number
item_at : (keys weights : List ℕ) (n : ℕ) (d : Item) → length weights ≡ length keys → n < length keys →
    get_or (items_of keys weights) n d ≡ record { key = get_or keys n 0; weight = get_or weights n 0 }
item_at [] weights n d same below = absurd (omega (arith, below))
item_at (key ∷ keys) [] n d same below = absurd (omega (arith, same))
item_at (key ∷ keys) (weight ∷ weights) zero d same below = refl
item_at (key ∷ keys) (weight ∷ weights) (suc n) d same below = item_at keys weights n d (omega (arith, same)) (omega (arith, below))

module _ (keys weights : List ℕ) (same : length weights ≡ length keys) (items : List Item) (is : items_of keys weights ≡ items) (n : ℕ) (below : n < length items) where
  within : n < length keys
  within = omega (arith, below, ap (length {A = Item}) is, length-items_of keys weights same)

pub offset_bounds-keys-number : goal.offset_bounds-keys-number
offset_bounds-keys-number c =
    let below : c.args.number < length c.self.inside.keys.now =
    within c.self.inside.keys.now c.self.inside.weights.now c.self.invariant c.args.self.now c.self.view_is c.args.number c.requires in
    omega arith

pub bounds-keys-number : goal.bounds-keys-number
bounds-keys-number c = within c.self.inside.keys.now c.self.inside.weights.now c.self.invariant c.args.self.now c.self.view_is c.args.number c.requires

pub bounds-weights-number : goal.bounds-weights-number
bounds-weights-number c =
    omega (arith, c.self.invariant, within c.self.inside.keys.now c.self.inside.weights.now c.self.invariant c.args.self.now c.self.view_is c.args.number c.requires)

pub returns-clause-value : goal.returns-clause-value
returns-clause-value c = λ d.
    let below = within c.self.inside.keys.now c.self.inside.weights.now c.self.invariant c.args.self.now c.self.view_is c.args.number c.requires in
    sym (item_at c.self.inside.keys.now c.self.inside.weights.now c.args.number d c.self.invariant below) ∙ ap (λ (items : List Item). get_or items c.args.number d) c.self.view_is

pub returns-clause-fits : goal.returns-clause-fits
returns-clause-fits c = search rules
