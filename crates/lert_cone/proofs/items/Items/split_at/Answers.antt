use Rattle.std.proofs.Common.{◌≡◌, ℕ, zero, suc, List, [], ◌∷◌, take, drop, length, refl, ap, ap₂, ◌∙◌, arith}
use Rattle.lert_base.specs.Keys.{items_of}
use Rattle.lert_base.proofs.ItemsOf.{length-items_of}
use Rattle.lert_spec.specs.declared.item.Item.{Item}
use Rattle.lert_cone.proofs.items.Items.split_at.Goals as goal

items_of-take : (count : ℕ) (keys weights : List ℕ) → items_of (take count keys) (take count weights) ≡ take count (items_of keys weights)
items_of-take zero keys weights = refl
items_of-take (suc count) [] weights = refl
items_of-take (suc count) (key ∷ keys) [] = refl
items_of-take (suc count) (key ∷ keys) (weight ∷ weights) = ap (λ (items : List Item). record { key = key; weight = weight } ∷ items) (items_of-take count keys weights)

items_of-none : (keys : List ℕ) → items_of keys [] ≡ []
items_of-none [] = refl
items_of-none (key ∷ keys) = refl

items_of-drop : (count : ℕ) (keys weights : List ℕ) → items_of (drop count keys) (drop count weights) ≡ drop count (items_of keys weights)
items_of-drop zero keys weights = refl
items_of-drop (suc count) [] weights = refl
items_of-drop (suc count) (key ∷ keys) [] = items_of-none (drop count keys)
items_of-drop (suc count) (key ∷ keys) (weight ∷ weights) = items_of-drop count keys weights

pub split_at-requires : goal.split_at-requires
split_at-requires c = omega (arith, c.requires, ap (length {A = Item}) c.self.view_is, length-items_of c.self.inside.keys.now c.self.inside.weights.now c.self.invariant)

pub returns-clause-front : goal.returns-clause-front
returns-clause-front c =
    ap₂ items_of c.split_at.ensures.front c.split_at-2.ensures.front ∙ items_of-take c.args.count c.self.inside.keys.now c.self.inside.weights.now
    ∙ ap (take c.args.count) c.self.view_is

pub returns-clause-back : goal.returns-clause-back
returns-clause-back c =
    ap₂ items_of c.split_at.ensures.back c.split_at-2.ensures.back ∙ items_of-drop c.args.count c.self.inside.keys.now c.self.inside.weights.now
    ∙ ap (drop c.args.count) c.self.view_is
