-- The items of keys and of their weights, which stand side by side.
use Rattle.std.proofs.Common.{◌≡◌, ℕ, suc, List, [], ◌∷◌, ◌++◌, length, refl, ap, arith}
use Rattle.lert_base.specs.Keys.{items_of, weights_in}
use Rattle.lert_spec.specs.{declared.item.Item.Item, Items.keys_in}

pub length-items_of : (keys weights : List ℕ) → length weights ≡ length keys → length (items_of keys weights) ≡ length keys
length-items_of [] weights same = refl
length-items_of (key ∷ keys) [] same = absurd (omega (arith, same))
length-items_of (key ∷ keys) (weight ∷ weights) same = ap suc (length-items_of keys weights (omega (arith, same)))

pub keys_in-items_of : (keys weights : List ℕ) → length weights ≡ length keys → keys_in (items_of keys weights) ≡ keys
keys_in-items_of [] weights same = refl
keys_in-items_of (key ∷ keys) [] same = absurd (omega (arith, same))
keys_in-items_of (key ∷ keys) (weight ∷ weights) same = ap (λ rest. key ∷ rest) (keys_in-items_of keys weights (omega (arith, same)))

pub weights_in-items_of : (keys weights : List ℕ) → length weights ≡ length keys → weights_in (items_of keys weights) ≡ weights
weights_in-items_of [] [] same = refl
weights_in-items_of [] (weight ∷ weights) same = absurd (omega (arith, same))
weights_in-items_of (key ∷ keys) [] same = absurd (omega (arith, same))
weights_in-items_of (key ∷ keys) (weight ∷ weights) same = ap (λ rest. weight ∷ rest) (weights_in-items_of keys weights (omega (arith, same)))

pub items_of-push : (keys weights : List ℕ) (key weight : ℕ) → length weights ≡ length keys →
    items_of (keys ++ key ∷ []) (weights ++ weight ∷ []) ≡ items_of keys weights ++ record { key = key; weight = weight } ∷ []
items_of-push [] [] key weight same = refl
items_of-push [] (other ∷ weights) key weight same = absurd (omega (arith, same))
items_of-push (other ∷ keys) [] key weight same = absurd (omega (arith, same))
items_of-push (other ∷ keys) (more ∷ weights) key weight same =
    ap (λ rest. record { key = other; weight = more } ∷ rest) (items_of-push keys weights key weight (omega (arith, same)))

-- items are those of their keys and their weights
pub items_of-parts : (items : List Item) → items_of (keys_in items) (weights_in items) ≡ items
items_of-parts [] = refl
items_of-parts (item ∷ items) = ap (λ rest. item ∷ rest) (items_of-parts items)

pub length-weights_in : (items : List Item) → length (weights_in items) ≡ length (keys_in items)
length-weights_in [] = refl
length-weights_in (item ∷ items) = ap suc (length-weights_in items)
