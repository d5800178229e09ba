-- Items that weigh 1 are their keys.
use Rattle.std.proofs.{Common.{◌≡◌, ℕ, suc, ◌≤◌, List, [], ◌∷◌, length, refl, ap, ap₂, arith}, lemmas.List.Elements.{All-nil, All-cons, All-head, All-tail}}
use Rattle.lert_spec.specs.{declared.item.Item.Item, Items.{keys_in, unit, units, most_weight, AreOfVersion}}

pub length-keys_in : (items : List Item) → length (keys_in items) ≡ length items
length-keys_in [] = refl
length-keys_in (item ∷ items) = ap suc (length-keys_in items)

pub length-units : (keys : List ℕ) → length (units keys) ≡ length keys
length-units [] = refl
length-units (key ∷ keys) = ap suc (length-units keys)

pub keys_in-units : (keys : List ℕ) → keys_in (units keys) ≡ keys
keys_in-units [] = refl
keys_in-units (key ∷ keys) = ap (λ rest. key ∷ rest) (keys_in-units keys)

-- with the first version an item is its key
pub units_are : (items : List Item) → AreOfVersion 1 items → items ≡ units (keys_in items)
units_are [] _ = refl
units_are (item ∷ items) are =
    let first : (1 ≤ item.weight) × (item.weight ≤ 1) = All-head (λ i. (1 ≤ i.weight) × (i.weight ≤ 1)) item items are in
    let one : item.weight ≡ 1 = omega (arith, first.0, first.1) in
    ap₂ (λ w rest. record { key = item.key; weight = w } ∷ rest) one (units_are items (All-tail (λ i. (1 ≤ i.weight) × (i.weight ≤ 1)) item items are))

-- and each version takes it
pub units_of_version : (version : ℕ) (keys : List ℕ) → AreOfVersion version (units keys)
units_of_version version [] = All-nil (λ i. (1 ≤ i.weight) × (i.weight ≤ most_weight version))
units_of_version version (key ∷ keys) =
    All-cons (λ i. (1 ≤ i.weight) × (i.weight ≤ most_weight version)) (unit key) (units keys) (omega arith, one_at_most version) (units_of_version version keys)
  where
    one_at_most : (n : ℕ) → 1 ≤ most_weight n
    one_at_most n = grind arith
