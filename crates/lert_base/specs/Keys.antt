-- What a key list is seen as.
use Rattle.std.specs.Prelude.{◌≡◌, ◌≤◌, ℕ, All, List, [], ◌∷◌, length, map}
use Rattle.lert_spec.specs.declared.item.Item.{Item}

-- the items, and for how many there is room
pub record Keys : Type 0 where
  pub items : List Item
  pub room : ℕ

-- the items of keys and of their weights
abbrev pub items_of : List ℕ → List ℕ → List Item
items_of [] weights = []
items_of (key ∷ keys) [] = []
items_of (key ∷ keys) (weight ∷ weights) = record { key = key; weight = weight } ∷ items_of keys weights

-- the weights of items, in their order
abbrev pub weights_in : List Item → List ℕ
weights_in items = map (λ item. item.weight) items

-- two arrays hold as many keys as weights, each at least 1, and have the same room
pub record AreSideBySide (keys weights : List ℕ) (room other : ℕ) : Type 0 where
  pub same : length weights ≡ length keys
  pub some : All (λ weight. 1 ≤ weight) weights
  pub within : length keys ≤ room
  pub rooms : other ≡ room
