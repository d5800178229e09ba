-- Items, their keys, and what they may weigh in the files of a version.
use Rattle.std.specs.Prelude.{ℕ, ◌≤◌, ◌==◌, All, List, map, if◌then◌else◌}
use Rattle.lert_spec.specs.declared.item.Item.{Item}

-- the keys of items, in their order
abbrev pub keys_in : List Item → List ℕ
keys_in items = map (λ item. item.key) items

-- a key as an item that weighs 1
abbrev pub unit : ℕ → Item
unit key = record { key = key; weight = 1 }

abbrev pub units : List ℕ → List Item
units keys = map unit keys

-- the versions that files have: with the first each item weighs 1, and with the second from 1 to 255
abbrev pub IsVersion : ℕ → Type 0
IsVersion version = (1 ≤ version) × (version ≤ 2)

-- what an item weighs at most in files of a version
abbrev pub most_weight : ℕ → ℕ
most_weight version = if version == 1 then 1 else 255

-- each weighs something, and no more than files of this version hold
abbrev pub AreOfVersion : ℕ → List Item → Type 0
AreOfVersion version items = All (λ item. (1 ≤ item.weight) × (item.weight ≤ most_weight version)) items
