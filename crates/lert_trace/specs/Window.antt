-- A source together with the bytes that were read from it and not taken yet.
use Rattle.std.specs.Prelude.{◌≡◌, ℕ, ◌≤◌, ◌==◌, ◌++◌, List, [], get_or, length, Option, Some, None, if◌then◌else◌}
use Rattle.byteorder.specs.Endian.{little_from}
use Rattle.lert_spec.specs.declared.item.Item.{Item}

pub record Buffered (S : Type 0) : Type 0 where
  pub source : S
  pub pending : List ℕ

-- the pending bytes of a block are those from `start` up to `end`
pub record IsBlock (block : List ℕ) (start end : ℕ) : Type 0 where
  pub sized : length block ≡ 4096
  pub ordered : start ≤ end
  pub within : end ≤ 4096

-- what is still to come, pending bytes first, is the same before and after reading; a source tells its bytes or not
pub record StillAhead (before after : Option (List ℕ)) (old new : List ℕ) : Type 0 where
  pub told : (bytes : List ℕ) → before ≡ Some bytes → (rest : List ℕ) × (after ≡ Some rest) × (new ++ rest ≡ old ++ bytes)
  pub untold : before ≡ None → after ≡ None

-- a source that tells its bytes has none left
abbrev pub IsAtEnd : Option (List ℕ) → Option (List ℕ) → Type 0
IsAtEnd before after = (bytes : List ℕ) → before ≡ Some bytes → after ≡ Some []

-- the item of a version whose bytes stand in front
abbrev pub item_in : ℕ → List ℕ → Item
item_in version bytes = record { key = little_from 0 8 bytes; weight = if version == 1 then 1 else get_or bytes 8 0 }
