-- What one call of a source that tells its bytes hands out.
use Rattle.std.specs.Prelude.{◌≡◌, ◌↔◌, ℕ, List, [], take, drop, Option, Some}

-- `count` bytes from the front of those left now stand at the front of `into`, and the others are left; a source
-- hands out none exactly where none is left
pub record HandsOut (count : ℕ) (into ahead : List ℕ) (after : Option (List ℕ)) : Type 0 where
  pub copied : take count into ≡ take count ahead
  pub rest : after ≡ Some (drop count ahead)
  pub at_end : (count ≡ 0) ↔ (ahead ≡ [])

-- what holds of the bytes that an object tells, where it tells them
abbrev pub IfTold : Option (List ℕ) → (List ℕ → Type 0) → Type 0
IfTold told P = (bytes : List ℕ) → told ≡ Some bytes → P bytes
