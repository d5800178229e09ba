-- A row of bits in words of 64, the lowest bit first.
use Rattle.std.specs.Prelude.{ℕ, zero, suc, ◌/◌, ◌%◌, ◌≡◌, ◌<◌, ◌≤◌, ◌==◌, Bool, false, List, [], ◌∷◌, ◌++◌, length, slice_index_or, insert, remove, count_by}

-- the lowest bits of a number, as many as are asked for
abbrev pub bits_in : ℕ → ℕ → List Bool
bits_in zero n = []
bits_in (suc d) n = (n % 2 == 1) ∷ bits_in d (n / 2)

-- the bits of one word
unfoldable pub word_bits : ℕ → List Bool
word_bits n = bits_in 64 n

-- the bits of words, one behind the other
abbrev pub row_of : List ℕ → List Bool
row_of [] = []
row_of (w ∷ ws) = word_bits w ++ row_of ws

-- how many bits are set
abbrev pub trues : List Bool → ℕ
trues bits = count_by (λ b. b) bits

-- the bits from..to move one place up, and bit `from` becomes false
abbrev pub gapped : List Bool → ℕ → ℕ → List Bool
gapped bits from to = insert (remove bits to) from false

-- the first place at or behind `from` whose bit is b
pub record IsFirst (b : Bool) (bits : List Bool) (from place : ℕ) : Type 0 where
  pub behind : from ≤ place
  pub within : place < length bits
  pub found : slice_index_or bits place false ≡ b
  pub others : (k : ℕ) → from ≤ k → k < place → slice_index_or bits k false ≡ b → ⊥
