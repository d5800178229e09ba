-- What becomes of the bytes of a place.
use Rattle.std.specs.Prelude.{ℕ, ◌+◌, ◌%◌, List, length, min, slice_index_or}
use Rattle.lert_levels.specs.declared.bound.pair.Pair.{Pair}

-- no event in either generation
abbrev pub nothing : Pair
nothing = record { before = 0; present = 0 }

-- a weight more in the present generation; a byte doesn't pass 255
abbrev pub risen : ℕ → Pair → Pair
risen weight pair = record { before = pair.before; present = min (pair.present + weight) 255 }

-- the present generation is the one before, and a new one has begun
abbrev pub turned : Pair → Pair
turned pair = record { before = pair.present; present = 0 }

-- the pair of a tail, whose place is its remainder
abbrev pub pair_of : List Pair → ℕ → Pair
pair_of pairs tail = slice_index_or pairs (tail % length pairs) nothing
