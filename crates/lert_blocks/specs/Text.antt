-- The text of a frame: blocks of 64 quotients, each with the runs of its quotients in slots. It is a function of the
-- bits of a remainder and of pieces in ascending tails.
use Rattle.std.specs.Prelude.{ℕ, ◌+◌, ◌-◌, ◌*◌, ◌/◌, ◌%◌, ◌^◌, ◌==◌, Bool, true, false, not, if◌then◌else◌, List, [], ◌∷◌, ◌++◌, length, take, drop, map, filter, flat_map, replicate}
use Rattle.std.specs.List.{list_any, range_with_len}
use Rattle.byteorder.specs.Endian.{little_bytes}
use Rattle.lert_counter.specs.Group.{group}
use Rattle.lert_spec.specs.declared.piece.Piece.{Piece}

-- ---- pieces as slots

-- a tail is a quotient and, below it, a remainder of `width` bits
abbrev pub quotient_of : ℕ → Piece → ℕ
quotient_of width piece = piece.tail / 2 ^ width

-- the slots of a piece: the group of its remainder and count
abbrev pub group_of : ℕ → Piece → List ℕ
group_of width piece = group width (piece.tail % 2 ^ width) piece.count

-- the slots of pieces, one group behind the other
abbrev pub slots_of : ℕ → List Piece → List ℕ
slots_of width pieces = flat_map (group_of width) pieces

-- whether a piece is the last one of its run: none comes behind it, or one of another quotient
abbrev pub is_last : ℕ → Piece → List Piece → Bool
is_last width piece [] = true
is_last width piece (next ∷ rest) = not (quotient_of width next == quotient_of width piece)

-- which slots end a run: the last one of the last piece of each quotient
abbrev pub ends_of : ℕ → List Piece → List Bool
ends_of width [] = []
ends_of width (p ∷ ps) = replicate (length (group_of width p) - 1) false ++ is_last width p ps ∷ ends_of width ps

-- which of the 64 quotients of a block have a run
abbrev pub occupied_of : ℕ → ℕ → List Piece → List Bool
occupied_of width block pieces = map (λ k. list_any (λ p. quotient_of width p == 64 * block + k) pieces) (range_with_len 0 64)

-- ---- bits in words of 64

-- the number whose bits are these, the lowest first
abbrev pub number_of_bits : List Bool → ℕ
number_of_bits [] = 0
number_of_bits (bit ∷ bits) = (if bit then 1 else 0) + 2 * number_of_bits bits

-- how many words so many bits take
abbrev pub word_count : ℕ → ℕ
word_count n = (n + 63) / 64

-- the words of bits; those behind the last bit are 0
abbrev pub words_of : List Bool → List ℕ
words_of bits = map (λ r. number_of_bits (take 64 (drop (64 * r) bits))) (range_with_len 0 (word_count (length bits)))

-- ---- bytes

-- numbers in eight bytes each
abbrev pub numbers_text : List ℕ → List ℕ
numbers_text numbers = flat_map (little_bytes 8) numbers

-- what stands before the slots of a block: which quotients have a run, how many slots follow, and which end a run
abbrev pub head_text : ℕ → ℕ → List Piece → List ℕ
head_text width block pieces =
    little_bytes 8 (number_of_bits (occupied_of width block pieces))
    ++ (little_bytes 4 (length (slots_of width pieces)) ++ numbers_text (words_of (ends_of width pieces)))

-- a block of these pieces, all of its quotients
abbrev pub block_text : ℕ → ℕ → List Piece → List ℕ
block_text width block pieces = head_text width block pieces ++ numbers_text (slots_of width pieces)

-- the pieces of a block's quotients
abbrev pub pieces_in : ℕ → ℕ → List Piece → List Piece
pieces_in width block pieces = filter (λ p. quotient_of width p / 64 == block) pieces

-- so many blocks from `first` on
abbrev pub blocks_text : ℕ → ℕ → ℕ → List Piece → List ℕ
blocks_text width first count pieces = flat_map (λ block. block_text width block (pieces_in width block pieces)) (range_with_len first count)
