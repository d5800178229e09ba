-- The definitions on small files.
use Rattle.std.proofs.Common.{◌≡◌, ◌+◌, List, [], ◌∷◌, Some, None, refl, arith}
use Rattle.lert_blocks.{specs.Frame.blocks_found, specs.Walk.{broken, nothing}}
use Rattle.lert_slotbits.specs.Bits.{word_bits}
use Rattle.lert_frames.{specs.Apart.SamePlace, specs.Frame.if_summed, specs.Place.{blocks_bytes, frame_len, frame_place}, specs.Spilt.block_bytes}
use Rattle.lert_spec.{specs.declared.numbers.Numbers.Numbers, specs.declared.piece.Piece.Piece, specs.Table.{cost}}

-- the bytes 2 to 4 are the same, of a file that ended behind the first two of them
kept : SamePlace 2 3 (1 ∷ 2 ∷ 3 ∷ 4 ∷ []) (9 ∷ 9 ∷ 3 ∷ 4 ∷ 0 ∷ 7 ∷ [])
kept = record { longer = omega arith; same = refl }

-- a file that ends in a block leaves its text there, and a longer one doesn't: so a reader has to be sure before others
-- may write
cut : blocks_found 1 58 0 16 0 4 (0 ∷ 0 ∷ 0 ∷ 0 ∷ []) ≡ broken 4
cut = refl

longer : blocks_found 1 58 0 16 0 12 (0 ∷ 0 ∷ 0 ∷ 0 ∷ 0 ∷ 0 ∷ 0 ∷ 0 ∷ 0 ∷ 0 ∷ 0 ∷ 0 ∷ []) ≡ nothing
unfolding word_bits
longer = refl

-- a block of 65 slots has two words of run ends, and takes all that one block may; of 64 slots it has one
fills : blocks_bytes 1 65 ≡ block_bytes 65
fills = refl

fits : blocks_bytes 1 64 ≡ block_bytes 64 + 8
fits = refl

-- ---- the two versions

abbrev small : Numbers
small = record { threshold = 3; bins = 3; ratio = 2; base = 4; levels = 2; cone_bits = 0; room = 32; packet = 8 }

-- the lengths of places, and the first of the second level, which stands behind four of the first one
first_version : (frame_len small 1 1 ≡ 148) × (frame_len small 1 2 ≡ 276) × (frame_place small 1 2 0 ≡ 592)
first_version = (refl, refl, refl)

second_version : (frame_len small 2 1 ≡ 276) × (frame_len small 2 2 ≡ 540) × (frame_place small 2 2 0 ≡ 1104)
second_version = (refl, refl, refl)

-- so many items of at most 255 make a count, and with the first version as many as the count says
items : (cost 2 1 ≡ 1) × (cost 2 255 ≡ 1) × (cost 2 256 ≡ 2) × (cost 2 65026 ≡ 256) × (cost 1 65026 ≡ 65026)
items = (refl, refl, refl, refl, refl)

-- these counts cost 3 with the second version, and reach 4: three or four items make them with it, four alone with the
-- first one, and neither two nor five do
abbrev made : List Piece
made = record { tail = 1; count = 2 } ∷ record { tail = 5; count = 1 } ∷ record { tail = 9; count = 1 } ∷ []

of_four : (if_summed 1 4 4 100 made None ≡ None) × (if_summed 2 4 4 100 made None ≡ None)
of_four = (refl, refl)

of_three : (if_summed 1 3 3 100 made None ≡ Some 100) × (if_summed 2 3 3 100 made None ≡ None)
of_three = (refl, refl)

of_two_or_five : (if_summed 2 2 2 100 made None ≡ Some 100) × (if_summed 2 5 5 100 made None ≡ Some 100)
of_two_or_five = (refl, refl)
