-- Worked examples of the definitions, computed: bins of 4 events at level 0, three bins a level, a ratio of 2, two levels on
-- disk, and thirty-two keys, each of weight 1.
use Rattle.std.proofs.Common.{◌≡◌, ℕ, List, [], ◌∷◌, ◌++◌, refl, map, replicate, Some}
use Rattle.std.specs.List.{range_with_len}
use Rattle.lert_slotbits.specs.Bits.{word_bits}
use Rattle.lert_spec.specs.{declared.numbers.Numbers.Numbers, declared.item.Item.Item, declared.piece.Piece.Piece, Bins.bins_of, Counts.weighed, Items.unit}
use Rattle.lert_levels.specs.{declared.rows.bin_at.BinAt.BinAt, rows.Ranges.{ranges, filled, young_bins}, rows.Checked.{level_of, rows_left}, rows.Named.frames_text, rows.Rows.{moved, directory_text}}
use Rattle.lert_levels.specs.rows.Young.{times_in}

abbrev small : Numbers
small = record { threshold = 3; bins = 3; ratio = 2; base = 4; levels = 2; cone_bits = 8; room = 32; packet = 8 }

abbrev items : List Item
items = map unit (range_with_len 0 32)

-- the bins of each level, and those of level 0
first_level : bins_of weighed small items 1 ≡ map (filled small items) (record { from = 8; to = 16 } ∷ record { from = 16; to = 24 } ∷ [])
first_level = refl

second_level : bins_of weighed small items 2 ≡ map (filled small items) (record { from = 0; to = 8 } ∷ [])
second_level = refl

their_ranges : map (filled small items) (ranges small 32 1 ++ ranges small 32 2) ≡ bins_of weighed small items 1 ++ bins_of weighed small items 2
their_ranges = refl

youngest : young_bins small items 20 ≡ map (filled small items) (record { from = 20; to = 24 } ∷ record { from = 24; to = 28 } ∷ record { from = 28; to = 32 } ∷ [])
youngest = refl

-- the flushes one after another
abbrev at_12 : List (List BinAt)
at_12 = moved small 12 ([] ∷ [] ∷ [])

abbrev at_16 : List (List BinAt)
at_16 = moved small 16 at_12

abbrev at_20 : List (List BinAt)
at_20 = moved small 20 at_16

abbrev at_24 : List (List BinAt)
at_24 = moved small 24 at_20

abbrev at_28 : List (List BinAt)
at_28 = moved small 28 at_24

abbrev at_32 : List (List BinAt)
at_32 = moved small 32 at_28

first_flush : at_12 ≡ (record { from = 0; to = 4; frame = 0 } ∷ []) ∷ [] ∷ []
first_flush = refl

joins : at_16 ≡ (record { from = 0; to = 8; frame = 1 } ∷ []) ∷ [] ∷ []
joins = refl

begins_another : directory_text at_20 ≡ 2 ∷ 1 ∷ 0 ∷ 0 ∷ []
begins_another = refl

joins_again : directory_text at_24 ≡ 2 ∷ 1 ∷ 2 ∷ 0 ∷ []
joins_again = refl

begins_a_third : directory_text at_28 ≡ 3 ∷ 1 ∷ 2 ∷ 0 ∷ 0 ∷ []
begins_a_third = refl

goes_on : at_32 ≡ (record { from = 8; to = 16; frame = 2 } ∷ record { from = 16; to = 24; frame = 3 } ∷ []) ∷ (record { from = 0; to = 8; frame = 0 } ∷ []) ∷ []
goes_on = refl

names_them : directory_text at_32 ≡ 2 ∷ 2 ∷ 3 ∷ 1 ∷ 0 ∷ []
names_them = refl

-- the same directory by its frames alone
by_frames : directory_text at_32 ≡ frames_text ((2 ∷ 3 ∷ []) ∷ (0 ∷ []) ∷ [])
by_frames = refl

-- which level a bin is of, by its end
of_level_1 : level_of small 32 2 16 ∷ level_of small 32 2 24 ∷ [] ≡ 1 ∷ 1 ∷ []
of_level_1 = refl

of_level_2 : level_of small 32 2 8 ≡ 2
of_level_2 = refl

-- a file with no byte is left at its end, and one that ends in the first bin's frame too; zero bytes are a frame of no pieces,
-- whose sum isn't that of the bin
no_file : rows_left small 1 [] at_32 ≡ Some 0
no_file = refl

cut_file : rows_left small 1 (replicate 300 0) at_32 ≡ Some 300
cut_file = refl

no_pieces : rows_left small 1 (replicate 1000 0) at_32 ≡ Some 296
unfolding word_bits
no_pieces = refl

-- how often tail 5 stands in two tables
abbrev two_tables : List (List Piece)
two_tables = (record { tail = 5; count = 3 } ∷ record { tail = 9; count = 2 } ∷ []) ∷ (record { tail = 5; count = 1 } ∷ []) ∷ []

five_is : times_in (λ pieces. pieces) two_tables 5 ≡ 4
five_is = refl
