-- What bytes say as a frame: the pieces of its blocks, and the first place at which they leave its text.
use Rattle.std.specs.Prelude.{ℕ, zero, suc, ◌+◌, ◌-◌, ◌*◌, ◌/◌, ◌==◌, ◌||◌, ◌&&◌, Bool, true, not}
use Rattle.std.specs.Prelude.{nat_lt, if◌then◌else◌, List, [], length, take, drop, map, min, slice_index_or, Option, Some, None, option_map}
use Rattle.std.specs.List.{range_with_len}
use Rattle.byteorder.specs.Endian.{little_number}
use Rattle.lert_slotbits.specs.Bits.{word_bits, row_of, trues}
use Rattle.lert_blocks.specs.Text.{word_count}
use Rattle.lert_blocks.specs.Walk.{Found, nothing, behind, walk, places}

-- numbers in eight bytes each
abbrev pub numbers_in : ℕ → List ℕ → List ℕ
numbers_in count bytes = map (λ i. little_number 8 (drop (8 * i) bytes)) (range_with_len 0 count)

-- ---- the fields of the block at the front of bytes

abbrev pub occupied_in : List ℕ → ℕ
occupied_in bytes = little_number 8 bytes

abbrev pub count_in : List ℕ → ℕ
count_in bytes = little_number 4 (drop 8 bytes)

abbrev pub words_in : List ℕ → List ℕ
words_in bytes = numbers_in (word_count (count_in bytes)) (drop 12 bytes)

-- how many bytes stand before its slots, and how many it has
abbrev pub head_len : List ℕ → ℕ
head_len bytes = 12 + 8 * word_count (count_in bytes)

abbrev pub block_len : List ℕ → ℕ
block_len bytes = head_len bytes + 8 * count_in bytes

-- its slots, as far as they are there, and which of all end a run
abbrev pub slots_in : List ℕ → List ℕ
slots_in bytes = numbers_in (min (count_in bytes) (length (drop (head_len bytes) bytes) / 8)) (drop (head_len bytes) bytes)

abbrev pub ends_in : List ℕ → List Bool
ends_in bytes = take (count_in bytes) (row_of (words_in bytes))

-- ---- the place at which the block leaves its text

-- the run ends are as many as the quotients that have a run, none of them is behind the last slot, and that one is one
abbrev pub ends_agree : ℕ → ℕ → List ℕ → Bool
ends_agree occupied count words =
    (trues (row_of words) == trues (word_bits occupied))
    && ((trues (drop count (row_of words)) == 0) && slice_index_or (row_of words) (count - 1) true)

-- where the fields before the slots do, of a block that stands at `at` and may have so many slots, in a file of `end`
-- bytes: at the number of slots, where it is too great, or 0 while a quotient has a run; at the last word of run ends,
-- where these don't agree with the quotients; at the end, where that comes before
abbrev pub head_left : ℕ → ℕ → ℕ → List ℕ → Option ℕ
head_left most at end bytes =
    if nat_lt (length bytes) 12 then Some end
    else (if nat_lt most (count_in bytes) || (count_in bytes == 0) && not (occupied_in bytes == 0) then Some (at + 8)
    else (if nat_lt (length bytes) (head_len bytes) then Some end
    else (if ends_agree (occupied_in bytes) (count_in bytes) (words_in bytes) then None else Some (at + head_len bytes - 8))))

-- a slot's place, of slots that stand at `at`: the end of the file, where it isn't there
abbrev pub slot_place : ℕ → ℕ → List ℕ → ℕ → ℕ
slot_place at end slots k = if nat_lt k (length slots) then at + 8 * k else end

-- what is found, with the place of the slot that breaks a rule
abbrev pub placed : ℕ → ℕ → List ℕ → Found → Found
placed at end slots found = record { pieces = found.pieces; left = option_map (slot_place at end slots) found.left }

-- what the slots of a block hold
abbrev pub slots_found : ℕ → ℕ → ℕ → ℕ → List ℕ → Found
slots_found width block at end bytes =
    placed (at + head_len bytes) end (slots_in bytes)
    (walk (count_in bytes) width (places (64 * block) (word_bits (occupied_in bytes))) 0 (ends_in bytes) (slots_in bytes))

-- the block at the front of bytes, which stand at `at`
abbrev pub block_found : ℕ → ℕ → ℕ → ℕ → ℕ → List ℕ → Found
block_found width block most at end bytes =
    behind (record { pieces = []; left = head_left most at end bytes }) (slots_found width block at end bytes)

-- ---- and that of a whole frame

-- So many blocks, from one with this number on, which may have so many slots together
abbrev pub blocks_found : ℕ → ℕ → ℕ → ℕ → ℕ → ℕ → List ℕ → Found
blocks_found zero width block most at end bytes = nothing
blocks_found (suc more) width block most at end bytes =
    behind (block_found width block most at end bytes)
    (blocks_found more width (suc block) (most - count_in bytes) (at + block_len bytes) end (drop (block_len bytes) bytes))

-- how many bytes so many blocks at the front of bytes have
abbrev pub blocks_len : ℕ → List ℕ → ℕ
blocks_len zero bytes = 0
blocks_len (suc more) bytes = block_len bytes + blocks_len more (drop (block_len bytes) bytes)
