-- Where frames stand in the file of frames, from the settings and the version of the files alone. Level j has one place
-- more than bins, and the places of younger levels stand before those of older ones.
use Rattle.std.specs.Prelude.{ℕ, zero, suc, ◌+◌, ◌-◌, ◌*◌, ◌/◌, ◌^◌, ◌≤◌, ◌==◌, if◌then◌else◌}
use Rattle.lert_spec.specs.declared.numbers.Numbers.{Numbers}
use Rattle.lert_spec.specs.Edges.{span, quotient_bits, tail_bits}

-- the blocks of a frame of a level: each has 64 of the level's quotients
abbrev pub block_count : Numbers → ℕ → ℕ
block_count s level = 2 ^ quotient_bits s level / 64

-- the most slots that a frame has for each item of a bin
abbrev pub slots_each : ℕ → ℕ
slots_each version = if version == 1 then 2 else 4

-- and the most that one of a level has
abbrev pub most_slots : Numbers → ℕ → ℕ → ℕ
most_slots s version level = slots_each version * span s level

-- the bytes of a place of a level: those of the fields of its blocks, of its slots, and of the words of their run ends
abbrev pub frame_len : Numbers → ℕ → ℕ → ℕ
frame_len s version level = 20 * block_count s level + 8 * most_slots s version level + 8 * (most_slots s version level / 64)

-- the most bytes of so many blocks that have so many slots together: those of a block's fields and its last word of run
-- ends, of the slots, and of the other words
abbrev pub blocks_bytes : ℕ → ℕ → ℕ
blocks_bytes blocks slots = 20 * blocks + 8 * slots + 8 * (slots / 64)

-- those of one place of each level from 1 up to this one, together
abbrev pub frame_lens : Numbers → ℕ → ℕ → ℕ
frame_lens s version zero = 0
frame_lens s version (suc level) = frame_lens s version level + frame_len s version (suc level)

-- the first byte of a frame of a level
abbrev pub frame_place : Numbers → ℕ → ℕ → ℕ → ℕ
frame_place s version level frame = (s.bins + 1) * frame_lens s version (level - 1) + frame * frame_len s version level

-- the tails of a cone's keys are below this number
abbrev pub tail_limit : Numbers → ℕ
tail_limit s = 2 ^ tail_bits s
