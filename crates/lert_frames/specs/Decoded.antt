-- What is to come of a frame behind what a decoder decoded.
use Rattle.std.specs.Prelude.{◌≡◌, ℕ, ◌+◌, ◌*◌, ◌/◌, ◌<◌, ◌≤◌, ◌^◌, ◌==◌, if◌then◌else◌, Bool, false, List, ◌++◌, length, take, drop, min, replicate, None}
use Rattle.lert_slotbits.specs.Bits.{row_of}
use Rattle.lert_spec.specs.declared.piece.Piece.{Piece}
use Rattle.lert_blocks.specs.Decoding.{rest_found, floor_of}
use Rattle.lert_blocks.specs.Frame.{numbers_in, blocks_len, blocks_found, placed}
use Rattle.lert_blocks.specs.Text.{word_count}
use Rattle.lert_blocks.specs.Walk.{Found, behind}
use Rattle.lert_frames.specs.declared.decoder.Ahead.{Ahead}
use Rattle.lert_frames.specs.declared.decoder.Decoder.{Decoder}
use Rattle.lert_frames.specs.declared.decoder.Present.{Present}
use Rattle.lert_frames.specs.Place.{blocks_bytes}
use Rattle.lert_frames.specs.Window.{to_come, place_of}

-- how many words of the run ends of so many slots stand at the front of bytes
abbrev pub words_there : ℕ → List ℕ → ℕ
words_there some ends = min (word_count some) (length ends / 8)

-- which of the slots end a run, by the words that are there
abbrev pub ends_there : ℕ → List ℕ → List Bool
ends_there some ends = take some (row_of (numbers_in (words_there some ends) ends) ++ replicate some false)

-- the slots at the front of bytes, as far as they and the words of their run ends are there
abbrev pub slots_there : ℕ → List ℕ → List ℕ → List ℕ
slots_there some ends slots = numbers_in (min (min some (64 * words_there some ends)) (length slots / 8)) slots

-- what is to come of the present block, whose slots from its present word on stand at `place`
unfoldable pub block_rest : ℕ → Present → ℕ → ℕ → List ℕ → List ℕ → Found
block_rest width block place end ends slots =
    placed (place + 8 * block.from) end (drop block.from (slots_there block.some ends slots))
    (rest_found width block.first block.walk (drop block.from (ends_there block.some ends)) (drop block.from (slots_there block.some ends slots)))

-- and of the blocks behind it
abbrev pub blocks_rest : ℕ → Present → Ahead → ℕ → ℕ → List ℕ → Found
blocks_rest width block ahead place end slots =
    blocks_found ahead.blocks width ahead.next ahead.most (place + 8 * block.some) end (drop (8 * block.some) slots)

unfoldable pub found_by : ℕ → Present → Ahead → ℕ → ℕ → List ℕ → List ℕ → Found
found_by width block ahead place end ends slots =
    behind (block_rest width block place end ends slots) (blocks_rest width block ahead place end slots)

abbrev pub decoder_found : Decoder → List ℕ → Found
decoder_found d file = found_by d.width d.block d.ahead (place_of d.window) (length file) (to_come d.ends file) (to_come d.window file)

-- the least tail that may come, and a number above all
abbrev pub floor_by : ℕ → Present → Ahead → ℕ
floor_by width block ahead = if block.some == 0 then 64 * ahead.next * 2 ^ width else floor_of width block.first block.walk

abbrev pub decoder_floor : Decoder → ℕ
decoder_floor d = floor_by d.width d.block d.ahead

abbrev pub decoder_limit : Decoder → ℕ
decoder_limit d = 64 * (d.ahead.next + d.ahead.blocks) * 2 ^ d.width

-- the place behind the frame's last block
abbrev pub end_by : Present → Ahead → ℕ → List ℕ → ℕ
end_by block ahead place slots = place + 8 * block.some + blocks_len ahead.blocks (drop (8 * block.some) slots)

abbrev pub decoder_end : Decoder → List ℕ → ℕ
decoder_end d file = end_by d.block d.ahead (place_of d.window) (to_come d.window file)

-- what is found is these pieces and what is found then
abbrev pub Gives : Decoder → Decoder → List Piece → List ℕ → Type 0
Gives old new put file = decoder_found old file ≡ behind (record { pieces = put; left = None }) (decoder_found new file)

-- how much is to be done: a step takes a block, or some of the present one's slots
abbrev pub work_of : Decoder → ℕ
work_of d = d.block.some + 2 ^ 33 * d.ahead.blocks

-- ---- where it stands

-- the most bytes that may be wanted of the window yet: the present block's slots, and the blocks behind it
abbrev pub bytes_wanted : Decoder → ℕ
bytes_wanted d = 8 * d.block.some + blocks_bytes d.ahead.blocks d.ahead.most

-- whatever may be wanted yet stands between two places, the words of run ends before the slots
pub record IsBetween (place end : ℕ) (d : Decoder) : Type 0 where
  pub from : place ≤ place_of d.window
  pub within : place_of d.window + bytes_wanted d ≤ end
  pub ends : 0 < d.block.some → (place ≤ place_of d.ends) × (place_of d.ends + 8 * word_count d.block.some ≤ place_of d.window)
