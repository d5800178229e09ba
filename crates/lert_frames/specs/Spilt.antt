-- A block that isn't ended: where its text so far stands, and that of the blocks before it.
use Rattle.std.specs.Prelude.{◌≡◌, ℕ, ◌+◌, ◌*◌, ◌<◌, ◌≤◌, ◌^◌, List, length, take, Option, Some, None}
use Rattle.lert_bay.specs.Settled.{part}
use Rattle.lert_blocks.specs.declared.block.Block.{Block}
use Rattle.lert_blocks.specs.Filling.{IsFilled}
use Rattle.lert_blocks.specs.Text.{slots_of, ends_of, word_count, words_of, numbers_text}
use Rattle.lert_frames.specs.declared.long.Long.{Long}
use Rattle.lert_frames.specs.declared.outlet.Outlet.{Outlet}
use Rattle.lert_frames.specs.Outlet.{IsOut, next_place}
use Rattle.lert_spec.specs.declared.piece.Piece.{Piece}

-- ---- places

-- the bytes of a block of so many slots
abbrev pub block_bytes : ℕ → ℕ
block_bytes slots = 12 + 8 * word_count slots + 8 * slots

-- at most so many slots are to come of a long block, and there is room for them and their words of run ends: the words
-- end before the slots begin, and the slots before this place
pub record Reaches (l : Long) (slots end : ℕ) (ends outlet : Outlet) : Type 0 where
  pub ends_at : l.begin + 12 ≤ ends.at
  pub ends_next : next_place ends ≡ l.begin + 12 + 8 * l.words
  pub words_fit : next_place ends + 8 * word_count slots ≤ l.slots
  pub slots_at : l.slots ≤ outlet.at
  pub slots_next : next_place outlet ≡ l.slots + 512 * l.words
  pub slots_fit : next_place outlet + 8 * slots ≤ end

-- there is room for the rest of a block
pub record HasRoom (long : Option Long) (slots end : ℕ) (ends outlet : Outlet) : Type 0 where
  pub short : long ≡ None → next_place outlet + block_bytes slots ≤ end
  pub spilt : (l : Long) → long ≡ Some l → Reaches l slots end ends outlet
  pub some : (l : Long) → long ≡ Some l → 0 < slots
  pub few : (l : Long) → long ≡ Some l → 64 * l.words + slots < 2 ^ 32

-- where the bytes of a block begin that aren't sure to be written
abbrev pub first_place : Option Long → Outlet → ℕ
first_place None outlet = outlet.at
first_place (Some l) outlet = l.begin

-- where its bytes end, also those that are moved down later
abbrev pub last_place : Option Long → ℕ → Outlet → ℕ
last_place None slots outlet = next_place outlet + block_bytes slots
last_place (Some l) slots outlet = next_place outlet + 8 * slots

-- where the block ends
abbrev pub closed_place : Option Long → ℕ → Outlet → ℕ
closed_place None slots outlet = next_place outlet + block_bytes slots
closed_place (Some l) slots outlet = l.begin + block_bytes (64 * l.words + slots)

-- ---- texts

-- a long block: the slots at its front, and the words of their run ends, are out, and the block has the others
pub record IsSpilt (width number : ℕ) (pieces : List Piece) (l : Long) (file : List ℕ) (ends outlet : Outlet) (block : Block) : Type 0 where
  pub ends_out : IsOut (l.begin + 12) (numbers_text (words_of (take (64 * l.words) (ends_of width pieces)))) file ends
  pub slots_out : IsOut l.slots (numbers_text (take (64 * l.words) (slots_of width pieces))) file outlet
  pub filled : IsFilled width number (64 * l.words) pieces block

-- behind a text that begins at a place comes a block of these pieces
pub record IsBehind (long : Option Long) (place : ℕ) (text : List ℕ) (width number : ℕ) (pieces : List Piece) (file : List ℕ) (ends outlet : Outlet) (block : Block) : Type 0 where
  pub out : long ≡ None → IsOut place text file outlet
  pub filled : long ≡ None → IsFilled width number 0 pieces block
  pub spilt : (l : Long) → long ≡ Some l → IsSpilt width number pieces l file ends outlet block
  pub before : (l : Long) → long ≡ Some l → part file place l.begin ≡ text
  pub begins : (l : Long) → long ≡ Some l → l.begin ≡ place + length text
