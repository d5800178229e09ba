-- The text of a frame of a level, and what a file says at its place.
use Rattle.std.specs.Prelude.{◌≡◌, ℕ, ◌+◌, ◌≤◌, ◌&&◌, nat_le, List, length, drop, Option, Some, None, if◌then◌else◌}
use Rattle.lert_bay.specs.Settled.{part}
use Rattle.lert_blocks.specs.Frame.{blocks_found}
use Rattle.lert_blocks.specs.Text.{blocks_text}
use Rattle.lert_blocks.specs.Walk.{Found}
use Rattle.lert_frames.specs.Place.{block_count, most_slots, frame_place}
use Rattle.lert_spec.specs.declared.numbers.Numbers.{Numbers}
use Rattle.lert_spec.specs.declared.piece.Piece.{Piece}
use Rattle.lert_spec.specs.Edges.{width}
use Rattle.lert_spec.specs.Table.{costs, total, AreGiven}

-- ---- the text

-- all blocks of a level's frame
abbrev pub frame_text : Numbers → ℕ → List Piece → List ℕ
frame_text s level pieces = blocks_text (width s level) 0 (block_count s level) pieces

-- it stands in a file at the frame's place
abbrev pub HoldsFrame : Numbers → ℕ → ℕ → ℕ → List ℕ → List Piece → Type 0
HoldsFrame s version level frame file pieces =
    part file (frame_place s version level frame) (frame_place s version level frame + length (frame_text s level pieces)) ≡ frame_text s level pieces

-- the pieces of a bin of this width: in ascending tails below `limit`, with counts from 1 to 2^47, which so many items
-- may have made as weigh what is allowed. With version 1 the counts add up to the width.
pub record IsBin (version limit wide : ℕ) (pieces : List Piece) : Type 0 where
  pub given : AreGiven limit pieces
  pub lower : costs version pieces ≤ wide
  pub upper : wide ≤ total pieces

-- ---- what a file says there

abbrev pub frame_found : Numbers → ℕ → ℕ → ℕ → List ℕ → Found
frame_found s version level frame file =
    blocks_found (block_count s level) (width s level) 0 (most_slots s version level) (frame_place s version level frame) (length file)
    (drop (frame_place s version level frame) file)

-- where a rule is broken, of what was found: at the frame's first byte, where only the counts cost more than they may or
-- don't reach what is due
abbrev pub if_summed : ℕ → ℕ → ℕ → ℕ → List Piece → Option ℕ → Option ℕ
if_summed version most due place pieces (Some at) = Some at
if_summed version most due place pieces None = if nat_le (costs version pieces) most && nat_le due (total pieces) then None else Some place

abbrev pub judged : ℕ → ℕ → ℕ → ℕ → Found → Option ℕ
judged version most due place found = if_summed version most due place found.pieces found.left

-- the place at which a file first leaves the text of a frame of a bin of this width: the costs are at most the width, and
-- the counts reach it
abbrev pub frame_left : Numbers → ℕ → ℕ → ℕ → ℕ → List ℕ → Option ℕ
frame_left s version level frame wide file = judged version wide wide (frame_place s version level frame) (frame_found s version level frame file)

-- the pieces there
abbrev pub frame_pieces : Numbers → ℕ → ℕ → ℕ → List ℕ → List Piece
frame_pieces s version level frame file = (frame_found s version level frame file).pieces
