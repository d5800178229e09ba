-- What calls that write some frames leave of the rest of the files.
use Rattle.std.specs.Prelude.{◌≡◌, ◌≢◌, ◌⊎◌, ℕ, ◌+◌, ◌<◌, ◌≤◌, List, [], length, Some, slice_index_or}
use Rattle.lert_bay.specs.{declared.bay.TheConstants.FRAMES, Files.{Files, Turns}, Kept.Bays, Settled.{part, Keeps, IsSettled}}
use Rattle.lert_frames.specs.{Frame.HoldsFrame, Place.{frame_place, frame_len, tail_limit}}
use Rattle.lert_spec.specs.{declared.numbers.Numbers.Numbers, declared.piece.Piece.Piece, Edges.span, Table.{costs, AreGiven}}
use Rattle.lert_levels.specs.{declared.rows.bin_at.BinAt.BinAt, rows.Rows.arrived}

-- a range of the file of frames stands before the place of a frame or behind it
abbrev pub IsApart : Numbers → ℕ → ℕ → ℕ → ℕ → ℕ → Type 0
IsApart s version level frame from to = (to ≤ frame_place s version level frame) ⊎ (frame_place s version level frame + frame_len s version level ≤ from)

-- the other files stay as they are, the file of frames gets no shorter, and reads as before in the ranges that are kept
pub record LeavesRest (kept : ℕ → ℕ → Type 0) (old new : Files) : Type 0 where
  pub others : (number : ℕ) → number ≢ FRAMES → new number ≡ old number
  pub longer : length (old FRAMES) ≤ length (new FRAMES)
  pub rest : (from to : ℕ) → kept from to → to ≤ length (old FRAMES) → part (new FRAMES) from to ≡ part (old FRAMES) from to

-- and what is settled in the other files, or in these ranges, stays settled in each image of each moment since
pub record KeepsRest {B : Type 0} (bays : Bays B) (kept : ℕ → ℕ → Type 0) (before after : B) : Type 0 where
  pub seen : Turns (LeavesRest kept) (bays.files before) (bays.files after)
  pub settled : (seen : Files) → bays.files before ≡ Some seen → (number from to : ℕ) → (number ≢ FRAMES) ⊎ kept from to →
      IsSettled (bays.leaves before) seen number from to → Keeps (bays.left_since after (bays.moment before)) seen number from to

-- every range
abbrev pub Anywhere : ℕ → ℕ → Type 0
Anywhere from to = Unit {0}

-- ---- the new bins of a flush

-- the frame in which the new bin of the k-th of some rows is to stand, the row of level 1 being the first
abbrev pub landing_frame : Numbers → ℕ → List (List BinAt) → ℕ → ℕ
landing_frame s m rows k = (arrived s m (k + 1) (slice_index_or rows k [])).frame

-- a range apart from all of these
abbrev pub AreApart : Numbers → ℕ → ℕ → List (List BinAt) → ℕ → ℕ → Type 0
AreApart s version m rows from to = (k : ℕ) → k < length rows → IsApart s version (k + 1) (landing_frame s m rows k) from to

-- the pieces of a level's new bin, which its frame has room for
pub record CanStand (s : Numbers) (version level : ℕ) (pieces : List Piece) : Type 0 where
  pub given : AreGiven (tail_limit s) pieces
  pub fits : costs version pieces ≤ span s level

-- the first new bins stand in their frames
abbrev pub AreLanded : Numbers → ℕ → ℕ → List (List BinAt) → List ℕ → List (List Piece) → ℕ → Type 0
AreLanded s version m rows file bins count = (k : ℕ) → k < count → HoldsFrame s version (k + 1) (landing_frame s m rows k) file (slice_index_or bins k [])
