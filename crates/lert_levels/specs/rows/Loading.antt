-- The bins of some levels as they are read, level by level from the first on, each level's oldest first.
use Rattle.std.specs.Prelude.{◌≡◌, ℕ, ◌+◌, ◌-◌, ◌<◌, List, [], length, map, flat_map, All, Contains, Some, slice_index_or}
use Rattle.lert_frames.specs.{Frame.{HoldsFrame, IsBin, frame_left}, Place.tail_limit}
use Rattle.lert_base.specs.{declared.pieces.PieceFault.PieceFault, declared.pieces.PieceFault.TheVariants.{Failed as PieceFailed, Malformed as PieceMalformed}}
use Rattle.lert_spec.specs.{declared.numbers.Numbers.Numbers, declared.piece.Piece.Piece}
use Rattle.lert_levels.specs.{declared.rows.bin_at.BinAt.BinAt, declared.rows.fault.FlushFault.FlushFault, declared.rows.fault.FlushFault.TheVariants.{Failed, Malformed}}

abbrev pub width_of : BinAt → ℕ
width_of bin = bin.to - bin.from

-- the frame of a bin of a level holds these pieces, which are a bin of its width
pub record Stands (s : Numbers) (version level : ℕ) (file : List ℕ) (held : BinAt → List Piece) (bin : BinAt) : Type 0 where
  pub are : IsBin version (tail_limit s) (width_of bin) (held bin)
  pub text : HoldsFrame s version level bin.frame file (held bin)

-- so do those of all bins of the levels from the first on
abbrev pub AllStand : Numbers → ℕ → List ℕ → (BinAt → List Piece) → List (List BinAt) → Type 0
AllStand s version file held rows = (k : ℕ) → k < length rows → All (Stands s version (k + 1) file held) (slice_index_or rows k [])

-- the pieces of all bins, and their widths
abbrev pub held_in : (BinAt → List Piece) → List (List BinAt) → List (List Piece)
held_in held rows = flat_map (λ row. map held row) rows

abbrev pub widths_in : List (List BinAt) → List ℕ
widths_in rows = flat_map (λ row. map width_of row) rows

-- the frame of a bin of a level leaves its format at this byte
pub record BinBreaks (s : Numbers) (version level : ℕ) (bin : BinAt) (file : List ℕ) (at : ℕ) : Type 0 where
  pub left : frame_left s version level bin.frame (width_of bin) file ≡ Some at

-- that of one of a level's bins, or of one of all
pub record RowBreaks (s : Numbers) (version level : ℕ) (row : List BinAt) (file : List ℕ) (at : ℕ) : Type 0 where
  pub bin : BinAt
  pub named : Contains row bin
  pub breaks : BinBreaks s version level bin file at

pub record OneBreaks (s : Numbers) (version : ℕ) (rows : List (List BinAt)) (file : List ℕ) (at : ℕ) : Type 0 where
  pub number : ℕ
  pub within : number < length rows
  pub breaks : RowBreaks s version (number + 1) (slice_index_or rows number []) file at

-- what a refused piece is to a flush
abbrev pub flush_fault : PieceFault → FlushFault
flush_fault PieceFailed = Failed
flush_fault (PieceMalformed at) = Malformed at
