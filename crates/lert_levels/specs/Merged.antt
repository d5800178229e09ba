-- The merge of level 0 with some of the levels on disk.
use Rattle.std.specs.{Prelude.{◌≡◌, ℕ, ◌-◌, ◌≤◌, List, map, ◌++◌, Option, Some, None}, List.AllZip}
use Rattle.lert_bay.specs.Files.{Files}
use Rattle.lert_levels.specs.{landing.Summed.sums_of, declared.rows.bin_at.BinAt.BinAt, Parts.{Part, part_table}, rows.Checked.rows_left, rows.Loading.{AllStand, held_in, widths_in}}
use Rattle.lert_spec.specs.{declared.numbers.Numbers.Numbers, Bins.Bin, Table.{costs, AreGiven}, declared.piece.Piece.Piece}
use Rattle.lert_frames.specs.Place.{tail_limit}

-- the pieces of its streams: those of the bins of level 0, and those that the frames of the rows' bins hold
abbrev pub streams_of : List Bin → (BinAt → List Piece) → List (List BinAt) → List (List Piece)
streams_of young held rows = map (λ bin. bin.pieces) young ++ held_in held rows

-- and how wide their bins are
abbrev pub widths_of : List Bin → List (List BinAt) → List ℕ
widths_of young rows = map (λ bin. bin.to - bin.from) young ++ widths_in rows

-- pieces that a stream gave, whose counts cost no more than a width
pub record Fills (version limit wide : ℕ) (pieces : List Piece) : Type 0 where
  pub given : AreGiven limit pieces
  pub fits : costs version pieces ≤ wide

-- pieces of bins of these widths
abbrev pub AreBins : ℕ → ℕ → List ℕ → List (List Piece) → Type 0
AreBins version limit widths lists = AllZip (Fills version limit) widths lists

-- what a merge of these streams took, from some lists: they fill bins of their widths, and are those that the frames hold, where
-- they stand in the file. None of the frames leaves its format.
pub record IsMade (s : Numbers) (version : ℕ) (young : List Bin) (rows : List (List BinAt)) (parts : List Part) (took : List Piece → Type 0)
    (file_is : List ℕ → Type 0) (made : List (List Piece)) : Type 0
  where
    pub lists : List (List Piece)
    pub bins : AreBins version (tail_limit s) (widths_of young rows) lists
    pub taken : took (sums_of lists)
    pub are : made ≡ map (part_table lists) parts
    pub told : (file : List ℕ) → file_is file → (held : BinAt → List Piece) → AllStand s version file held rows → lists ≡ streams_of young held rows
    pub whole : (file : List ℕ) → file_is file → rows_left s version file rows ≡ None

-- these are the bytes of the file of frames, where a bay tells them
pub record IsFrames (files : Option Files) (file : List ℕ) : Type 0 where
  pub seen : Files
  pub told : files ≡ Some seen
  pub is : file ≡ seen 2
