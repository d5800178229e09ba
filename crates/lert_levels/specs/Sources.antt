-- What the streams of a flush are read from: the bins of level 0, and those of the rows in their frames.
use Rattle.std.specs.Prelude.{ℕ, suc, ◌≡◌, ◌⊎◌, ◌+◌, ◌-◌, ◌≤◌, List, [], ◌∷◌, ◌++◌, length, map, None}
use Rattle.lert_frames.specs.{Frame.{frame_left, frame_pieces}, Place.{frame_place, frame_len, tail_limit}, ToCome.{left_of, pieces_of}, declared.reader.FrameReader.FrameReader}
use Rattle.lert_levels.specs.{declared.rows.bin_at.BinAt.BinAt, rows.Loading.width_of, streams.Bin.{TableBin, Bin as Stream, of_table, of_frame}}
use Rattle.lert_spec.specs.{Bins.Bin, Table.{costs, AreGiven}, declared.numbers.Numbers.Numbers, declared.piece.Piece.Piece}

-- a bin of a level, as it is named
pub record Placed : Type 0 where
  pub level : ℕ
  pub bin : BinAt

abbrev pub placed_at : ℕ → BinAt → Placed
placed_at level bin = record { level = level; bin = bin }

-- the bins of rows, the first of them that of this level
abbrev pub placed : ℕ → List (List BinAt) → List Placed
placed level [] = []
placed level (row ∷ rows) = map (placed_at level) row ++ placed (suc level) rows

pub data Source : Type 0 where
  of_young : Bin → Source
  of_bin : Placed → Source

-- those of a flush that reaches these rows
abbrev pub sources : List Bin → List (List BinAt) → List Source
sources young rows = map of_young young ++ map of_bin (placed 1 rows)

-- the pieces of one, and how wide it is
abbrev pub pieces_from : (BinAt → List Piece) → Source → List Piece
pieces_from held (of_young bin) = bin.pieces
pieces_from held (of_bin p) = held p.bin

abbrev pub width_in : Source → ℕ
width_in (of_young bin) = bin.to - bin.from
width_in (of_bin p) = width_of p.bin

-- a table of a bin of level 0, of which nothing was given
pub record IsTableOf (s : Numbers) (version : ℕ) (bin : Bin) (table : TableBin) : Type 0 where
  pub limit : table.limit ≡ tail_limit s
  pub given : table.given ≡ []
  pub left : table.left ≡ bin.pieces
  pub ordered : AreGiven (tail_limit s) bin.pieces
  pub fits : costs version bin.pieces ≤ bin.to - bin.from

-- a reader that began the frame of a bin, of which nothing was given
pub record IsReaderOf (s : Numbers) (version : ℕ) (p : Placed) (r : FrameReader) : Type 0 where
  pub left : (file : List ℕ) → left_of r file ≡ frame_left s version p.level p.bin.frame (width_of p.bin) file
  pub pieces : (file : List ℕ) → pieces_of r file ≡ frame_pieces s version p.level p.bin.frame file
  pub gave : r.gave ≡ []
  pub of_settings : r.settings ≡ s
  pub of_version : r.version ≡ version
  pub of_level : r.level ≡ p.level
  pub place : r.place ≡ frame_place s version p.level p.bin.frame
  pub wide : r.wide ≡ width_of p.bin

abbrev pub IsBegun : Numbers → ℕ → Source → Stream → Type 0
IsBegun s version (of_young bin) (of_table table) = IsTableOf s version bin table
IsBegun s version (of_bin p) (of_frame r) = IsReaderOf s version p r
IsBegun s version (of_young bin) (of_frame r) = ⊥
IsBegun s version (of_bin p) (of_table table) = ⊥

-- each stream begins its source
abbrev pub AreBegun : Numbers → ℕ → List Source → List Stream → Type 0
AreBegun s version [] [] = Unit {0}
AreBegun s version (source ∷ more) (stream ∷ streams) = IsBegun s version source stream × AreBegun s version more streams
AreBegun s version [] (stream ∷ streams) = ⊥
AreBegun s version (source ∷ more) [] = ⊥

-- the file has all of the bin's place, or what stands there is whole
abbrev pub IsSecure : Numbers → ℕ → List ℕ → Placed → Type 0
IsSecure s version file p =
    (frame_place s version p.level p.bin.frame + frame_len s version p.level ≤ length file) ⊎ (frame_left s version p.level p.bin.frame (width_of p.bin) file ≡ None)

-- something is so of one of the bins on disk, or of each
abbrev pub AnyOf : (Placed → Type 0) → List Source → Type 0
AnyOf P [] = ⊥
AnyOf P (of_young bin ∷ some) = AnyOf P some
AnyOf P (of_bin p ∷ some) = P p ⊎ AnyOf P some

abbrev pub AllOf : (Placed → Type 0) → List Source → Type 0
AllOf P [] = Unit {0}
AllOf P (of_young bin ∷ some) = AllOf P some
AllOf P (of_bin p ∷ some) = P p × AllOf P some

-- the frames of these rows are secure in a file, the first of them of this level
abbrev pub AreSecure : Numbers → ℕ → List ℕ → ℕ → List (List BinAt) → Type 0
AreSecure s version file level rows = AllOf (IsSecure s version file) (map of_bin (placed level rows))
