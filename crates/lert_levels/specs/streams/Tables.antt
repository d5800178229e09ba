-- The tables of a flush and their cursors, as bins.
use Rattle.std.specs.Prelude.{ℕ, ◌≡◌, ◌*◌, ◌≤◌, ◌^◌, List, [], ◌∷◌, ◌++◌, length, map, take}
use Rattle.lert_frames.specs.{declared.reader.FrameReader.FrameReader}
use Rattle.lert_spec.specs.Items.{IsVersion}
use Rattle.lert_spec.specs.{declared.numbers.Numbers.Numbers, declared.piece.Piece.Piece, Table.AreGiven}
use Rattle.lert_levels.specs.streams.Bin.{TableBin, Bin, of_table, of_frame, all_of}

-- what a table's cursor is seen as
abbrev pub bin_at : {T K : Type 0} → (T → ℕ) → (T → K → List Piece) → (K → List Piece) → T → K → TableBin
bin_at bits left gave table cursor = record { limit = 2 ^ bits table; given = gave cursor; left = left table cursor }

-- each cursor on its table
abbrev pub bins_at : {T K : Type 0} → (T → ℕ) → (T → K → List Piece) → (K → List Piece) → List T → List K → List TableBin
bins_at bits left gave [] cursors = []
bins_at bits left gave (table ∷ tables) [] = []
bins_at bits left gave (table ∷ tables) (cursor ∷ cursors) = bin_at bits left gave table cursor ∷ bins_at bits left gave tables cursors

-- a table of which nothing was given
abbrev pub fresh_bin : {T : Type 0} → (T → ℕ) → (T → List Piece) → T → TableBin
fresh_bin bits pieces table = record { limit = 2 ^ bits table; given = []; left = pieces table }

-- the tables' bins, and those of the first readers
abbrev pub all_streams : List TableBin → ℕ → List FrameReader → List Bin
all_streams tables frames readers = map of_table tables ++ map of_frame (take frames readers)

-- each cursor was started on its table
abbrev pub Stand : {T K : Type 0} → (T → K → Type 0) → List T → List K → Type 0
Stand stands [] [] = Unit {0}
Stand stands (table ∷ tables) (cursor ∷ cursors) = stands table cursor × Stand stands tables cursors
Stand stands [] (cursor ∷ cursors) = ⊥
Stand stands (table ∷ tables) [] = ⊥

-- the pieces of a table ascend
abbrev pub IsOrdered : TableBin → Type 0
IsOrdered table = AreGiven table.limit (all_of table)

abbrev pub AreOrdered : List TableBin → Type 0
AreOrdered [] = Unit {0}
AreOrdered (table ∷ tables) = IsOrdered table × AreOrdered tables

-- readers of a cone's frames
abbrev pub AreReadersOf : Numbers → List FrameReader → Type 0
AreReadersOf s [] = Unit {0}
AreReadersOf s (r ∷ readers) = (r.settings ≡ s) × AreReadersOf s readers

-- a reader for each bin of a cone on disk
pub record AreReaders (s : Numbers) (readers : List FrameReader) : Type 0 where
  pub of_settings : AreReadersOf s readers
  pub count : length readers ≡ s.bins * s.levels
  pub some : 1 ≤ length readers
  pub few : length readers ≤ 128

-- what stands between two calls: there is memory for a cursor of each table of level 0
pub record IsBinSet {T K : Type 0} (bits : T → ℕ) (left : T → K → List Piece) (gave : K → List Piece) (stands : T → K → Type 0)
    (s : Numbers) (version : ℕ) (tables : List T) (cursors : List K) (capacity : ℕ) (readers : List FrameReader) (frames : ℕ) : Type 0 where
  pub known : IsVersion version
  pub standing : Stand stands tables cursors
  pub ordered : AreOrdered (bins_at bits left gave tables cursors)
  pub few : length tables ≤ 16
  pub room : s.bins ≤ capacity
  pub readers_are : AreReaders s readers
  pub within : frames ≤ length readers

-- the same, while nothing is read
pub record IsRoom {K : Type 0} (s : Numbers) (cursors : List K) (capacity : ℕ) (readers : List FrameReader) : Type 0 where
  pub none : cursors ≡ []
  pub few : s.bins ≤ 16
  pub room : s.bins ≤ capacity
  pub readers_are : AreReaders s readers

-- a cursor was started on each of these tables
pub record AreStartedOn {T K : Type 0} (bits : T → ℕ) (left : T → K → List Piece) (gave : K → List Piece) (stands : T → K → Type 0) (pieces : T → List Piece)
    (tables : List T) (cursors : List K) : Type 0 where
  pub standing : Stand stands tables cursors
  pub bins : bins_at bits left gave tables cursors ≡ map (fresh_bin bits pieces) tables
  pub ordered : AreOrdered (map (fresh_bin bits pieces) tables)
