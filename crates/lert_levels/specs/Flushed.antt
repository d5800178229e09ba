-- The new bins of a flush, and the frames that it leaves alone.
use Rattle.std.specs.Prelude.{◌≡◌, ℕ, ◌+◌, ◌-◌, ◌<◌, ◌≤◌, List, [], length, Contains, slice_index_or}
use Rattle.lert_frames.specs.Place.{frame_place, frame_len}
use Rattle.lert_spec.specs.{declared.numbers.Numbers.Numbers, declared.item.Item.Item, Bins.Bin, Edges.{edge, capacity}, Items.AreOfVersion, declared.piece.Piece.Piece}
use Rattle.lert_levels.specs.{declared.rows.bin_at.BinAt.BinAt, OnDisk.OnDisk, rows.Ranges.young_bins, rows.Rows.{row_of, IsAt, arrived, tallied_in, HoldsBins}}

-- the new bins, that of level 1 first, are the counts of their positions
abbrev pub AreNew : Numbers → ℕ → List Item → List (List BinAt) → List (List Piece) → Type 0
AreNew s m events rows made = (k : ℕ) → k < length made → slice_index_or made k [] ≡ tallied_in s events (arrived s m (k + 1) (slice_index_or rows k []))

-- these are the events up to the flush at m, which weigh what the files' version allows: level 0 has its bins of them, and the
-- frames of the levels on disk hold theirs
pub record AreEvents (levels : OnDisk) (m : ℕ) (young : List Bin) (events : List Item) (file : List ℕ) : Type 0 where
  pub len : length events ≡ m
  pub weighed : AreOfVersion levels.version events
  pub young_are : young ≡ young_bins levels.settings events (edge levels.settings 0 (m - 1))
  pub held : HoldsBins levels.settings levels.version events levels.rows file

-- these are all events: the rows have the bins of the levels after them, level 0 has its own, and the frames hold theirs
pub record AreAllEvents (levels : OnDisk) (young : List Bin) (events : List Item) (file : List ℕ) : Type 0 where
  pub at : IsAt levels.settings (length events) levels.rows
  pub fits : length events ≤ capacity levels.settings
  pub weighed : AreOfVersion levels.version events
  pub young_are : young ≡ young_bins levels.settings events (edge levels.settings 0 (length events))
  pub held : HoldsBins levels.settings levels.version events levels.rows file

-- a range of the file of frames stands in the frame of a bin
pub record InNamed (s : Numbers) (version : ℕ) (rows : List (List BinAt)) (from to : ℕ) : Type 0 where
  pub level : ℕ
  pub first : 1 ≤ level
  pub last : level ≤ s.levels
  pub bin : BinAt
  pub named : Contains (row_of rows level) bin
  pub above : frame_place s version level bin.frame ≤ from
  pub below : to ≤ frame_place s version level bin.frame + frame_len s version level
