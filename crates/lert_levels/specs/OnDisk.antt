-- The levels on disk.
use Rattle.std.specs.Prelude.{◌≡◌, ℕ, ◌+◌, ◌*◌, ◌≤◌, List}
use Rattle.lert_frames.specs.declared.reader.FrameReader.{FrameReader}
use Rattle.lert_spec.specs.{declared.numbers.Numbers.Numbers, Items.IsVersion}
use Rattle.lert_levels.specs.{declared.rows.bin_at.BinAt.BinAt, rows.Rows.{AreRows, directory_text}}

-- what they are seen as: their settings, the version of the cone's files, and the rows from level 1 on
pub record OnDisk : Type 0 where
  pub settings : Numbers
  pub version : ℕ
  pub rows : List (List BinAt)

-- what stands between two calls: rows, their version and directory, and what reads the frames, of the same settings
pub record AreKept (s : Numbers) (version : ℕ) (rows : List (List BinAt)) (directory : List ℕ) (room : ℕ) (reader : FrameReader) : Type 0 where
  pub are : AreRows s rows
  pub of_version : IsVersion version
  pub directory_is : directory ≡ directory_text rows
  pub directory_room : s.levels * (1 + s.bins) ≤ room
  pub read_by : reader.settings ≡ s
