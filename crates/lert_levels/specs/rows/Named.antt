-- What a directory names: the bins of the levels, in its frames.
use Rattle.std.specs.{Prelude.{◌≡◌, ◌≢◌, ℕ, ◌≤◌, List, ◌∷◌, length, flat_map, All}, List.AllPairs}
use Rattle.lert_spec.specs.declared.numbers.Numbers.{Numbers}
use Rattle.lert_levels.specs.{declared.rows.bin_at.BinAt.BinAt, rows.Ranges.ranges, rows.Rows.{IsAt, AreRows, directory_text}}

-- the rows have the bins of the levels after n events, each in a frame of its own, and this is their directory
pub record AreNamed (s : Numbers) (n : ℕ) (text : List ℕ) (rows : List (List BinAt)) : Type 0 where
  pub at : IsAt s n rows
  pub are : AreRows s rows
  pub text_is : directory_text rows ≡ text

-- a directory of the levels after n events: there are such rows
pub record IsDirectory (s : Numbers) (n : ℕ) (text : List ℕ) : Type 0 where
  pub rows : List (List BinAt)
  pub named : AreNamed s n text rows

-- ---- by the frames alone

-- the frames of a level's bins after n events: one for each bin, of those that a level has, and none twice
pub record AreFramesAt (s : Numbers) (n level : ℕ) (frames : List ℕ) : Type 0 where
  pub counted : length frames ≡ length (ranges s n level)
  pub known : All (λ frame. frame ≤ s.bins) frames
  pub distinct : AllPairs (λ one other. one ≢ other) frames

-- the directory of the frames of each level
abbrev pub frames_text : List (List ℕ) → List ℕ
frames_text levels = flat_map (λ frames. length frames ∷ frames) levels
