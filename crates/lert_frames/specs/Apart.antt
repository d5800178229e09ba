-- A file in which other places than a frame's were written, and what the frame's reader is sure of.
use Rattle.std.specs.Prelude.{◌≡◌, ℕ, ◌+◌, ◌≤◌, ◌⊎◌, List, length, min, None}
use Rattle.lert_bay.specs.Settled.{part}
use Rattle.lert_frames.specs.Place.{frame_len}
use Rattle.lert_frames.specs.ToCome.{left_of}
use Rattle.lert_frames.specs.declared.reader.FrameReader.{FrameReader}

-- a file in which a frame's place reads as before, as far as the file went, and which is no shorter
pub record SamePlace (place len : ℕ) (old new : List ℕ) : Type 0 where
  pub longer : length old ≤ length new
  pub same : part new place (min (place + len) (length old)) ≡ part old place (min (place + len) (length old))

-- the file has all of the frame's place, or the frame leaves its text nowhere from where the reader stands
abbrev pub IsSure : FrameReader → List ℕ → Type 0
IsSure r file = (r.place + frame_len r.settings r.version r.level ≤ length file) ⊎ (left_of r file ≡ None)
