-- A window on the file of frames: what is at hand of it, and what is to come.
use Rattle.std.specs.Prelude.{ℕ, ◌-◌, List, ◌++◌, drop, slice_range}
use Rattle.lert_bay.specs.Settled.{part}
use Rattle.lert_frames.specs.Bytes.{AreBytes}
use Rattle.lert_frames.specs.declared.window.Window.{Window}

-- the bytes at hand
abbrev pub at_hand : Window → List ℕ
at_hand w = slice_range w.bytes.items w.from w.upto

-- how many these are
abbrev pub count_of : Window → ℕ
count_of w = w.upto - w.from

-- the place of the first of them
abbrev pub place_of : Window → ℕ
place_of w = w.at - count_of w

-- how many bytes fit the buffer
abbrev pub room_of : Window → ℕ
room_of w = w.bytes.len

-- the bytes at hand, and those of a file behind them
abbrev pub to_come : Window → List ℕ → List ℕ
to_come w file = at_hand w ++ drop w.at file

-- all that a file has from a place up to the end of what is at hand are bytes
abbrev pub IsRead : Window → ℕ → List ℕ → Type 0
IsRead w from file = AreBytes (part file from w.at)
