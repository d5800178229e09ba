-- The rows of a cone's levels on disk: for each level its bins, oldest first, and the frame in which each stands.
use Rattle.std.specs.Prelude.{◌≡◌, ℕ, ◌+◌, ◌-◌, ◌<◌, ◌≤◌, ◌%◌, ◌==◌, ◌^◌, Bool, nat_lt, List, [], ◌∷◌, ◌++◌, length, map, flat_map, take, drop, All, count_by, find, unwrap_or, slice_index_or}
use Rattle.std.specs.{Prelude.{slice_range, if◌then◌else◌}, List.range_with_len}
use Rattle.lert_frames.specs.Frame.{HoldsFrame}
use Rattle.lert_spec.specs.{declared.numbers.Numbers.Numbers, declared.item.Item.Item, declared.piece.Piece.Piece, Bins.tally, Counts.weighed, Edges.{span, edge, depth}}
use Rattle.lert_levels.specs.{declared.rows.bin_at.BinAt.BinAt, rows.Ranges.{Range, ranges}}

-- ---- which bins stand where

-- the positions of a bin
abbrev pub range_of : BinAt → Range
range_of bin = record { from = bin.from; to = bin.to }

-- a level's row
abbrev pub row_of : List (List BinAt) → ℕ → List BinAt
row_of rows level = slice_index_or rows (level - 1) []

-- the rows have the bins of the levels after n events
pub record IsAt (s : Numbers) (n : ℕ) (rows : List (List BinAt)) : Type 0 where
  pub levels : length rows ≡ s.levels
  pub each : (level : ℕ) → 1 ≤ level → level ≤ s.levels → map range_of (row_of rows level) ≡ ranges s n level

-- how many bins of a row stand in a frame
abbrev pub times_named : List BinAt → ℕ → ℕ
times_named row frame = count_by (λ bin. bin.frame == frame) row

-- a row, whatever the events: no more bins than a level has, each in a frame of its own, some positions and no more than a
-- span of them
pub record IsRow (s : Numbers) (level : ℕ) (row : List BinAt) : Type 0 where
  pub few : length row ≤ s.bins
  pub distinct : (frame : ℕ) → times_named row frame ≤ 1
  pub frames : All (λ bin. bin.frame ≤ s.bins) row
  pub some : All (λ bin. bin.from < bin.to) row
  pub widths : All (λ bin. bin.to - bin.from ≤ span s level) row
  pub ends : All (λ bin. bin.to < 2 ^ 32) row

-- rows of the first levels
pub record AreFirst (s : Numbers) (rows : List (List BinAt)) : Type 0 where
  pub few : length rows ≤ s.levels
  pub each : (k : ℕ) → k < length rows → IsRow s (k + 1) (slice_index_or rows k [])

-- of all levels
pub record AreRows (s : Numbers) (rows : List (List BinAt)) : Type 0 where
  pub levels : length rows ≡ s.levels
  pub each : (level : ℕ) → 1 ≤ level → level ≤ s.levels → IsRow s level (row_of rows level)

-- what the tails at a bin's positions weigh
abbrev pub tallied_in : Numbers → List Item → BinAt → List Piece
tallied_in s events bin = tally weighed s (slice_range events bin.from bin.to)

-- the frame of each bin holds them
abbrev pub HoldsBins : Numbers → ℕ → List Item → List (List BinAt) → List ℕ → Type 0
HoldsBins s version events rows file =
    (level : ℕ) → 1 ≤ level → level ≤ s.levels →
    All (λ bin. HoldsFrame s version level bin.frame file (tallied_in s events bin)) (row_of rows level)

-- a byte with the number of bins of each level, and behind it their frames, oldest first
abbrev pub directory_text : List (List BinAt) → List ℕ
directory_text rows = flat_map (λ row. length row ∷ map (λ bin. bin.frame) row) rows

-- ---- what a flush makes of them

-- the least frame in which no bin of a row stands
abbrev pub lowest_free : List BinAt → ℕ
lowest_free row = unwrap_or (find (λ frame. times_named row frame == 0) (range_with_len 0 (length row))) (length row)

-- no position, in the first frame
abbrev pub no_bin : BinAt
no_bin = record { from = 0; to = 0; frame = 0 }

-- the newest bin of a row
abbrev pub newest : List BinAt → BinAt
newest row = slice_index_or row (length row - 1) no_bin

-- the bin that comes to a level in the flush at m begins an aligned interval of the level's span
abbrev pub begins : Numbers → ℕ → ℕ → Bool
begins s m level = edge s (level - 1) (m - 1) % span s level == 0

-- the bins that stay as they are: all, where it begins an interval, else all but the newest, with which it is joined
abbrev pub kept : Numbers → ℕ → ℕ → List BinAt → List BinAt
kept s m level row = if begins s m level then row else take (length row - 1) row

-- the bin that is written
abbrev pub arrived : Numbers → ℕ → ℕ → List BinAt → BinAt
arrived s m level row = record {
  from = if begins s m level then edge s (level - 1) (m - 1) else (newest row).from;
  to = edge s (level - 1) m;
  frame = lowest_free row;
}

-- a level's row after the flush at m: as it was, where the flush is less deep; else with the bin that comes in, and without
-- its oldest bin, where that goes on to the next level
abbrev pub moved_row : Numbers → ℕ → ℕ → List BinAt → List BinAt
moved_row s m level row =
    if nat_lt (depth s m) level then row else drop (if nat_lt level (depth s m) then 1 else 0) (kept s m level row ++ arrived s m level row ∷ [])

abbrev pub moved : Numbers → ℕ → List (List BinAt) → List (List BinAt)
moved s m rows = map (λ level. moved_row s m level (row_of rows level)) (range_with_len 1 (length rows))
