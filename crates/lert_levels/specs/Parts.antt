-- Which streams of the merge of a flush make up the new bin of each level. The streams are the bins of level 0 first, `young`
-- of them, and then those of the rows, level by level, each level's oldest first.
use Rattle.std.specs.Prelude.{ℕ, zero, suc, ◌≡◌, ◌⊎◌, ◌+◌, ◌-◌, ◌<◌, ◌≤◌, false, List, [], ◌∷◌, length, map, take, sum_by, Option, Some, None, if◌then◌else◌, slice_index_or, slice_set}
use Rattle.std.specs.List.{range_with_len}
use Rattle.lert_spec.specs.{declared.numbers.Numbers.Numbers, declared.piece.Piece.Piece}
use Rattle.lert_levels.specs.{landing.Summed.sums_of, declared.rows.bin_at.BinAt.BinAt, rows.Rows.begins}

-- how many streams the levels from 0 up to one have
abbrev pub streams_to : ℕ → List (List BinAt) → ℕ → ℕ
streams_to young rows level = young + sum_by (λ row. length row) (take level rows)

-- the stream of a level's oldest bin
abbrev pub oldest_stream : ℕ → List (List BinAt) → ℕ → ℕ
oldest_stream young rows zero = 0
oldest_stream young rows (suc level) = streams_to young rows level

-- that of a level's newest bin, where the bin that comes to the level is joined with it
abbrev pub newest_stream : Numbers → ℕ → ℕ → ℕ → Option ℕ
newest_stream s m level streams = if begins s m level then None else Some (streams - 1)

-- the streams of a new bin
pub record Part : Type 0 where
  pub oldest : ℕ
  pub newest : Option ℕ

-- those of the bin that comes to the level above this one
abbrev pub part_at : Numbers → ℕ → ℕ → List (List BinAt) → ℕ → Part
part_at s m young rows level = record {
  oldest = oldest_stream young rows level;
  newest = newest_stream s m (level + 1) (streams_to young rows (level + 1));
}

abbrev pub parts_at : Numbers → ℕ → ℕ → List (List BinAt) → List Part
parts_at s m young rows = map (part_at s m young rows) (range_with_len 0 (length rows))

-- ---- what belongs to them

abbrev pub newest_in : {A : Type 0} → A → List A → Option ℕ → List A
newest_in e xs None = []
newest_in e xs (Some stream) = slice_index_or xs stream e ∷ []

-- what belongs to a part's streams
abbrev pub in_part : {A : Type 0} → A → List A → Part → List A
in_part e xs part = slice_index_or xs part.oldest e ∷ newest_in e xs part.newest

abbrev pub list_at : List (List Piece) → ℕ → List Piece
list_at lists stream = slice_index_or lists stream []

-- the table of a part's counts
abbrev pub part_table : List (List Piece) → Part → List Piece
part_table lists part = sums_of (in_part [] lists part)

-- ---- by streams

-- a stream is one of a part's
abbrev pub IsOfPart : ℕ → Part → Type 0
IsOfPart stream part = (stream ≡ part.oldest) ⊎ (part.newest ≡ Some stream)

-- parts with that of one stream set, and of another one where there is one
abbrev pub set_two : List (Option ℕ) → ℕ → Option ℕ → ℕ → List (Option ℕ)
set_two parts oldest None part = slice_set parts oldest (Some part)
set_two parts oldest (Some stream) part = slice_set (slice_set parts oldest (Some part)) stream (Some part)

-- the rows that a flush reaches: each but the last has a bin that goes on, one where the bin that comes is joined with the
-- newest, and that one isn't the one that goes on
pub record HaveParts (s : Numbers) (m : ℕ) (rows : List (List BinAt)) : Type 0 where
  pub goes_on : (k : ℕ) → k + 1 < length rows → 1 ≤ length (slice_index_or rows k [])
  pub joined : (k : ℕ) → k < length rows → begins s m (k + 1) ≡ false → 1 ≤ length (slice_index_or rows k [])
  pub two : (k : ℕ) → k + 1 < length rows → begins s m (k + 1) ≡ false → 2 ≤ length (slice_index_or rows k [])

-- the part of each of so many streams, of the first parts, where it is of one
pub record ArePartsOf (s : Numbers) (m young : ℕ) (rows : List (List BinAt)) (streams count : ℕ) (parts : List (Option ℕ)) : Type 0 where
  pub len : length parts ≡ streams
  pub each : (k stream : ℕ) → k < count → IsOfPart stream (part_at s m young rows k) → slice_index_or parts stream None ≡ Some k
  pub no_other : (stream k : ℕ) → slice_index_or parts stream None ≡ Some k → (k < count) × IsOfPart stream (part_at s m young rows k)
