-- The sums of the counts of pieces that come in any order.
use Rattle.std.specs.Prelude.{ℕ, ◌<◌, ◌≤◌, ◌==◌, List, [], All, fold, length, sum_by, if◌then◌else◌, slice_index_or}
use Rattle.lert_spec.specs.{declared.piece.Piece.Piece, Table.{plus, IsTable}}

-- a table with the counts of more pieces
abbrev pub summed : List Piece → List Piece → List Piece
summed table pieces = fold (λ sums piece. plus sums piece.tail piece.count) table pieces

-- the table of the sums of pieces
abbrev pub sums : List Piece → List Piece
sums pieces = summed [] pieces

-- that of the pieces of several lists
abbrev pub sums_of : List (List Piece) → List Piece
sums_of lists = fold summed [] lists

-- how often a tail stands in pieces of which several may have it
abbrev pub tally : ℕ → List Piece → ℕ
tally tail pieces = sum_by (λ piece. if piece.tail == tail then piece.count else 0) pieces

-- each of the pieces may stand in a table of tails below the limit
abbrev pub AreCounted : ℕ → List Piece → Type 0
AreCounted limit pieces = All (λ piece. (piece.tail < limit) × (1 ≤ piece.count)) pieces

-- each list is a table of tails below the limit
abbrev pub AreTables : ℕ → List (List Piece) → Type 0
AreTables limit lists = (k : ℕ) → k < length lists → IsTable limit (slice_index_or lists k [])
