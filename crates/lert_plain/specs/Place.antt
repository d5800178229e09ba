-- Where a tail stands in a list of pieces in ascending tails, or where it belongs.
use Rattle.std.specs.Prelude.{ℕ, ◌≡◌, ◌<◌, ◌≤◌, List, length, slice_index_or}
use Rattle.lert_spec.specs.declared.piece.Piece.{Piece}

-- the piece at this place has the tail
pub record IsPresent (pieces : List Piece) (tail at : ℕ) : Type 0 where
  pub within : at < length pieces
  pub same : (d : Piece) → (slice_index_or pieces at d).tail ≡ tail

-- no piece has the tail: those before this place are below it, and those from there on above it
pub record IsAbsent (pieces : List Piece) (tail at : ℕ) : Type 0 where
  pub within : at ≤ length pieces
  pub below : (k : ℕ) (d : Piece) → k < at → (slice_index_or pieces k d).tail < tail
  pub above : (k : ℕ) (d : Piece) → at ≤ k → k < length pieces → tail < (slice_index_or pieces k d).tail

-- the pieces before `low` are below the tail, and those from `high` on are not
pub record IsBetween (pieces : List Piece) (tail low high : ℕ) : Type 0 where
  pub ordered : low ≤ high
  pub within : high ≤ length pieces
  pub below : (k : ℕ) (d : Piece) → k < low → (slice_index_or pieces k d).tail < tail
  pub from : (k : ℕ) (d : Piece) → high ≤ k → k < length pieces → tail ≤ (slice_index_or pieces k d).tail
