-- What a sorted list table is seen as.
use Rattle.std.specs.Prelude.{ℕ, ◌≤◌, ◌^◌, List}
use Rattle.lert_spec.specs.{declared.piece.Piece.Piece, Table.{costs, total, IsTable}}

-- its pieces, how many adds made them and how many may, and the bits of its tails' quotients and remainders
pub record Contents : Type 0 where
  pub pieces : List Piece
  pub adds : ℕ
  pub room : ℕ
  pub quotient_bits : ℕ
  pub width : ℕ

-- the pieces are a count table that so many adds of 1 to 255 made, at most the room, and there is a place for each add
pub record IsKept (pieces : List Piece) (adds room tail_bits capacity : ℕ) : Type 0 where
  pub ascending : IsTable (2 ^ tail_bits) pieces
  pub cheap : costs 2 pieces ≤ adds
  pub some : adds ≤ total pieces
  pub in_room : adds ≤ room
  pub small : room ≤ 2 ^ 39
  pub reserved : room ≤ capacity
