-- What a bin of the bench is seen as.
use Rattle.std.specs.Prelude.{ℕ, List}
use Rattle.lert_spec.specs.declared.piece.Piece.{Piece}

-- the counts of its tails, the events that it has room for, and the greatest tail
pub record Filled : Type 0 where
  pub pieces : List Piece
  pub room : ℕ
  pub greatest : ℕ
