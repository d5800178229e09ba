-- Streams that other calls on their context leave as they are.
use Rattle.std.specs.Prelude.{ℕ, ◌≡◌, ◌↔◌, Option, List}
use Rattle.lert_spec.specs.declared.piece.Piece.{Piece}

-- the same is to come of a stream, and the same breaks
pub record ComesTheSame {S C : Type 0} (to_come : S → ℕ → C → Option (List Piece)) (breaks : S → ℕ → C → ℕ → Type 0) (streams : S) (stream : ℕ) (before after : C) : Type 0 where
  pub coming : to_come streams stream after ≡ to_come streams stream before
  pub breaking : (at : ℕ) → breaks streams stream after at ↔ breaks streams stream before at

-- no call is said to have failed
abbrev pub NoneFailed : Type 0
NoneFailed = ⊥
