-- A stream of a set, after another one was asked.
use Rattle.std.specs.Prelude.{ℕ, ◌≡◌, ◌↔◌, Option, List}
use Rattle.lert_spec.specs.declared.piece.Piece.{Piece}

-- the stream is as it was, in every context: what is to come of it and what it gave, its limit, and where it leaves its format
pub record IsUntouched {S C : Type 0} (to_come : S → ℕ → C → Option (List Piece)) (given : S → ℕ → List Piece) (limit : S → ℕ → ℕ)
    (breaks : S → ℕ → C → ℕ → Type 0) (old new : S) (stream : ℕ) : Type 0 where
  pub coming : (ctx : C) → to_come new stream ctx ≡ to_come old stream ctx
  pub pieces : given new stream ≡ given old stream
  pub limits : limit new stream ≡ limit old stream
  pub breaking : (ctx : C) (at : ℕ) → breaks new stream ctx at ↔ breaks old stream ctx at
