-- Where a cursor stands in a table.
use Rattle.std.specs.Prelude.{ℕ, ◌+◌, ◌*◌, ◌^◌, ◌≡◌, ◌<◌, ◌≤◌, ◌⊎◌, List, [], ◌∷◌, ◌++◌, length, map, drop, max}
use Rattle.lert_runs.specs.RunText.{run_text, RemaindersAscend}
use Rattle.lert_spec.specs.declared.piece.Piece.{Piece}
use Rattle.lert_cqf.specs.{Cells.stop, Layout.{by_quotient, texts}, Around.{HomesAscend, HomesBelow}, Contents.Contents, declared.cursor.CqfCursor.CqfCursor}

-- the pieces of one quotient
abbrev pub pieces_at : ℕ → ℕ → List (ℕ × ℕ) → List Piece
pieces_at width q ps = map (λ (p : ℕ × ℕ). record { tail = q * 2 ^ width + p.0; count = p.1 }) ps

-- the pieces of runs
abbrev pub pieces_of : ℕ → List (ℕ × List (ℕ × ℕ)) → List Piece
pieces_of width [] = []
pieces_of width (r ∷ rs) = pieces_at width r.0 r.1 ++ pieces_of width rs

-- the cursor stands in the run of a quotient, behind the pairs `done`
pub record IsInRun (t : Contents) (c : CqfCursor) : Type 0 where
  pub before : List (ℕ × List (ℕ × ℕ))
  pub quotient : ℕ
  pub done : List (ℕ × ℕ)
  pub rest : List (ℕ × ℕ)
  pub after : List (ℕ × List (ℕ × ℕ))
  pub split : by_quotient t.width t.pieces ≡ before ++ (quotient, done ++ rest) ∷ after
  pub below : HomesBelow quotient before
  pub above : HomesAscend (quotient + 1) (2 ^ t.quotient_bits) after
  pub within : quotient < 2 ^ t.quotient_bits
  pub ascend : RemaindersAscend 0 (done ++ rest)
  pub next_is : c.next ≡ quotient + 1
  pub at_is : c.at ≡ max (stop 0 (texts t.width before)) quotient + length (run_text t.width done)
  pub end_is : c.end ≡ max (stop 0 (texts t.width before)) quotient + length (run_text t.width (done ++ rest))
  pub left_is : drop c.given t.pieces ≡ pieces_at t.width quotient rest ++ pieces_of t.width after

-- the cursor stands before the runs `after`
pub record IsBetween (t : Contents) (c : CqfCursor) : Type 0 where
  pub before : List (ℕ × List (ℕ × ℕ))
  pub after : List (ℕ × List (ℕ × ℕ))
  pub split : by_quotient t.width t.pieces ≡ before ++ after
  pub below : HomesBelow c.next before
  pub above : HomesAscend c.next (2 ^ t.quotient_bits) after
  pub next_within : c.next ≤ 2 ^ t.quotient_bits
  pub empty : c.at ≡ c.end
  pub left_is : drop c.given t.pieces ≡ pieces_of t.width after

abbrev pub Stands : Contents → CqfCursor → Type 0
Stands t c = IsInRun t c ⊎ IsBetween t c
