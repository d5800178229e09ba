-- Worked examples of sums, computed.
use Rattle.std.proofs.Common.{◌≡◌, ℕ, List, [], ◌∷◌, Some, None, refl}
use Rattle.lert_spec.specs.declared.piece.Piece.{Piece}
use Rattle.lert_levels.specs.{landing.Whole.whole, landing.Summed.{sums, sums_of, tally}}

abbrev of : ℕ → ℕ → Piece
of tail count = record { tail = tail; count = count }

-- two were handed on, and the third tail is open
three : whole (of 1 4 ∷ of 4 2 ∷ []) (record { last = Some (of 5 4) }) ≡ of 1 4 ∷ of 4 2 ∷ of 5 4 ∷ []
three = refl

none : whole [] (record { last = None }) ≡ []
none = refl

abbrev order : List Piece
order = of 1 2 ∷ of 1 1 ∷ of 1 1 ∷ of 4 2 ∷ of 5 1 ∷ of 5 3 ∷ of 9 1 ∷ of 9 1 ∷ []

abbrev lists : List (List Piece)
lists = (of 1 2 ∷ of 5 1 ∷ of 9 1 ∷ []) ∷ (of 1 1 ∷ of 4 2 ∷ of 9 1 ∷ []) ∷ (of 1 1 ∷ of 5 3 ∷ []) ∷ []

all_sums : sums order ≡ of 1 4 ∷ of 4 2 ∷ of 5 4 ∷ of 9 2 ∷ []
all_sums = refl

same_sums : sums_of lists ≡ sums order
same_sums = refl

five : tally 5 order ≡ 4
five = refl
