-- Computed fronts and lists: of three streams one ended, and of two lists with an equal tail either may be next.
use Rattle.std.proofs.{Common.{◌≡◌, ℕ, zero, suc, Option, ◌+◌, ◌<◌, ◌≤◌, All, List, [], ◌∷◌, Some, None, true, get_or, set, inl, refl, arith}, lemmas.List.Elements.All-cons}
use Rattle.lert_spec.specs.declared.piece.Piece.{Piece}
use Rattle.lert_merge.specs.{tree.Race.{number_at, greatest}, order.Fronts.{Fronts, front_at, IsFront}, order.Members.{told_at, given_at, limit_at, BreaksAt}, order.Ordering.{part_in, IsNext}}

abbrev piece : ℕ → ℕ → Piece
piece tail count = record { tail = tail; count = count }

-- stream 2 ended, and stream 3 was not read
abbrev three : Fronts
three = record { tails = 5 ∷ 2 ∷ greatest ∷ []; counts = 3 ∷ 1 ∷ 0 ∷ []; is_begun = true; first = 1; room = 4 }

pub three_fronts : (front_at three 0 ≡ piece 5 3 ∷ []) × (front_at three 1 ≡ piece 2 1 ∷ []) × (front_at three 2 ≡ []) × (front_at three 3 ≡ [])
three_fronts = (refl, refl, refl, refl)

three_least : (k : ℕ) → k < 3 → 2 ≤ number_at three.tails k
three_least zero low = let less : 2 ≤ 5 = omega arith in less
three_least (suc zero) low = let less : 2 ≤ 2 = omega arith in less
three_least (suc (suc zero)) low = let less : 2 ≤ 18446744073709551615 = omega arith in less
three_least (suc (suc (suc k))) low = absurd (omega arith)

pub three_first : IsFront three 1 (piece 2 1)
three_first = record {
  within = let less : 1 < 3 = omega arith in less;
  tail = refl;
  count = refl;
  some = let one : 1 ≤ 1 = omega arith in one;
  least = three_least;
  which = inl refl;
}

-- a piece is its own stream's part alone
pub parts : (part_in (Some (1, piece 2 1)) 1 ≡ piece 2 1 ∷ []) × (part_in (Some (1, piece 2 1)) 0 ≡ []) × (part_in None 1 ≡ [])
parts = (refl, refl, refl)

abbrev two : List (List Piece)
two = (piece 3 1 ∷ []) ∷ (piece 3 2 ∷ piece 4 1 ∷ []) ∷ []

two_least : (k : ℕ) → k < 2 → All (λ other. 3 ≤ other.tail) (get_or two k [])
two_least zero low = All-cons (λ (other : Piece). 3 ≤ other.tail) (piece 3 1) [] (let less : 3 ≤ 3 = omega arith in less) (λ j d below. absurd (omega arith))
two_least (suc zero) low = All-cons (λ (other : Piece). 3 ≤ other.tail) (piece 3 2) (piece 4 1 ∷ []) (let less : 3 ≤ 3 = omega arith in less)
    (All-cons (λ (other : Piece). 3 ≤ other.tail) (piece 4 1) [] (let less : 3 ≤ 4 = omega arith in less) (λ j d below. absurd (omega arith)))
two_least (suc (suc k)) low = absurd (omega arith)

pub first_next : IsNext two 0 (piece 3 1) []
first_next = record { within = let less : 0 < 2 = omega arith in less; front = refl; least = two_least }

pub second_next : IsNext two 1 (piece 3 2) (piece 4 1 ∷ [])
second_next = record { within = let less : 1 < 2 = omega arith in less; front = refl; least = two_least }

pub second_behind : set two 1 (piece 4 1 ∷ []) ≡ (piece 3 1 ∷ []) ∷ (piece 4 1 ∷ []) ∷ []
second_behind = refl

-- two streams in a list, of which the second leaves its format at byte 7, and none behind them
abbrev both : List ℕ
both = 3 ∷ 4 ∷ []

abbrev comes : ℕ → ℕ → Option (List Piece)
comes stream ctx = Some (piece stream ctx ∷ [])

pub told_both : (told_at comes both 1 9 ≡ Some (piece 4 9 ∷ [])) × (told_at comes both 2 9 ≡ None)
told_both = (refl, refl)

pub given_both : (given_at (λ stream. piece stream 1 ∷ []) both 0 ≡ piece 3 1 ∷ []) × (limit_at (λ stream. stream + 2) both 1 ≡ 6) × (limit_at (λ stream. stream + 2) both 2 ≡ 0)
given_both = (refl, refl, refl)

pub breaks_second : BreaksAt (λ stream (ctx : ℕ) at. stream + 3 ≡ at) both 1 9 7
breaks_second = refl
