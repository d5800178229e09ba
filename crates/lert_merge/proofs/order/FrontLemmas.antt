-- What was read ahead of the streams, after one of them was asked.
use Rattle.std.proofs.{Common.{◌≡◌, ◌≢◌, ℕ, ◌≤◌, Bool, if◌then◌else◌, Option, Some, None, List, [], ◌∷◌, length, arith, ap, ap₂, ◌∙◌, refl, option_to_list}, lemmas.List.get_or_past}
use Rattle.std.proofs.lemmas.Bool.{eq-eqb, ne_eqb}
use Rattle.lert_spec.specs.declared.piece.Piece.{Piece}
use Rattle.lert_merge.specs.{tree.Race.number_at, order.Fronts.{Fronts, pieces_of, front_at, tail_in, count_in, IsPut}}

pub pieces_some : (tail count : ℕ) → 1 ≤ count → pieces_of tail count ≡ record { tail = tail; count = count } ∷ []
pieces_some tail count some = ap (λ (b : Bool). let ps : List Piece = (if b then [] else record { tail = tail; count = count } ∷ []) in ps) (ne_eqb count 0 (λ none. omega arith))

pub pieces_none : (tail count : ℕ) → count ≡ 0 → pieces_of tail count ≡ []
pieces_none tail count none = ap (λ (b : Bool). let ps : List Piece = (if b then [] else record { tail = tail; count = count } ∷ []) in ps) (eq-eqb count 0 none)

-- an answer is read ahead as it came
pieces_in : (next : Option Piece) → ((p : Piece) → next ≡ Some p → 1 ≤ p.count) → pieces_of (tail_in next) (count_in next) ≡ option_to_list next
pieces_in None some = refl
pieces_in (Some p) some = pieces_some p.tail p.count (some p refl)

pub put_here : (old new : Fronts) (i : ℕ) (next : Option Piece) → IsPut old new i next → ((p : Piece) → next ≡ Some p → 1 ≤ p.count) →
    front_at new i ≡ option_to_list next
put_here old new i next is some = ap₂ (λ t c. pieces_of t c) is.tail is.count ∙ pieces_in next some

pub put_else : (old new : Fronts) (i k : ℕ) (next : Option Piece) → IsPut old new i next → k ≢ i → front_at new k ≡ front_at old k
put_else old new i k next is ne = ap₂ (λ t c. pieces_of t c) (is.tails k ne) (is.counts k ne)

-- behind what was read there is nothing
pub front_past : (fronts : Fronts) (k : ℕ) → length fronts.counts ≤ k → front_at fronts k ≡ []
front_past fronts k past = pieces_none (number_at fronts.tails k) (number_at fronts.counts k) (get_or_past fronts.counts k 0 past)
