-- The streams of a list, by their places.
use Rattle.std.proofs.Common.{ℕ, zero, suc, ◌≡◌, ◌<◌, ◌++◌, ◌↔◌, Option, Some, None, List, [], ◌∷◌, length, map, get_or, arith}
use Rattle.lert_spec.specs.{declared.piece.Piece.Piece, Table.AreGiven}

-- what is to come of the stream at a place
abbrev pub told_at : {P C : Type 0} → (P → C → Option (List Piece)) → List P → ℕ → C → Option (List Piece)
told_at to_come streams k ctx = get_or (map (λ stream. to_come stream ctx) streams) k None

-- what it gave
abbrev pub given_at : {P : Type 0} → (P → List Piece) → List P → ℕ → List Piece
given_at given streams k = get_or (map given streams) k []

-- its tails are below this
abbrev pub limit_at : {P : Type 0} → (P → ℕ) → List P → ℕ → ℕ
limit_at limit streams k = get_or (map limit streams) k 0

-- it leaves its format at this byte
abbrev pub BreaksAt : {P C : Type 0} → (P → C → ℕ → Type 0) → List P → ℕ → C → ℕ → Type 0
BreaksAt breaks [] k ctx at = ⊥
BreaksAt breaks (stream ∷ streams) zero ctx at = breaks stream ctx at
BreaksAt breaks (stream ∷ streams) (suc k) ctx at = BreaksAt breaks streams k ctx at

-- what is so of each stream is so of the one at a place
pub at_in_order : {P C : Type 0} (to_come : P → C → Option (List Piece)) (given : P → List Piece) (limit : P → ℕ) →
    ((stream : P) (ctx : C) (pieces : List Piece) → to_come stream ctx ≡ Some pieces → AreGiven (limit stream) (given stream ++ pieces)) →
    (streams : List P) (k : ℕ) (ctx : C) (pieces : List Piece) → k < length streams → told_at to_come streams k ctx ≡ Some pieces →
    AreGiven (limit_at limit streams k) (given_at given streams k ++ pieces)
at_in_order to_come given limit law [] k ctx pieces within told = absurd (omega arith)
at_in_order to_come given limit law (stream ∷ streams) zero ctx pieces within told = law stream ctx pieces told
at_in_order to_come given limit law (stream ∷ streams) (suc k) ctx pieces within told =
    at_in_order to_come given limit law streams k ctx pieces (omega arith) told

pub at_told : {P C : Type 0} (to_come : P → C → Option (List Piece)) (keeps : C → C → Type 0) →
    ((stream : P) (a b : C) (ps : List Piece) → keeps a b → to_come stream a ≡ Some ps → to_come stream b ≡ Some ps) →
    (streams : List P) (k : ℕ) (a b : C) (ps : List Piece) → keeps a b → told_at to_come streams k a ≡ Some ps → told_at to_come streams k b ≡ Some ps
at_told to_come keeps law [] k a b ps kept told = told
at_told to_come keeps law (stream ∷ streams) zero a b ps kept told = law stream a b ps kept told
at_told to_come keeps law (stream ∷ streams) (suc k) a b ps kept told = at_told to_come keeps law streams k a b ps kept told

pub at_untold : {P C : Type 0} (to_come : P → C → Option (List Piece)) (keeps : C → C → Type 0) →
    ((stream : P) (a b : C) → keeps a b → to_come stream a ≡ None → to_come stream b ≡ None) →
    (streams : List P) (k : ℕ) (a b : C) → keeps a b → told_at to_come streams k a ≡ None → told_at to_come streams k b ≡ None
at_untold to_come keeps law [] k a b kept none = none
at_untold to_come keeps law (stream ∷ streams) zero a b kept none = law stream a b kept none
at_untold to_come keeps law (stream ∷ streams) (suc k) a b kept none = at_untold to_come keeps law streams k a b kept none

pub at_breaks : {P C : Type 0} (breaks : P → C → ℕ → Type 0) (keeps : C → C → Type 0) →
    ((stream : P) (a b : C) (at : ℕ) → keeps a b → (breaks stream b at ↔ breaks stream a at)) →
    (streams : List P) (k : ℕ) (a b : C) (at : ℕ) → keeps a b → (BreaksAt breaks streams k b at ↔ BreaksAt breaks streams k a at)
at_breaks breaks keeps law [] k a b at kept = ((λ no. no), (λ no. no))
at_breaks breaks keeps law (stream ∷ streams) zero a b at kept = law stream a b at kept
at_breaks breaks keeps law (stream ∷ streams) (suc k) a b at kept = at_breaks breaks keeps law streams k a b at kept
