-- A list of streams after one of them was asked.
use Rattle.std.proofs.Common.{ℕ, zero, suc, ◌≡◌, ◌≢◌, ◌<◌, ◌↔◌, Option, Some, None, MatchOption, IfOk, Result, List, [], ◌∷◌, length, map, set, get_or, arith}
use Rattle.std.proofs.Common.{sym, ap, ◌∙◌, refl, subst, get_or-set_same, get_or-set_other, length-set}
use Rattle.std.proofs.lemmas.List.{get_or-map, map-set}
use Rattle.lert_base.specs.declared.pieces.PieceFault.{PieceFault}
use Rattle.lert_spec.specs.declared.piece.Piece.{Piece}
use Rattle.lert_merge.specs.order.Members.{told_at, given_at, limit_at, BreaksAt}
use Rattle.lert_merge.specs.order.Untouched.{IsUntouched}

-- what is read of the stream at a place, before, where the list is seen as another, and after
pub at_old : {P X : Type 0} (f : P → X) (e : X) (streams seen : List P) (i : ℕ) (old : P) → streams ≡ seen → i < length seen → old ≡ get_or streams i old →
    get_or (map f seen) i e ≡ f old
at_old {P} f e streams seen i old is within at = let here : old ≡ get_or seen i old = subst (λ (xs : List P). old ≡ get_or xs i old) is at in
    get_or-map f seen i old e within ∙ ap f (sym here)

pub at_new : {P X : Type 0} (f : P → X) (e : X) (streams seen : List P) (i : ℕ) (new : P) → streams ≡ seen → i < length seen →
    get_or (map f (set streams i new)) i e ≡ f new
at_new f e streams seen i new is within = let long : length (set streams i new) ≡ length streams = length-set streams i new in
    let as_long : length streams ≡ length seen = ap length is in
    get_or-map f (set streams i new) i new e (omega arith) ∙ ap f (get_or-set_same streams i new new (omega arith))

-- and of another one
at_else : {P X : Type 0} (f : P → X) (e : X) (streams : List P) (i k : ℕ) (new : P) → k ≢ i → get_or (map f (set streams i new)) k e ≡ get_or (map f streams) k e
at_else f e streams i k new ne = ap (λ xs. get_or xs k e) (map-set f streams i new) ∙ get_or-set_other (map f streams) i k (f new) e ne

breaks_old : {P C : Type 0} (breaks : P → C → ℕ → Type 0) (streams : List P) (i : ℕ) (old : P) (ctx : C) (at : ℕ) → i < length streams → old ≡ get_or streams i old →
    BreaksAt breaks streams i ctx at ↔ breaks old ctx at
breaks_old breaks [] i old ctx at within is = absurd (omega arith)
breaks_old {P} breaks (s ∷ streams) zero old ctx at within is = ((λ x. subst (λ (s : P). breaks s ctx at) (sym is) x), (λ x. subst (λ (s : P). breaks s ctx at) is x))
breaks_old breaks (s ∷ streams) (suc i) old ctx at within is = breaks_old breaks streams i old ctx at (omega arith) is

breaks_new : {P C : Type 0} (breaks : P → C → ℕ → Type 0) (streams : List P) (i : ℕ) (new : P) (ctx : C) (at : ℕ) → i < length streams →
    BreaksAt breaks (set streams i new) i ctx at ↔ breaks new ctx at
breaks_new breaks [] i new ctx at within = absurd (omega arith)
breaks_new breaks (s ∷ streams) zero new ctx at within = ((λ x. x), (λ x. x))
breaks_new breaks (s ∷ streams) (suc i) new ctx at within = breaks_new breaks streams i new ctx at (omega arith)

breaks_else : {P C : Type 0} (breaks : P → C → ℕ → Type 0) (streams : List P) (i k : ℕ) (new : P) (ctx : C) (at : ℕ) → k ≢ i →
    BreaksAt breaks (set streams i new) k ctx at ↔ BreaksAt breaks streams k ctx at
breaks_else breaks [] i k new ctx at ne = ((λ x. x), (λ x. x))
breaks_else breaks (s ∷ streams) zero zero new ctx at ne = absurd (ne refl)
breaks_else breaks (s ∷ streams) zero (suc k) new ctx at ne = ((λ x. x), (λ x. x))
breaks_else breaks (s ∷ streams) (suc i) zero new ctx at ne = ((λ x. x), (λ x. x))
breaks_else breaks (s ∷ streams) (suc i) (suc k) new ctx at ne = breaks_else breaks streams i k new ctx at (λ same. ne (ap suc same))

-- the stream that was asked leaves its format where it did
pub same_breaks : {P C : Type 0} (breaks : P → C → ℕ → Type 0) (streams seen : List P) (i : ℕ) (old new : P) (a b : C) (at : ℕ) → streams ≡ seen → i < length seen →
    old ≡ get_or streams i old → (breaks new b at ↔ breaks old a at) → BreaksAt breaks (set streams i new) i b at ↔ BreaksAt breaks seen i a at
same_breaks {P} breaks streams seen i old new a b at is within here same = let as_long : length streams ≡ length seen = ap length is in
    let inside : i < length streams = omega arith in
    subst (λ (xs : List P). BreaksAt breaks (set streams i new) i b at ↔ BreaksAt breaks xs i a at) is (
      (λ x. (breaks_old breaks streams i old a at inside here).1 (same.0 ((breaks_new breaks streams i new b at inside).0 x))),
      (λ x. (breaks_new breaks streams i new b at inside).1 (same.1 ((breaks_old breaks streams i old a at inside here).0 x))),
    )

pub breaks_here : {P C : Type 0} (breaks : P → C → ℕ → Type 0) (streams seen : List P) (i : ℕ) (old : P) (ctx : C) (at : ℕ) → streams ≡ seen → i < length seen →
    old ≡ get_or streams i old → breaks old ctx at → BreaksAt breaks seen i ctx at
breaks_here {P} breaks streams seen i old ctx at is within here it =
    (breaks_old breaks seen i old ctx at within (subst (λ (xs : List P). old ≡ get_or xs i old) is here)).1 it

-- the others are as they were
pub others_stay : {P C : Type 0} (to_come : P → C → Option (List Piece)) (given : P → List Piece) (limit : P → ℕ) (breaks : P → C → ℕ → Type 0)
    (streams seen : List P) (i k : ℕ) (new : P) → streams ≡ seen → k ≢ i →
    IsUntouched (told_at to_come) (given_at given) (limit_at limit) (BreaksAt breaks) seen (set streams i new) k
others_stay {P} to_come given limit breaks streams seen i k new is ne =
    subst (λ (xs : List P). IsUntouched (told_at to_come) (given_at given) (limit_at limit) (BreaksAt breaks) xs (set streams i new) k) is (record {
      coming = λ ctx. at_else (λ stream. to_come stream ctx) None streams i k new ne;
      pieces = at_else given [] streams i k new ne;
      limits = at_else limit 0 streams i k new ne;
      breaking = λ ctx at. breaks_else breaks streams i k new ctx at ne;
    })

-- an answer tells what is to come as it is read of the list
pub told_turned : (result : Result (Option Piece) PieceFault) (ps : List Piece) (read own : Option (List Piece)) → read ≡ own →
    IfOk result (λ piece. MatchOption piece ((ps ≡ []) × (own ≡ Some [])) (λ p. (rest : List Piece) × (ps ≡ p ∷ rest) × (own ≡ Some rest))) →
    IfOk result (λ piece. MatchOption piece ((ps ≡ []) × (read ≡ Some [])) (λ p. (rest : List Piece) × (ps ≡ p ∷ rest) × (read ≡ Some rest)))
told_turned result ps read own is told = subst (λ (o : Option (List Piece)). IfOk result (λ piece. MatchOption piece ((ps ≡ []) × (o ≡ Some []))
    (λ p. (rest : List Piece) × (ps ≡ p ∷ rest) × (o ≡ Some rest)))) (sym is) told
