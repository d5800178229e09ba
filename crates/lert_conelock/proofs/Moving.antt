-- What callers did to a lock, as lists.
use Rattle.std.proofs.Common.{◌≡◌, ◌≢◌, ℕ, zero, suc, ◌+◌, ◌<◌, ◌≤◌, eqb, List, [], ◌∷◌, ◌++◌, length, filter, replicate, Option, Some, None, sym, refl, ap, ◌∙◌, subst, arith, append-nil}
use Rattle.std.proofs.Common.{append_assoc, length-append, ne_eqb, eq-eqb}
use Rattle.std.proofs.{lemmas.Bool.{cond-true, cond-false}, lemmas.List.replicate-append-replicate, lemmas.List.Elements.filter-append}
use Rattle.std.specs.Prelude.{sum_by}
use Rattle.lert_conelock.specs.{Prefix.IsPrefix, Moves.{Move, Take, Free, Miss, mover, own_moves, held_next, held_after, MayCome, AreOrderly, Moves, waits_and_takes}}
use Rattle.lert_conelock.proofs.Prefixes.{prefix_append, prefix_trans}

-- who has the lock behind one move more
pub held_more : (who : Option ℕ) (moves : List Move) (m : Move) → held_after who (moves ++ m ∷ []) ≡ held_next (held_after who moves) m
held_more who [] m = refl
held_more who (x ∷ moves) m = held_more (held_next who x) moves m

pub orderly_more : (who : Option ℕ) (moves : List Move) (m : Move) → AreOrderly who moves → MayCome (held_after who moves) m
    → AreOrderly who (moves ++ m ∷ [])
orderly_more who [] m orderly may = (may, tt)
orderly_more who (x ∷ moves) m orderly may = (orderly.0, orderly_more (held_next who x) moves m orderly.1 may)

-- a move of a number is one of its own, and none of another's
pub own_mine : (moves : List Move) (m : Move) (n : ℕ) → mover m ≡ n → own_moves (moves ++ m ∷ []) n ≡ own_moves moves n ++ m ∷ []
own_mine moves m n is = filter-append (λ (d : Move). eqb (mover d) n) moves (m ∷ [])
    ∙ ap (λ (l : List Move). own_moves moves n ++ l) (cond-true (eqb (mover m) n) (m ∷ []) [] (eq-eqb (mover m) n is))

pub own_others : (moves : List Move) (m : Move) (n : ℕ) → (mover m ≡ n → ⊥) → own_moves (moves ++ m ∷ []) n ≡ own_moves moves n
own_others moves m n ne = filter-append (λ (d : Move). eqb (mover d) n) moves (m ∷ [])
    ∙ (ap (λ (l : List Move). own_moves moves n ++ l) (cond-false (eqb (mover m) n) (m ∷ []) [] (ne_eqb (mover m) n ne))
    ∙ append-nil (own_moves moves n))

no_more : {A : Type 0} (xs ys : List A) → xs ≡ xs ++ ys → ys ≡ []
no_more xs [] is = refl
no_more xs (y ∷ ys) is = absurd (omega (arith, ap length is, length-append xs (y ∷ ys)))

front_none : {A : Type 0} (xs ys : List A) → xs ++ ys ≡ [] → ys ≡ []
front_none [] ys is = is
front_none (x ∷ xs) ys is = absurd (omega (arith, ap (length {A = _}) is))

-- a list between two that have the same moves of a number has them too
pub own_between : (xs ys zs : List Move) (n : ℕ) → IsPrefix xs ys → IsPrefix ys zs → own_moves xs n ≡ own_moves zs n
    → own_moves ys n ≡ own_moves zs n
own_between xs ys zs n a b same =
    let p : Move → _ = λ (d : Move). eqb (mover d) n in
    let to_ys : own_moves ys n ≡ own_moves xs n ++ own_moves a.rest n = ap (filter p) a.splits ∙ filter-append p xs a.rest in
    let to_zs : own_moves zs n ≡ own_moves ys n ++ own_moves b.rest n = ap (filter p) b.splits ∙ filter-append p ys b.rest in
    let all : own_moves xs n ≡ own_moves xs n ++ (own_moves a.rest n ++ own_moves b.rest n) =
    same ∙ (to_zs ∙ (ap (λ (l : List Move). l ++ own_moves b.rest n) to_ys ∙ append_assoc (own_moves xs n) (own_moves a.rest n) (own_moves b.rest n))) in
    let none : own_moves b.rest n ≡ [] = front_none (own_moves a.rest n) (own_moves b.rest n)
    (no_more (own_moves xs n) (own_moves a.rest n ++ own_moves b.rest n) all) in
    sym (to_zs ∙ (ap (λ (l : List Move). own_moves ys n ++ l) none ∙ append-nil (own_moves ys n)))

-- what a step adds is behind what was added before
pub moves_on : (n : ℕ) (old mid new xs ys : List Move) → IsPrefix old mid → own_moves mid n ≡ own_moves old n ++ xs → Moves n mid ys new
    → Moves n old (xs ++ ys) new
moves_on n old mid new xs ys begins own next = record {
  begins = prefix_trans begins next.begins;
  orderly = next.orderly;
  own = next.own ∙ (ap (λ (l : List Move). l ++ ys) own ∙ append_assoc (own_moves old n) xs ys);
}

-- one miss more
pub misses_on : (n hi lost : ℕ) (old mid new : List Move) → own_moves mid n ≡ own_moves old n ++ replicate lost (Miss n hi)
    → own_moves new n ≡ own_moves mid n ++ Miss n hi ∷ [] → own_moves new n ≡ own_moves old n ++ replicate (lost + 1) (Miss n hi)
misses_on n hi lost old mid new was now = now ∙ (ap (λ (l : List Move). l ++ Miss n hi ∷ []) was
    ∙ (append_assoc (own_moves old n) (replicate lost (Miss n hi)) (Miss n hi ∷ [])
    ∙ ap (λ (l : List Move). own_moves old n ++ l) (replicate-append-replicate lost 1 (Miss n hi))))
