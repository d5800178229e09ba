-- What `all` and `any` decide, where the test decides a fact of each element.
use Rattle.std.proofs.{Common.{ℕ, ◌<◌, Bool, true, false, List, [], ◌∷◌, length, get_or, Decides, MatchBool, refl, arith}, lemmas.Bool.false≢true}
use Rattle.std.proofs.{lemmas.Iterator.Search.{true_from_All, true_from_Any}, lemmas.List.Elements.{All-from_all_within, Contains-get_or}}
use Rattle.std.specs.List.{All, AllWithin, Any, HoldsAt}

pub Decides-from_all : {X : Type 0} (P : X → Type 0) (xs : List X) (r : Bool) →
    MatchBool r (AllWithin P xs 0 (length xs)) ((k : ℕ) × (k < length xs) × HoldsAt (λ x. ¬ P x) xs k) → Decides r (All P xs)
Decides-from_all P xs true h = (λ _. All-from_all_within P xs h, λ _. refl)
Decides-from_all P xs false h = (λ e. absurd (false≢true e), true_from_All P (λ x. ¬ P x) false xs (λ x p no. no p) h)

Any-from_at : {X : Type 0} (P : X → Type 0) (xs : List X) → (k : ℕ) × (k < length xs) × HoldsAt P xs k → Any P xs
Any-from_at P [] h = absurd (omega (arith, h.1))
Any-from_at P (x ∷ xs) h =
    let found = Contains-get_or (x ∷ xs) h.0 x h.1 in
    (found.0, get_or (x ∷ xs) h.0 x, found.1, found.2, h.2 x)

pub Decides-from_any : {X : Type 0} (P : X → Type 0) (xs : List X) (r : Bool) →
    MatchBool r ((k : ℕ) × (k < length xs) × HoldsAt P xs k) (AllWithin (λ x. ¬ P x) xs 0 (length xs)) → Decides r (Any P xs)
Decides-from_any P xs true h = (λ _. Any-from_at P xs h, λ _. refl)
Decides-from_any P xs false h = (
  λ e. absurd (false≢true e),
  λ w. true_from_Any P (λ x. ¬ P x) false xs (λ x p no. no p) h w.1 (w.0, w.2, w.3) w.4,
)
