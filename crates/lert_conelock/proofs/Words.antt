-- The two words of a lock.
use Rattle.std.proofs.Common.{◌≡◌, ℕ, zero, suc, List, [], ◌∷◌, get_or, set, refl, ap}

-- a word that is stored as it was found
pub set_found : (l : List ℕ) (i d : ℕ) → set l i (get_or l i d) ≡ l
set_found [] i d = refl
set_found (x ∷ xs) zero d = refl
set_found (x ∷ xs) (suc i) d = ap (λ (l : List ℕ). x ∷ l) (set_found xs i d)
