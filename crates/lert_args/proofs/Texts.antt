-- Texts that are equal, and two truths in one.
use Rattle.std.proofs.{Common.{◌≡◌, ℕ, Bool, true, false, ◌&&◌, not, List, [], ◌∷◌, refl, sym, ap₂, true≢false, arith}, lemmas.Bool.eqb-true}
use Rattle.std.specs.{Prelude.◌==◌, Str.bytes_eq}

pub both : (a b : Bool) → (a && b) ≡ true → (a ≡ true) × (b ≡ true)
both true b is = (refl, is)
both false b is = absurd (true≢false (sym is))

pub is_not : (a : Bool) → not a ≡ true → a ≡ false
is_not true is = absurd (true≢false (sym is))
is_not false is = refl

same_number : (n : ℕ) → (n == n) ≡ true
same_number n = grind arith

number_swap : (m n : ℕ) → (m == n) ≡ (n == m)
number_swap m n = grind arith

pub same_text : (text : List ℕ) → bytes_eq text text ≡ true
same_text [] = refl
same_text (byte ∷ bytes) = ap₂ (λ a b. a && b) (same_number byte) (same_text bytes)

pub text_swap : (a b : List ℕ) → bytes_eq a b ≡ bytes_eq b a
text_swap [] [] = refl
text_swap [] (x ∷ b) = refl
text_swap (x ∷ a) [] = refl
text_swap (x ∷ a) (y ∷ b) = ap₂ (λ p q. p && q) (number_swap x y) (text_swap a b)

pub equal_texts : (a b : List ℕ) → bytes_eq a b ≡ true → a ≡ b
equal_texts [] [] is = refl
equal_texts [] (x ∷ b) is = absurd (true≢false (sym is))
equal_texts (x ∷ a) [] is = absurd (true≢false (sym is))
equal_texts (x ∷ a) (y ∷ b) is =
    let parts = both (x == y) (bytes_eq a b) is in
    ap₂ (λ n ns. n ∷ ns) (eqb-true x y parts.0) (equal_texts a b parts.1)
