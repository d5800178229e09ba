-- How many bytes two texts have in common, from the front on.
use Rattle.std.proofs.Common.{◌≡◌, ℕ, suc, ◌≤◌, true, false, eqb, cond, List, [], ◌∷◌, ◌++◌, length, refl, ap, arith}
use Rattle.lert_spec.specs.Agreed.{agreed}

pub agreed-le_text : (xs ys : List ℕ) → agreed xs ys ≤ length xs
agreed-le_text [] ys = omega arith
agreed-le_text (x ∷ xs) [] = omega arith
agreed-le_text (x ∷ xs) (y ∷ ys) =
    elim (eqb x y) as (λ b. cond b (suc (agreed xs ys)) 0 ≤ suc (length xs)) [
      | true ↦ omega (arith, agreed-le_text xs ys)
      | false ↦ omega arith
    ]

pub agreed-le_bytes : (xs ys : List ℕ) → agreed xs ys ≤ length ys
agreed-le_bytes [] ys = omega arith
agreed-le_bytes (x ∷ xs) [] = omega arith
agreed-le_bytes (x ∷ xs) (y ∷ ys) =
    elim (eqb x y) as (λ b. cond b (suc (agreed xs ys)) 0 ≤ suc (length ys)) [
      | true ↦ omega (arith, agreed-le_bytes xs ys)
      | false ↦ omega arith
    ]

-- bytes past the text's length change nothing
pub agreed-append : (xs ys zs : List ℕ) → length xs ≤ length ys → agreed xs (ys ++ zs) ≡ agreed xs ys
agreed-append [] ys zs h = refl
agreed-append (x ∷ xs) [] zs h = absurd (omega (arith, h))
agreed-append (x ∷ xs) (y ∷ ys) zs h =
    ap (λ n. cond (eqb x y) (suc n) 0) (agreed-append xs ys zs (omega (arith, h)))
