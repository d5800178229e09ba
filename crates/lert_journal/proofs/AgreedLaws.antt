-- How many bytes a file has in common with those that begin it.
use Rattle.std.proofs.{Common.{ℕ, zero, suc, ◌≡◌, ◌≤◌, ◌==◌, cond, List, [], ◌∷◌, length, take, refl, ap, ap₂, sym, ◌∙◌, arith, inl, inr}, lemmas.Bool.{cases_Bool, eq-eqb, eqb-true}}
use Rattle.lert_spec.specs.Agreed.{agreed}

-- bytes behind the text change nothing
pub agreed_front : (text bytes : List ℕ) (n : ℕ) → length text ≤ n → agreed text (take n bytes) ≡ agreed text bytes
agreed_front [] bytes n enough = refl
agreed_front (x ∷ text) bytes zero enough = absurd (omega (arith, enough))
agreed_front (x ∷ text) [] (suc n) enough = refl
agreed_front (x ∷ text) (y ∷ bytes) (suc n) enough = ap (λ rest. cond (x == y) (suc rest) 0) (agreed_front text bytes n (omega (arith, enough)))

-- bytes that begin with the text have all of it in common
pub agreed_whole : (text bytes : List ℕ) → take (length text) bytes ≡ text → agreed text bytes ≡ length text
agreed_whole [] bytes same = refl
agreed_whole (x ∷ text) [] same = absurd (omega (arith, ap (length {A = ℕ}) same))
agreed_whole (x ∷ text) (y ∷ bytes) same =
    let first : x ≡ y = cc in
    let rest : take (length text) bytes ≡ text = cc in
    ap (λ t. cond t (suc (agreed text bytes)) 0) (eq-eqb x y first) ∙ ap suc (agreed_whole text bytes rest)

-- and only they
pub agreed_all : (text bytes : List ℕ) → length text ≤ agreed text bytes → take (length text) bytes ≡ text
agreed_all [] bytes all = refl
agreed_all (x ∷ text) [] all = absurd (omega (arith, all))
agreed_all (x ∷ text) (y ∷ bytes) all =
    elim (cases_Bool (x == y)) [
      | inl same ↦ ap₂ (λ h t. h ∷ t) (sym (eqb-true x y same)) (agreed_all text bytes (omega (arith, all, ap (λ t. cond t (suc (agreed text bytes)) 0) same)))
      | inr other ↦ absurd (omega (arith, all, ap (λ t. cond t (suc (agreed text bytes)) 0) other))
    ]
