-- How far a text agrees, and numbers read behind a part of a list.
use Rattle.std.proofs.{Common.{◌≡◌, ℕ, zero, suc, ◌+◌, ◌≤◌, List, [], ◌∷◌, length, drop, refl, ap, sym, ◌∙◌, add-suc}, Math.ListN.drop_of_length-le, lemmas.List.get_or-drop}
use Rattle.byteorder.specs.Endian.{little_from}
use Rattle.lert_spec.specs.Agreed.{agreed}

agreed-nil : (xs : List ℕ) → agreed xs [] ≡ 0
agreed-nil [] = refl
agreed-nil (x ∷ xs) = refl

-- behind the last byte nothing agrees
pub agreed-past : (xs ys : List ℕ) (i : ℕ) → length ys ≤ i → agreed xs (drop i ys) ≡ 0
agreed-past xs ys i past = ap (λ zs. agreed xs zs) (drop_of_length-le ys past) ∙ agreed-nil xs

-- a number read behind a part of a list is the number read from what is left of it
pub little_from-drop : (k i n : ℕ) (xs : List ℕ) → little_from (k + i) n xs ≡ little_from i n (drop k xs)
little_from-drop k i zero xs = refl
little_from-drop k i (suc n) xs =
    let byte = get_or-drop k xs i 0 in
    let rest : little_from (suc (k + i)) n xs ≡ little_from (suc i) n (drop k xs) =
    ap (λ m. little_from m n xs) (sym (add-suc k i)) ∙ little_from-drop k (suc i) n xs in
    rw (byte, rest) refl
