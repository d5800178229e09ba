-- Elements of lists that are put back where they stood, that are left behind a number, and that are poured behind another list.
use Rattle.std.proofs.Common.{◌≡◌, ℕ, ◌+◌, ◌≤◌, zero, suc, List, [], ◌∷◌, ◌++◌, length, set, get_or, drop, Some, slice_get, refl, ap, sym, ◌∙◌, arith, length-append, append_assoc}

-- a list in which what stands there is put there
pub set_back : {A : Type 0} (xs : List A) (n : ℕ) (d x : A) → x ≡ get_or xs n d → set xs n x ≡ xs
set_back [] n d x is = refl
set_back (y ∷ xs) zero d x is = ap (λ z. z ∷ xs) is
set_back (y ∷ xs) (suc n) d x is = ap (λ zs. y ∷ zs) (set_back xs n d x is)

-- the next of what is left of a list
pub given_there : {A : Type 0} (n : ℕ) (xs : List A) (x : A) (rest : List A) → drop n xs ≡ x ∷ rest → slice_get xs n ≡ Some x
given_there zero [] x rest is = absurd (let c = is in cc)
given_there zero (y ∷ xs) x rest is = (let t : y ≡ x = cc in ap Some t)
given_there (suc n) [] x rest is = absurd (let c = is in cc)
given_there (suc n) (y ∷ xs) x rest is = given_there n xs x rest is

pub rest_is : {A : Type 0} (n : ℕ) (xs : List A) (x : A) (rest : List A) → drop n xs ≡ x ∷ rest → rest ≡ drop (suc n) xs
rest_is zero [] x rest e = absurd (let c = e in cc)
rest_is zero (y ∷ xs) x rest e = (let t : xs ≡ rest = cc in sym t)
rest_is (suc n) [] x rest e = absurd (let c = e in cc)
rest_is (suc n) (y ∷ xs) x rest e = rest_is n xs x rest e

pub given_rest : {A : Type 0} (n : ℕ) (xs : List A) (x : A) (rest : List A) → drop n xs ≡ x ∷ rest → rest ≡ drop (n + 1) xs
given_rest n xs x rest is = rest_is n xs x rest is ∙ ap (λ k. drop k xs) (let e : suc n ≡ n + 1 = omega arith in e)

-- one element of a list that is poured behind another one
module _ {A : Type 0} (xs ys more rest : List A) (y : A) (pushed : more ≡ xs ++ y ∷ []) (popped : ys ≡ y ∷ rest) where
  pub poured : more ++ rest ≡ xs ++ ys
  poured = ap (λ zs. zs ++ rest) pushed ∙ (append_assoc xs (y ∷ []) rest ∙ ap (λ zs. xs ++ zs) (sym popped))

  pub still_room : (capacity next : ℕ) → next ≡ capacity → length xs + length ys ≤ capacity → length more + length rest ≤ next
  still_room capacity next same room =
      let all = ap (λ (zs : List A). length zs) poured in
      let one = length-append xs ys in
      let two = length-append more rest in
      omega (arith, all, one, two, same, room)
