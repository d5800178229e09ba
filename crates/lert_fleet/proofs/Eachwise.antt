-- Facts of three lists, place by place, with one element more in front or one less.
use Rattle.std.proofs.{Common.{◌≡◌, ℕ, suc, zero, List, [], ◌∷◌, Some, slice_get, refl, ap, subst, arith}, lemmas.Option.{same_Some, none-some}}
use Rattle.lert_fleet.specs.Each.{EachThree}

module _ {A B C : Type 0} (R : A → B → C → Type 0) where
  pub three_none : EachThree R [] [] []
  three_none = record { as_many = (refl, refl); each = λ place x y z is y_is z_is. absurd (none-some x is) }

  pub three_here : (x x' : A) (y y' : B) (z z' : C) → x ≡ x' → y ≡ y' → z ≡ z' → R x y z → R x' y' z'
  three_here x x' y y' z z' e f g is =
      subst (λ (c : C). R x' y' c) g (subst (λ (b : B). R x' b z) f (subst (λ (a : A). R a y z) e is))

  cons_at : (x : A) (y : B) (z : C) (xs : List A) (ys : List B) (zs : List C) → R x y z → EachThree R xs ys zs
      → (place : ℕ) (a : A) (b : B) (c : C) → slice_get (x ∷ xs) place ≡ Some a → slice_get (y ∷ ys) place ≡ Some b
      → slice_get (z ∷ zs) place ≡ Some c → R a b c
  cons_at x y z xs ys zs here rest zero a b c e f g =
      three_here x a y b z c (same_Some x a e) (same_Some y b f) (same_Some z c g) here
  cons_at x y z xs ys zs here rest (suc place) a b c e f g = rest.each place a b c e f g

  pub three_cons : (x : A) (y : B) (z : C) (xs : List A) (ys : List B) (zs : List C) → R x y z → EachThree R xs ys zs
      → EachThree R (x ∷ xs) (y ∷ ys) (z ∷ zs)
  three_cons x y z xs ys zs here rest = record { as_many = (ap suc rest.as_many.0, ap suc rest.as_many.1); each = cons_at x y z xs ys zs here rest }

  pub three_tail : (x : A) (y : B) (z : C) (xs : List A) (ys : List B) (zs : List C) → EachThree R (x ∷ xs) (y ∷ ys) (z ∷ zs)
      → EachThree R xs ys zs
  three_tail x y z xs ys zs all = record {
    as_many = (let seconds = all.as_many.0 in omega arith, let thirds = all.as_many.1 in omega arith);
    each = λ place. all.each (suc place);
  }
