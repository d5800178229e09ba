-- What a list contains, an item at a time, under a map and under a filter.
use Rattle.std.proofs.Common.{◌≡◌, ℕ, zero, suc, ◌<◌, Bool, true, List, [], ◌∷◌, ◌⊎◌, length, get_or, map, filter, sym, refl, ap, ◌∙◌, subst, inl, inr, ⊎_elim, arith}
use Rattle.std.proofs.lemmas.Bool.{cond_both, both_ways}
use Rattle.std.specs.Prelude.{Contains}

module _ {A : Type 0} where
  pub no_item : (a : A) → Contains [] a → ⊥
  no_item a c = omega (arith, c.1)

  pub item_here : (x : A) (xs : List A) → Contains (x ∷ xs) x
  item_here x xs = (0, omega arith, refl)

  pub item_behind : (x : A) (xs : List A) (a : A) → Contains xs a → Contains (x ∷ xs) a
  item_behind x xs a c = (suc c.0, (let h = c.1 in omega arith), c.2)

  cases_at : (x : A) (xs : List A) (a : A) (k : ℕ) → k < length (x ∷ xs) → get_or (x ∷ xs) k a ≡ a → (x ≡ a) ⊎ Contains xs a
  cases_at x xs a zero h e = inl e
  cases_at x xs a (suc k) h e = inr (k, omega arith, e)

  pub item_cases : (x : A) (xs : List A) (a : A) → Contains (x ∷ xs) a → (x ≡ a) ⊎ Contains xs a
  item_cases x xs a c = cases_at x xs a c.0 c.1 c.2

  module _ (test : A → Bool) where
    pub Contains-filter : (xs : List A) (a : A) → Contains xs a → test a ≡ true → Contains (filter test xs) a
    Contains-filter [] a c t = absurd (no_item a c)
    Contains-filter (x ∷ xs) a c t = cond_both (test x) (x ∷ filter test xs) (filter test xs) (λ (l : List A). Contains l a)
        (λ _. ⊎_elim (λ (same : x ≡ a). subst (λ (y : A). Contains (x ∷ filter test xs) y) same (item_here x (filter test xs)))
        (λ was. item_behind x (filter test xs) a (Contains-filter xs a was t)) (item_cases x xs a c))
        (λ fails. ⊎_elim (λ (same : x ≡ a). absurd (both_ways (test x) fails (ap test same ∙ t)))
        (λ was. Contains-filter xs a was t) (item_cases x xs a c))

    pub Contains-filter_back : (xs : List A) (a : A) → Contains (filter test xs) a → Contains xs a × (test a ≡ true)
    Contains-filter_back [] a c = absurd (no_item a c)
    Contains-filter_back (x ∷ xs) a c = cond_both (test x) (x ∷ filter test xs) (filter test xs)
        (λ (l : List A). Contains l a → Contains (x ∷ xs) a × (test a ≡ true))
        (λ passes c'. ⊎_elim (λ (same : x ≡ a). (
          subst (λ (y : A). Contains (x ∷ xs) y) same (item_here x xs),
          ap test
              (sym same) ∙ passes,
        ))
        (λ was. let t = Contains-filter_back xs a was in (item_behind x xs a t.0, t.1)) (item_cases x (filter test xs) a c'))
        (λ _ c'. let t = Contains-filter_back xs a c' in (item_behind x xs a t.0, t.1))
        c

pub Contains-map : {A B : Type 0} (f : A → B) (xs : List A) (a : A) → Contains xs a → Contains (map f xs) (f a)
Contains-map f [] a c = absurd (no_item a c)
Contains-map {A} {B} f (x ∷ xs) a c = ⊎_elim
    (λ (same : x ≡ a). subst (λ (y : B). Contains (f x ∷ map f xs) y) (ap f same) (item_here (f x) (map f xs)))
    (λ was. item_behind (f x) (map f xs) (f a) (Contains-map f xs a was)) (item_cases x xs a c)

pub Contains-map_back : {A B : Type 0} (f : A → B) (xs : List A) (b : B) → Contains (map f xs) b → (a : A)
    × Contains xs a × (f a ≡ b)
Contains-map_back f [] b c = absurd (no_item b c)
Contains-map_back {A} {B} f (x ∷ xs) b c = ⊎_elim
    (λ (same : f x ≡ b). (x, item_here x xs, same))
    (λ was. let t = Contains-map_back f xs b was in (t.0, item_behind x xs t.0 t.1, t.2)) (item_cases (f x) (map f xs) b c)
