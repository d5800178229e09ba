-- Two lists that are cut at one number and put together.
use Rattle.std.proofs.Common.{◌≡◌, ℕ, ◌<◌, ◌≤◌, Bool, true, false, cond, eqb, ltb, leb, List, [], ◌∷◌, ◌++◌, ◌⊎◌, filter, sym, refl, ap, ◌∙◌, inl, inr}
use Rattle.std.proofs.Common.{⊎_elim, arith, append-nil, lt-ltb, le-ltb, le-leb, eqb-true}
use Rattle.std.specs.Prelude.{Contains}
use Rattle.std.proofs.lemmas.Bool.{cond-true, cond-false, both_ways, lt-leb, cases_Bool}
use Rattle.std.proofs.lemmas.List.Elements.{filter-append, Contains-append_left, Contains-append_right, Contains-append_cases}
use Rattle.lert_conelock.specs.Shown.{both_sides}
use Rattle.lert_conelock.proofs.Contained.{Contains-filter, Contains-filter_back}

module _ {A : Type 0} (p q : A → Bool) where
  -- what passes the first test passes the second
  pub filter-filter_all : ((a : A) → p a ≡ true → q a ≡ true) → (xs : List A) → filter p (filter q xs) ≡ filter p xs
  filter-filter_all both [] = refl
  filter-filter_all both (x ∷ xs) = ⊎_elim
      (λ (kept : q x ≡ true). ap (filter p) (cond-true (q x) (x ∷ filter q xs) (filter q xs) kept)
      ∙ ap (λ (l : List A). cond (p x) (x ∷ l) l) (filter-filter_all both xs))
      (λ (left : q x ≡ false). ap (filter p) (cond-false (q x) (x ∷ filter q xs) (filter q xs) left)
      ∙ (filter-filter_all both xs ∙ sym (cond-false (p x) (x ∷ filter p xs) (filter p xs)
      (⊎_elim (λ (passed : p x ≡ true). absurd (both_ways (q x) left (both x passed)))
      (λ (failed : p x ≡ false). failed) (cases_Bool (p x))))))
      (cases_Bool (q x))

  -- what passes the first test fails the second
  pub filter-filter_none : ((a : A) → p a ≡ true → q a ≡ false) → (xs : List A) → filter p (filter q xs) ≡ []
  filter-filter_none apart [] = refl
  filter-filter_none apart (x ∷ xs) = ⊎_elim
      (λ (kept : q x ≡ true). ap (filter p) (cond-true (q x) (x ∷ filter q xs) (filter q xs) kept)
      ∙ (cond-false (p x) (x ∷ filter p (filter q xs)) (filter p (filter q xs))
      (⊎_elim (λ (passed : p x ≡ true). absurd (both_ways (q x) (apart x passed) kept))
      (λ (failed : p x ≡ false). failed) (cases_Bool (p x)))
      ∙ filter-filter_none apart xs))
      (λ (left : q x ≡ false). ap (filter p) (cond-false (q x) (x ∷ filter q xs) (filter q xs) left) ∙ filter-filter_none apart xs)
      (cases_Bool (q x))

module _ {A : Type 0} (number : A → ℕ) (at : ℕ) (low high : List A) where
  abbrev under : A → Bool
  under a = ltb (number a) at

  abbrev above : A → Bool
  above a = leb at (number a)

  module _ (n : ℕ) where
    abbrev has : A → Bool
    has a = eqb (number a) n

    has_is : (a : A) → has a ≡ true → number a ≡ n
    has_is a e = eqb-true (number a) n e

    joins : filter has (both_sides number at low high) ≡ filter has (filter under low) ++ filter has (filter above high)
    joins = filter-append has (filter under low) (filter above high)

    -- of a number below the cut, the low list decides
    pub joined_below : n < at → filter has (both_sides number at low high) ≡ filter has low
    joined_below h = joins
        ∙ (ap (λ (l : List A). filter has (filter under low) ++ l)
        (filter-filter_none has above (λ a e. let is = has_is a e in lt-leb at (number a) (omega arith)) high)
        ∙ (append-nil (filter has (filter under low)) ∙ filter-filter_all has under
        (λ a e. let is = has_is a e in lt-ltb (number a) at (omega arith)) low))

    -- and of any other, the high one
    pub joined_above : at ≤ n → filter has (both_sides number at low high) ≡ filter has high
    joined_above h = joins
        ∙ (ap (λ (l : List A). l ++ filter has (filter above high))
        (filter-filter_none has under (λ a e. let is = has_is a e in le-ltb (number a) at (omega arith)) low)
        ∙ filter-filter_all has above (λ a e. let is = has_is a e in le-leb at (number a) (omega arith)) high)

  pub Contains-low : (a : A) → number a < at → Contains low a → Contains (both_sides number at low high) a
  Contains-low a h c = Contains-append_left (filter under low) (filter above high) a
      (Contains-filter under low a c (lt-ltb (number a) at h))

  pub Contains-high : (a : A) → at ≤ number a → Contains high a → Contains (both_sides number at low high) a
  Contains-high a h c = Contains-append_right (filter under low) (filter above high) a
      (Contains-filter above high a c (le-leb at (number a) h))

  pub Contains-both_sides : (a : A) → Contains (both_sides number at low high) a → Contains low a ⊎ Contains high a
  Contains-both_sides a c = ⊎_elim (λ l. inl (Contains-filter_back under low a l).0)
      (λ r. inr (Contains-filter_back above high a r).0)
      (Contains-append_cases (filter under low) (filter above high) a c)
