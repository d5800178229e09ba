-- The first broken one of several fields.
use Rattle.std.proofs.Common.{◌≡◌, ℕ, zero, suc, ◌+◌, ◌<◌, ◌≤◌, ◌||◌, not, length, Bool, true, false, cond, Option, Some, None, List, [], ◌∷◌, ◌++◌, refl, ap, ap₂, sym, ◌∙◌, subst, arith, inl, inr}
use Rattle.std.proofs.{lemmas.Bool.{cases_Bool, cases_lt, true≢false, ltb-false, le-ltb, or_right, not_from_false}, lemmas.Option.none-some}
use Rattle.std.specs.{Prelude.{flat_map, find, option_map, nat_lt}, List.range_with_len}
use Rattle.lert_reports.specs.LogText.{Field, is_broken, left_at}

module _ (payload : List ℕ) where
  -- a broken field decides, and one that isn't leaves it to the others
  pub broken : (field : Field) (others : List Field) → is_broken payload field ≡ true → left_at payload (field ∷ others) ≡ Some field.place
  unfolding left_at
  broken field others is = ap (λ (b : Bool). option_map (λ f. f.place) (cond b (Some field) (find (is_broken payload) others))) is

  pub kept : (field : Field) (others : List Field) (found : Option ℕ) → is_broken payload field ≡ false → left_at payload others ≡ found → left_at payload (field ∷ others) ≡ found
  unfolding left_at
  kept field others found is rest = ap (λ (b : Bool). option_map (λ f. f.place) (cond b (Some field) (find (is_broken payload) others))) is ∙ rest

  -- a field that isn't broken is wholly there
  pub whole : (field : Field) → is_broken payload field ≡ false → field.place + field.size ≤ length payload
  whole field good =
      elim (cases_Bool (nat_lt (length payload) (field.place + field.size))) [
        | inl short ↦ absurd (true≢false (sym (ap (λ b. b || not field.keeps) short) ∙ good))
        | inr long ↦ ltb-false (length payload) (field.place + field.size) long
      ]

  -- and a field that is wholly there and keeps its rule isn't broken
  pub good : (field : Field) → field.place + field.size ≤ length payload → field.keeps ≡ true → is_broken payload field ≡ false
  good field there keeps = ap₂ (λ short kept. short || not kept) (le-ltb (length payload) (field.place + field.size) there) keeps

  pub none_left : left_at payload [] ≡ None
  unfolding left_at
  none_left = refl

  pub stops : (fields others : List Field) (place : ℕ) → left_at payload fields ≡ Some place → left_at payload (fields ++ others) ≡ Some place
  stops [] others place is = absurd (none-some place (sym none_left ∙ is))
  stops (field ∷ fields) others place is =
      elim (cases_Bool (is_broken payload field)) [
        | inl bad ↦ broken field (fields ++ others) bad ∙ (sym (broken field fields bad) ∙ is)
        | inr good ↦ kept field (fields ++ others) (Some place) good (stops fields others place (sym (kept field fields (left_at payload fields) good refl) ∙ is))
      ]

  pub goes_on : (fields others : List Field) (found : Option ℕ) → left_at payload fields ≡ None → left_at payload others ≡ found → left_at payload (fields ++ others) ≡ found
  goes_on [] others found none is = is
  goes_on (field ∷ fields) others found none is =
      elim (cases_Bool (is_broken payload field)) [
        | inl bad ↦ absurd (none-some field.place (sym none ∙ broken field fields bad))
        | inr good ↦ kept field (fields ++ others) found good (goes_on fields others found (sym (kept field fields (left_at payload fields) good refl) ∙ none) is)
      ]

  -- where none of some fields is broken, none of the first is and none of the others
  pub parted : (fields others : List Field) → left_at payload (fields ++ others) ≡ None → left_at payload fields ≡ None × left_at payload others ≡ None
  parted [] others none = (none_left, none)
  parted (field ∷ fields) others none =
      elim (cases_Bool (is_broken payload field)) [
        | inl bad ↦ absurd (none-some field.place (sym none ∙ broken field (fields ++ others) bad))
        | inr good ↦ (
            let rest = parted fields others (sym (kept field (fields ++ others) (left_at payload (fields ++ others)) good refl) ∙ none) in
            (kept field fields None good rest.0, rest.1))
      ]

  pub first_kept : (field : Field) (others : List Field) → left_at payload (field ∷ others) ≡ None → (is_broken payload field ≡ false) × (left_at payload others ≡ None)
  first_kept field others none =
      elim (cases_Bool (is_broken payload field)) [
        | inl bad ↦ absurd (none-some field.place (sym none ∙ broken field others bad))
        | inr good ↦ (good, sym (kept field others (left_at payload others) good refl) ∙ none)
      ]

  pub keeps_rule : (field : Field) → is_broken payload field ≡ false → field.keeps ≡ true
  keeps_rule field good =
      elim (cases_Bool field.keeps) [
        | inl kept ↦ kept
        | inr breaks ↦ absurd (true≢false (sym (or_right (nat_lt (length payload) (field.place + field.size)) (not field.keeps) (not_from_false field.keeps breaks)) ∙ good))
      ]

  -- what decides among the first fields of several lists, one for each number, or else among the next
  module _ (fields_of : ℕ → List Field) where
    pub one_more : (n from : ℕ) → left_at payload (flat_map fields_of (range_with_len from n)) ≡ None → left_at payload (fields_of (from + n)) ≡ None →
        left_at payload (flat_map fields_of (range_with_len from (suc n))) ≡ None
    one_more zero from none here = goes_on (fields_of from) [] None (subst (λ k. left_at payload (fields_of k) ≡ None) (let same : from + 0 ≡ from = omega arith in same) here) none_left
    one_more (suc n) from none here =
        let parts = parted (fields_of from) (flat_map fields_of (range_with_len (from + 1) n)) none in
        let next : from + suc n ≡ from + 1 + n = omega arith in
        goes_on (fields_of from) (flat_map fields_of (range_with_len (from + 1) (suc n))) None parts.0
        (one_more n (from + 1) parts.1 (subst (λ k. left_at payload (fields_of k) ≡ None) next here))

    pub first_of : (n total from place : ℕ) → n < total → left_at payload (flat_map fields_of (range_with_len from n)) ≡ None → left_at payload (fields_of (from + n)) ≡ Some place →
        left_at payload (flat_map fields_of (range_with_len from total)) ≡ Some place
    first_of n zero from place less none here = absurd (omega (arith, less))
    first_of zero (suc total) from place less none here =
        stops (fields_of from) (flat_map fields_of (range_with_len (from + 1) total)) place
        (subst (λ k. left_at payload (fields_of k) ≡ Some place) (let same : from + 0 ≡ from = omega arith in same) here)
    first_of (suc n) (suc total) from place less none here =
        let parts = parted (fields_of from) (flat_map fields_of (range_with_len (from + 1) n)) none in
        let next : from + suc n ≡ from + 1 + n = omega arith in
        goes_on (fields_of from) (flat_map fields_of (range_with_len (from + 1) total)) (Some place) parts.0
        (first_of n total (from + 1) place (omega (arith, less)) parts.1 (subst (λ k. left_at payload (fields_of k) ≡ Some place) next here))

    -- none of several lists decides, where none of each does
    pub none_of : (n from : ℕ) → ((k : ℕ) → from ≤ k → k < from + n → left_at payload (fields_of k) ≡ None) →
        left_at payload (flat_map fields_of (range_with_len from n)) ≡ None
    none_of zero from each = none_left
    none_of (suc n) from each =
        goes_on (fields_of from) (flat_map fields_of (range_with_len (from + 1) n)) None
        (each from (omega arith) (omega arith))
        (none_of n (from + 1) (λ k low high. each k (omega (arith, low)) (omega (arith, high))))

    -- and the other way round
    pub each_none : (n from : ℕ) → left_at payload (flat_map fields_of (range_with_len from n)) ≡ None → (k : ℕ) → from ≤ k → k < from + n →
        left_at payload (fields_of k) ≡ None
    each_none zero from none k low high = absurd (omega (arith, low, high))
    each_none (suc n) from none k low high =
        let parts = parted (fields_of from) (flat_map fields_of (range_with_len (from + 1) n)) none in
        elim (cases_lt from k) [
          | inl less ↦ each_none n (from + 1) parts.1 k (omega (arith, less)) (omega (arith, high))
          | inr more ↦ subst (λ j. left_at payload (fields_of j) ≡ None) (let same : from ≡ k = omega (arith, low, more) in same) parts.0
        ]

    -- the same, by numbers that are equal to these
    pub next_of : (n from at next : ℕ) → from + n ≡ at → suc n ≡ next → left_at payload (flat_map fields_of (range_with_len from n)) ≡ None →
        left_at payload (fields_of at) ≡ None → left_at payload (flat_map fields_of (range_with_len from next)) ≡ None
    next_of n from at next here_is next_is none here =
        subst (λ m. left_at payload (flat_map fields_of (range_with_len from m)) ≡ None) next_is
        (one_more n from none (subst (λ k. left_at payload (fields_of k) ≡ None) (sym here_is) here))

    pub found_of : (n total from at place : ℕ) → from + n ≡ at → n < total → left_at payload (flat_map fields_of (range_with_len from n)) ≡ None →
        left_at payload (fields_of at) ≡ Some place → left_at payload (flat_map fields_of (range_with_len from total)) ≡ Some place
    found_of n total from at place here_is less none here =
        first_of n total from place less none (subst (λ k. left_at payload (fields_of k) ≡ Some place) (sym here_is) here)

  -- five lists of fields, one behind the other
  module _ (a b c d e : List Field) (place : ℕ) where
    pub in_first : left_at payload a ≡ Some place → left_at payload (a ++ b ++ c ++ d ++ e) ≡ Some place
    in_first is = stops (a ++ b ++ c ++ d) e place (stops (a ++ b ++ c) d place (stops (a ++ b) c place (stops a b place is)))

    pub in_second : left_at payload a ≡ None → left_at payload b ≡ Some place → left_at payload (a ++ b ++ c ++ d ++ e) ≡ Some place
    in_second first is = stops (a ++ b ++ c ++ d) e place (stops (a ++ b ++ c) d place (stops (a ++ b) c place (goes_on a b (Some place) first is)))

    pub in_third : left_at payload a ≡ None → left_at payload b ≡ None → left_at payload c ≡ Some place → left_at payload (a ++ b ++ c ++ d ++ e) ≡ Some place
    in_third first second is = stops (a ++ b ++ c ++ d) e place (stops (a ++ b ++ c) d place (goes_on (a ++ b) c (Some place) (goes_on a b None first second) is))

    pub in_fourth : left_at payload a ≡ None → left_at payload b ≡ None → left_at payload c ≡ None → left_at payload d ≡ Some place →
        left_at payload (a ++ b ++ c ++ d ++ e) ≡ Some place
    in_fourth first second third is =
        stops (a ++ b ++ c ++ d) e place (goes_on (a ++ b ++ c) d (Some place) (goes_on (a ++ b) c None (goes_on a b None first second) third) is)

  pub in_last : (a b c d e : List Field) (found : Option ℕ) → left_at payload a ≡ None → left_at payload b ≡ None → left_at payload c ≡ None → left_at payload d ≡ None →
      left_at payload e ≡ found → left_at payload (a ++ b ++ c ++ d ++ e) ≡ found
  in_last a b c d e found first second third fourth is =
      goes_on (a ++ b ++ c ++ d) e found (goes_on (a ++ b ++ c) d None (goes_on (a ++ b) c None (goes_on a b None first second) third) fourth) is
