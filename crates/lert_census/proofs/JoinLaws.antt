-- The tallies of all regions are together the tally of all items.
use Rattle.std.proofs.Common.{ℕ, zero, suc, ◌≡◌, ◌≢◌, ◌+◌, ◌*◌, ◌^◌, ◌<◌, ◌≤◌, cond, eqb, List, [], ◌∷◌, ◌++◌, map, flat_map, refl, ap, ap₂, sym, ◌∙◌, arith, inl, inr, subst, sum_by, All}
use Rattle.std.specs.List.{range_with_len}
use Rattle.std.proofs.lemmas.{Bool.{cases_eq, cases_lt, cases_Bool, eq-eqb, ne_eqb, eqb-true, false≢true}, List.map-append}
use Rattle.std.proofs.lemmas.List.{Elements.{All-head, All-tail, All-nil, All-cons, All-filter}, Sums.{sum_by-append, sum_by-cons}}
use Rattle.lert_spec.specs.{declared.item.Item.Item, declared.numbers.Numbers.Numbers, declared.report.Report.Report, Counts.{plain, weighed, weight_for}, Edges.{key_bits, key_limit, tail_bits}}
use Rattle.lert_spec.specs.{Look.mixed_in, Mix.{mix, cone_of, part_in}}
use Rattle.lert_spec.proofs.{CountLaws.count-whole, LookLaws.{AreKeys, AreKeys-mixed_order, HaveKeys-append, MixedFrom-lower, one_order}, MixLaws.{cone_below, mix_parts, tail_below}}
use Rattle.lert_spec.proofs.ReportLaws.{MixedFrom, MixedFrom-mixed_order, times}
use Rattle.lert_census.specs.Tally.{IsItem, line_of, tally_of, tallies_of}
use Rattle.lert_census.proofs.{LineLaws.mixed_all, WeightLaws.{items_have_keys, times-light, times-same, times-stranger}}

module _ (s : Numbers) (items : List Item) (are : All (IsItem s) items) where
  abbrev part : ℕ → List Item
  part region = part_in weighed s region items

  abbrev keys : ℕ → List ℕ
  keys region = mixed_in weighed (part region)

  part_are : (region : ℕ) → All (IsItem s) (part region)
  part_are region = All-filter (λ (item : Item). eqb (cone_of s item.key) region) (IsItem s) items are

  -- the items of a part are of its region
  own_items : (region : ℕ) (xs : List Item) → All (λ (item : Item). cone_of s item.key ≡ region) (part_in weighed s region xs)
  own_items region [] = All-nil (λ (item : Item). cone_of s item.key ≡ region)
  own_items region (x ∷ xs) =
      let P : Item → Type 0 = λ item. cone_of s item.key ≡ region in
      let rest = own_items region xs in
      elim (cases_Bool (eqb (cone_of s x.key) region)) [
        | inl own ↦ subst (All P) (sym (ap (λ t. cond t (x ∷ part_in weighed s region xs) (part_in weighed s region xs)) own))
            (All-cons P x (part_in weighed s region xs) (eqb-true (cone_of s x.key) region own) rest)
        | inr other ↦ subst (All P) (sym (ap (λ t. cond t (x ∷ part_in weighed s region xs) (part_in weighed s region xs)) other)) rest
      ]

  own_keys : (region : ℕ) → All (λ key. cone_of s key ≡ region) (keys region)
  own_keys region = mixed_all (λ key. cone_of s key ≡ region) (part region) (own_items region items)

  -- a key weighs in the part of its region what it weighs in all, and nothing in another one
  weighs_own : (key region : ℕ) (xs : List Item) → cone_of s key ≡ region → sum_by (weight_for weighed key) (part_in weighed s region xs) ≡ sum_by (weight_for weighed key) xs
  weighs_own key region [] own = refl
  weighs_own key region (x ∷ xs) own =
      let w : Item → ℕ = weight_for weighed key in
      let rest = weighs_own key region xs own in
      let all = sum_by-cons w x xs in
      elim (cases_Bool (eqb (cone_of s x.key) region)) [
        | inl mine ↦ (
            let kept = ap (λ t. sum_by w (cond t (x ∷ part_in weighed s region xs) (part_in weighed s region xs))) mine in
            kept ∙ sum_by-cons w x (part_in weighed s region xs) ∙ ap (λ n. w x + n) rest ∙ sym all)
        | inr other ↦ (
            let left = ap (λ t. sum_by w (cond t (x ∷ part_in weighed s region xs) (part_in weighed s region xs))) other in
            let differs : x.key ≢ key = λ same. false≢true (sym other ∙ eq-eqb (cone_of s x.key) region (ap (cone_of s) same ∙ own)) in
            let none = ap (λ t. cond {A = ℕ} t x.weight 0) (ne_eqb x.key key differs) in
            left ∙ rest ∙ omega (arith, all, none))
      ]

  weighs_none : (key region : ℕ) (xs : List Item) → cone_of s key ≢ region → sum_by (weight_for weighed key) (part_in weighed s region xs) ≡ 0
  weighs_none key region [] other = refl
  weighs_none key region (x ∷ xs) other =
      let w : Item → ℕ = weight_for weighed key in
      let rest = weighs_none key region xs other in
      elim (cases_Bool (eqb (cone_of s x.key) region)) [
        | inl mine ↦ (
            let kept = ap (λ t. sum_by w (cond t (x ∷ part_in weighed s region xs) (part_in weighed s region xs))) mine in
            let differs : x.key ≢ key = λ same. other (ap (cone_of s) (sym same) ∙ eqb-true (cone_of s x.key) region mine) in
            let none = ap (λ t. cond {A = ℕ} t x.weight 0) (ne_eqb x.key key differs) in
            kept ∙ sum_by-cons w x (part_in weighed s region xs) ∙ omega (arith, none, rest))
        | inr left ↦ ap (λ t. sum_by w (cond t (x ∷ part_in weighed s region xs) (part_in weighed s region xs))) left ∙ rest
      ]

  -- so a line of a part is that of all items
  lines_same : (region : ℕ) (ks : List ℕ) → All (λ key. cone_of s key ≡ region) ks → map (line_of (part region)) ks ≡ map (line_of items) ks
  lines_same region [] own = refl
  lines_same region (k ∷ ks) own =
      let here = count-whole weighed k (part region) ∙ weighs_own k region items (All-head (λ key. cone_of s key ≡ region) k ks own) ∙ sym (count-whole weighed k items) in
      ap₂ (λ n (rest : List Report). record { key = k; at = n } ∷ rest) here (lines_same region ks (All-tail (λ key. cone_of s key ≡ region) k ks own))

  lines_joined : (first count : ℕ) → tallies_of s first count items ≡ map (line_of items) (flat_map keys (range_with_len first count))
  lines_joined first zero = refl
  lines_joined first (suc count) =
      ap₂ (λ (xs ys : List Report). xs ++ ys) (lines_same first (keys first) (own_keys first)) (lines_joined (first + 1) count)
      ∙ sym (map-append (line_of items) (keys first) (flat_map keys (range_with_len (first + 1) count)))

  -- the mixed values of a region's keys lie from one bound to the next
  from_bound : (region key : ℕ) → cone_of s key ≡ region → region * 2 ^ tail_bits s ≤ mix key
  from_bound region key own = omega (arith, mix_parts s key, ap (λ c. c * 2 ^ tail_bits s) own)

  to_bound : (region key : ℕ) → cone_of s key ≡ region → mix key ≤ (region + 1) * 2 ^ tail_bits s
  to_bound region key own =
      let next : (region + 1) * 2 ^ tail_bits s ≡ region * 2 ^ tail_bits s + 2 ^ tail_bits s = omega arith in
      omega (arith, next, mix_parts s key, ap (λ c. c * 2 ^ tail_bits s) own, tail_below s key)

  from_on : (region low : ℕ) (ks others : List ℕ) → All (λ key. cone_of s key ≡ region) ks → MixedFrom low ks → low ≤ (region + 1) * 2 ^ tail_bits s →
      MixedFrom ((region + 1) * 2 ^ tail_bits s) others → MixedFrom low (ks ++ others)
  from_on region low [] others own ordered within more = MixedFrom-lower low ((region + 1) * 2 ^ tail_bits s) others within more
  from_on region low (k ∷ ks) others own ordered within more =
      let Own : ℕ → Type 0 = λ key. cone_of s key ≡ region in
      (ordered.0, from_on region (mix k) ks others (All-tail Own k ks own) ordered.1 (to_bound region k (All-head Own k ks own)) more)

  raised : (region : ℕ) (ks : List ℕ) → All (λ key. cone_of s key ≡ region) ks → MixedFrom 0 ks → MixedFrom (region * 2 ^ tail_bits s) ks
  raised region [] own ordered = tt
  raised region (k ∷ ks) own ordered = (from_bound region k (All-head (λ key. cone_of s key ≡ region) k ks own), ordered.1)

  in_order : (first count : ℕ) → MixedFrom (first * 2 ^ tail_bits s) (flat_map keys (range_with_len first count))
  in_order first zero = tt
  in_order first (suc count) =
      let next : (first + 1) * 2 ^ tail_bits s ≡ first * 2 ^ tail_bits s + 2 ^ tail_bits s = omega arith in
      from_on first (first * 2 ^ tail_bits s) (keys first) (flat_map keys (range_with_len (first + 1) count)) (own_keys first)
      (raised first (keys first) (own_keys first) (MixedFrom-mixed_order weighed (part first))) (omega (arith, next)) (in_order (first + 1) count)

  have_keys : (first count : ℕ) → AreKeys s (flat_map keys (range_with_len first count))
  have_keys first zero = tt
  have_keys first (suc count) =
      HaveKeys-append s plain (keys first) (flat_map keys (range_with_len (first + 1) count))
      (AreKeys-mixed_order s weighed (part first) (items_have_keys s (part first) (part_are first))) (have_keys (first + 1) count)

  -- each key stands there as often as among those of all items
  times-other : (key region : ℕ) → cone_of s key ≢ region → times key (keys region) ≡ 0
  times-other key region other = times-light s key (part region) (part_are region) (weighs_none key region items other)

  times-step : (key first count : ℕ) → times key (flat_map keys (range_with_len first (suc count))) ≡ times key (keys first) + times key (flat_map keys (range_with_len (first + 1) count))
  times-step key first count = sum_by-append (λ other. cond {A = ℕ} (eqb other key) 1 0) (keys first) (flat_map keys (range_with_len (first + 1) count))

  times-outside : (key first count : ℕ) → cone_of s key < first → times key (flat_map keys (range_with_len first count)) ≡ 0
  times-outside key first zero below = refl
  times-outside key first (suc count) below =
      omega (arith, times-step key first count, times-other key first (λ same. omega (arith, same, below)), times-outside key (first + 1) count (omega (arith, below)))

  times-inside : (key first count : ℕ) → first ≤ cone_of s key → cone_of s key < first + count → times key (flat_map keys (range_with_len first count)) ≡ times key (mixed_in weighed items)
  times-inside key first zero from to = absurd (omega (arith, from, to))
  times-inside key first (suc count) from to =
      let step = times-step key first count in
      elim (cases_eq (cone_of s key) first) [
        | inl here ↦ omega (
          arith,
          step,
          times-same s key (part first) items (part_are first) are (weighs_own key first items here),
          times-outside key (first + 1) count (omega (arith, here)),
        )
        | inr later ↦ omega (
          arith,
          step,
          times-other key first later,
          times-inside key (first + 1) count (omega (arith, from, later)) (omega (arith, to)),
        )
      ]

  -- a key with too many bits is none of them
  times-far : (key first count : ℕ) → key_limit s ≤ key → times key (flat_map keys (range_with_len first count)) ≡ 0
  times-far key first zero far = refl
  times-far key first (suc count) far =
      omega (arith, times-step key first count, times-stranger s key (part first) (part_are first) far, times-far key (first + 1) count far)

  pub joined_tally : s.cone_bits ≤ key_bits s → tallies_of s 0 (2 ^ s.cone_bits) items ≡ tally_of items
  joined_tally bits =
      let cones = 2 ^ s.cone_bits in
      let all = flat_map keys (range_with_len 0 cones) in
      lines_joined 0 cones
      ∙ ap (map (line_of items)) (one_order s 0 all (mixed_in weighed items) (MixedFrom-lower 0 (0 * 2 ^ tail_bits s) all (omega arith) (in_order 0 cones)) (MixedFrom-mixed_order weighed items)
      (have_keys 0 cones) (AreKeys-mixed_order s weighed items (items_have_keys s items are))
      (λ key. elim (cases_lt key (key_limit s)) [
        | inl below ↦ times-inside key 0 cones (omega arith) (omega (arith, cone_below s key bits below))
        | inr far ↦ times-far key 0 cones far ∙ sym (times-stranger s key items are far)
      ]))
