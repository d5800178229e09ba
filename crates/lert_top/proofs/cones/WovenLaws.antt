-- A weave has the items of its parts of all traces, in another order.
use Rattle.std.proofs.Common.{◌≡◌, ◌≢◌, ◌⊎◌, ℕ, ◌+◌, ◌<◌, Bool, true, false, eqb, cond, List, [], ◌∷◌, ◌++◌, length, filter, sum_by, ap, sym, ◌∙◌, refl, inl, inr, arith, length-append}
use Rattle.std.proofs.{lemmas.Bool.{cases_eq, eq-eqb, ne_eqb}, lemmas.List.Sums.{sum_by-append, sum_by-cons}}
use Rattle.lert_base.specs.{Packet.{Packet, events_of, of_trace}, Weave.{IsBrought, IsWoven}}
use Rattle.lert_spec.specs.{declared.item.Item.Item, declared.numbers.Numbers.Numbers, Counts.{Measure, weighed, weight_for, weight_in}, Mix.{cone_of, part_in}}
use Rattle.lert_spec.proofs.CountLaws.{count-whole}
use Rattle.lert_ingest.specs.Traces.{all_items, part_length}
use Rattle.lert_top.proofs.cones.TraceSums.{by_place, by_trace, joined, of_first, sum_by-none, sum_by-same}

-- what a key weighs in a whole list
abbrev pub weighs : ℕ → List Item → ℕ
weighs key items = weight_in weighed key items 0 (length items)

-- where an item is kept, or weighs nothing, it is so of the list as of the key
kept_or_light : (item key : Bool) (weight all kept : ℕ) → kept ≡ cond key all 0 → (weight ≡ 0) ⊎ (item ≡ key) → cond item (weight + kept) kept ≡ cond key (weight + all) 0
kept_or_light true true weight all kept is either = ap (λ n. weight + n) is
kept_or_light true false weight all kept is (inl none) = omega (arith, is, none)
kept_or_light true false weight all kept is (inr same) = absurd (let clash = same in cc)
kept_or_light false true weight all kept is (inl none) = omega (arith, is, none)
kept_or_light false true weight all kept is (inr same) = absurd (let clash = same in cc)
kept_or_light false false weight all kept is either = is

-- a filter by keys keeps all that a key weighs, or nothing
weight-filter : {A : Type 0} (by : Measure A) (key : ℕ) (test : ℕ → Bool) (items : List A) →
    sum_by (weight_for by key) (filter (λ item. test (by.key item)) items) ≡ cond (test key) (sum_by (weight_for by key) items) 0
weight-filter by key test [] = none (test key)
  where
    none : (b : Bool) → 0 ≡ cond {A = ℕ} b 0 0
    none true = refl
    none false = refl
weight-filter {A} by key test (item ∷ items) =
    let all = sum_by (weight_for by key) items in
    let left = filter (λ i. test (by.key i)) items in
    summed left (test (by.key item))
    ∙ (kept_or_light (test (by.key item)) (test key) (weight_for by key item) all (sum_by (weight_for by key) left) (weight-filter by key test items)
    (elim (cases_eq (by.key item) key) [
      | inl same ↦ inr (ap test same)
      | inr differs ↦ inl (ap (λ t. cond {A = ℕ} t (by.weight item) 0) (ne_eqb (by.key item) key differs))
    ])
    ∙ ap (λ n. cond (test key) n 0) (sym (sum_by-cons (weight_for by key) item items)))
  where
    summed : (left : List A) (b : Bool) →
        sum_by (weight_for by key) (cond b (item ∷ left) left) ≡ cond b (weight_for by key item + sum_by (weight_for by key) left) (sum_by (weight_for by key) left)
    summed left true = sum_by-cons (weight_for by key) item left
    summed left false = refl

module _ (s : Numbers) (cone workers : ℕ) (traces : List (List Item)) (history : List Packet) (woven : IsWoven s cone workers traces history) where
  named : (packet : Packet) → IsBrought s workers (length traces) packet → packet.trace < length traces
  named packet brought = brought.of_them

  -- what adds up over lists is of all items what it is of the parts
  of_events : (f : List Item → ℕ) → f [] ≡ 0 → ((xs ys : List Item) → f (xs ++ ys) ≡ f xs + f ys) →
      f (events_of history) ≡ sum_by (λ items. f (part_in weighed s cone items)) traces
  of_events f none joins =
      joined f none joins (λ (p : Packet). p.items) history
      ∙ (by_trace (λ p. f p.items) (IsBrought s workers (length traces)) (length traces) named history woven.each
      ∙ sym (by_place (λ items. f (part_in weighed s cone items)) (λ trace. sum_by (λ (p : Packet). f p.items) (of_trace history trace)) traces 0 (λ k items is.
      ap (λ trace. sum_by (λ (p : Packet). f p.items) (of_trace history trace)) (let same : 0 + k ≡ k = omega arith in same)
      ∙ (sym (joined f none joins (λ (p : Packet). p.items) (of_trace history k)) ∙ ap f (woven.joined k items is)))))

  pub woven_length : length (events_of history) ≡ part_length s cone traces
  woven_length = of_events length refl length-append

  -- a key weighs what it weighs in the parts
  pub weighs_as_parts : (key : ℕ) → weighs key (events_of history) ≡ sum_by (λ items. sum_by (weight_for weighed key) (part_in weighed s cone items)) traces
  weighs_as_parts key = count-whole weighed key (events_of history) ∙ of_events (sum_by (weight_for weighed key)) refl (sum_by-append (weight_for weighed key))

  -- in the weave of its own cone a key weighs what it does in all traces
  pub weighs_own : (key : ℕ) → cone_of s key ≡ cone → weighs key (events_of history) ≡ weighs key (all_items traces)
  weighs_own key own =
      weighs_as_parts key
      ∙ (sum_by-same (λ items. sum_by (weight_for weighed key) (part_in weighed s cone items)) (sum_by (weight_for weighed key)) traces (λ items.
      weight-filter weighed key (λ k. eqb (cone_of s k) cone) items
      ∙ ap (λ (b : Bool). cond b (sum_by (weight_for weighed key) items) 0) (eq-eqb (cone_of s key) cone own))
      ∙ (sym (joined (sum_by (weight_for weighed key)) refl (sum_by-append (weight_for weighed key)) (λ (items : List Item). items) traces)
      ∙ sym (count-whole weighed key (all_items traces))))

  pub weighs_other : (key : ℕ) → cone_of s key ≢ cone → weighs key (events_of history) ≡ 0
  weighs_other key other =
      weighs_as_parts key
      ∙ (sum_by-same (λ items. sum_by (weight_for weighed key) (part_in weighed s cone items)) (λ items. 0) traces (λ items.
      weight-filter weighed key (λ k. eqb (cone_of s k) cone) items
      ∙ ap (λ (b : Bool). cond b (sum_by (weight_for weighed key) items) 0) (ne_eqb (cone_of s key) cone other))
      ∙ sum_by-none traces)

-- a weave of one trace is its part
pub woven_one : (s : Numbers) (cone workers : ℕ) (items : List Item) (history : List Packet) → IsWoven s cone workers (items ∷ []) history →
    events_of history ≡ part_in weighed s cone items
woven_one s cone workers items history woven =
    sym (ap events_of (of_first (IsBrought s workers 1) (λ packet brought. brought.of_them) history woven.each)) ∙ woven.joined 0 items refl
