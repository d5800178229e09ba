-- How many items a weave has and what they weigh, by the items of all traces.
use Rattle.std.proofs.Common.{◌≡◌, ◌≢◌, ℕ, ◌+◌, ◌<◌, ◌≤◌, zero, suc, Bool, cond, List, [], ◌∷◌, ◌++◌, length, Some, slice_get, refl, ap, sym, ◌∙◌, subst, inl, inr, arith, length-append}
use Rattle.std.proofs.{lemmas.Bool.{cases_eq, eq-eqb, ne_eqb}, lemmas.List.Elements.{All-head, All-tail}, lemmas.List.Sums.{sum_by-append, sum_by-cons}}
use Rattle.std.specs.Prelude.{All, sum_by}
use Rattle.lert_base.specs.{Beginning.BeginsWith, Packet.{Packet, events_of, of_trace}, Weave.{IsBrought, IsPartWoven, IsWoven}}
use Rattle.lert_spec.specs.{declared.item.Item.Item, declared.numbers.Numbers.Numbers, Counts.{weighed, weight_of}, Mix.part_in}

-- a measure of items that adds up over lists
pub record AddsUp (f : List Item → ℕ) : Type 0 where
  pub none : f [] ≡ 0
  pub joins : (xs ys : List Item) → f (xs ++ ys) ≡ f xs + f ys

-- as their number and their weight do
pub length_adds : AddsUp (λ items. length items)
length_adds = record { none = refl; joins = λ xs ys. length-append xs ys }

pub weight_adds : AddsUp (weight_of weighed)
weight_adds = record { none = refl; joins = λ xs ys. sum_by-append (λ (item : Item). item.weight) xs ys }

-- such a measure of a cone's items of all traces
abbrev pub part_sum : (List Item → ℕ) → Numbers → ℕ → List (List Item) → ℕ
part_sum f s cone traces = sum_by (λ items. f (part_in weighed s cone items)) traces

module _ (f : List Item → ℕ) (adds : AddsUp f) where
  -- that of the packets of so many traces, from a trace on
  abbrev spread : List Packet → ℕ → ℕ → ℕ
  spread history from zero = 0
  spread history from (suc count) = f (events_of (of_trace history from)) + spread history (suc from) count

  -- a packet in front
  here_same : (e : Packet) (history : List Packet) (trace : ℕ) → e.trace ≡ trace → f (events_of (of_trace (e ∷ history) trace)) ≡ f e.items + f (events_of (of_trace history trace))
  here_same e history trace same =
      ap (λ (b : Bool). f (events_of (cond b (e ∷ of_trace history trace) (of_trace history trace)))) (eq-eqb e.trace trace same)
      ∙ adds.joins e.items (events_of (of_trace history trace))

  here_other : (e : Packet) (history : List Packet) (trace : ℕ) → e.trace ≢ trace → f (events_of (of_trace (e ∷ history) trace)) ≡ f (events_of (of_trace history trace))
  here_other e history trace other = ap (λ (b : Bool). f (events_of (cond b (e ∷ of_trace history trace) (of_trace history trace)))) (ne_eqb e.trace trace other)

  spread_below : (e : Packet) (history : List Packet) (from count : ℕ) → e.trace < from → spread (e ∷ history) from count ≡ spread history from count
  spread_below e history from zero below = refl
  spread_below e history from (suc count) below =
      let here = here_other e history from (λ same. omega (arith, same, below)) in
      let rest = spread_below e history (suc from) count (omega (arith, below)) in
      omega (arith, here, rest)

  spread_in : (e : Packet) (history : List Packet) (from count : ℕ) → from ≤ e.trace → e.trace < from + count → spread (e ∷ history) from count ≡ f e.items + spread history from count
  spread_in e history from zero low high = absurd (omega (arith, low, high))
  spread_in e history from (suc count) low high =
      elim (cases_eq e.trace from) [
        | inl same ↦
            let here = here_same e history from same in
            let rest = spread_below e history (suc from) count (omega (arith, same)) in
            omega (arith, here, rest)
        | inr other ↦
            let here = here_other e history from other in
            let above : suc from ≤ e.trace = omega (arith, low, other) in
            let rest = spread_in e history (suc from) count above (omega (arith, high)) in
            omega (arith, here, rest)
      ]

  spread_none : (from count : ℕ) → spread [] from count ≡ 0
  spread_none from zero = refl
  spread_none from (suc count) = let rest = spread_none (suc from) count in let none = adds.none in omega (arith, rest, none)

  -- all items
  all_spread : (history : List Packet) (count : ℕ) → All (λ e. e.trace < count) history → f (events_of history) ≡ spread history 0 count
  all_spread [] count below = adds.none ∙ sym (spread_none 0 count)
  all_spread (e ∷ history) count below =
      let here = spread_in e history 0 count (omega arith) (let head = All-head (λ p. p.trace < count) e history below in omega (arith, head)) in
      let rest = all_spread history count (All-tail (λ p. p.trace < count) e history below) in
      let parts = adds.joins e.items (events_of history) in
      omega (arith, here, rest, parts)

  -- as each trace has at most, or at least, so many
  spread_most : (g : List Item → ℕ) (history : List Packet) (from : ℕ) (traces : List (List Item)) →
      ((place : ℕ) (items : List Item) → slice_get traces place ≡ Some items → f (events_of (of_trace history (from + place))) ≤ g items) →
      spread history from (length traces) ≤ sum_by g traces
  spread_most g history from [] most = omega arith
  spread_most g history from (items ∷ traces) most =
      let here = subst (λ n. f (events_of (of_trace history n)) ≤ g items) (let e : from + 0 ≡ from = omega arith in e) (most 0 items refl) in
      let rest = spread_most g history (suc from) traces
      (λ place found is. subst (λ n. f (events_of (of_trace history n)) ≤ g found) (let e : from + suc place ≡ suc from + place = omega arith in e) (most (suc place) found is)) in
      let sum = sum_by-cons g items traces in
      omega (arith, here, rest, sum)

  spread_least : (g : List Item → ℕ) (history : List Packet) (from : ℕ) (traces : List (List Item)) →
      ((place : ℕ) (items : List Item) → slice_get traces place ≡ Some items → g items ≤ f (events_of (of_trace history (from + place)))) →
      sum_by g traces ≤ spread history from (length traces)
  spread_least g history from [] least = omega arith
  spread_least g history from (items ∷ traces) least =
      let here = subst (λ n. g items ≤ f (events_of (of_trace history n))) (let e : from + 0 ≡ from = omega arith in e) (least 0 items refl) in
      let rest = spread_least g history (suc from) traces
      (λ place found is. subst (λ n. g found ≤ f (events_of (of_trace history n))) (let e : from + suc place ≡ suc from + place = omega arith in e) (least (suc place) found is)) in
      let sum = sum_by-cons g items traces in
      omega (arith, here, rest, sum)

  module _ (s : Numbers) (cone workers : ℕ) (traces : List (List Item)) (history : List Packet) where
    of_them : All (IsBrought s workers (length traces)) history → All (λ e. e.trace < length traces) history
    of_them each = λ k d below. (each k d below).of_them

    -- a weave of beginnings has at most the items of all traces
    pub part_count : IsPartWoven s cone workers traces history → f (events_of history) ≤ part_sum f s cone traces
    part_count part =
        let all = all_spread history (length traces) (of_them part.each) in
        let most = spread_most (λ items. f (part_in weighed s cone items)) history 0 traces
        (λ place items is. subst (λ n. f (events_of (of_trace history n)) ≤ f (part_in weighed s cone items)) (let e : place ≡ 0 + place = omega arith in e)
        (begun items place (part.joined place items is))) in
        omega (arith, all, most)
      where
        begun : (items : List Item) (place : ℕ) → BeginsWith (part_in weighed s cone items) (events_of (of_trace history place)) →
            f (events_of (of_trace history place)) ≤ f (part_in weighed s cone items)
        begun items place begins =
            let whole = ap f begins.1 in
            let sum = adds.joins (events_of (of_trace history place)) begins.0 in
            omega (arith, whole, sum)

    -- and a weave has them all
    pub woven_count : IsWoven s cone workers traces history → part_sum f s cone traces ≤ f (events_of history)
    woven_count woven =
        let all = all_spread history (length traces) (of_them woven.each) in
        let least = spread_least (λ items. f (part_in weighed s cone items)) history 0 traces
        (λ place items is. subst (λ n. f (part_in weighed s cone items) ≤ f (events_of (of_trace history n))) (let e : place ≡ 0 + place = omega arith in e)
        (let same = ap f (woven.joined place items is) in omega (arith, same))) in
        omega (arith, all, least)
