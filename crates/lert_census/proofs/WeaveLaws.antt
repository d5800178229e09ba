-- The items of woven packets have the tally of the traces' items, in whatever order the packets came.
use Rattle.std.proofs.Common.{ℕ, suc, ◌≡◌, ◌+◌, ◌<◌, Bool, true, false, cond, eqb, leb, List, [], ◌∷◌, ◌++◌, length, filter, get_or, refl, ap, ap₂, sym, ◌∙◌, arith, inl, inr, subst, sum_by, All}
use Rattle.std.specs.Prelude.{Some, slice_get}
use Rattle.std.proofs.lemmas.Bool.{cases_order, cases_Bool, eq-eqb, ne_eqb, le-leb, lt-leb}
use Rattle.std.proofs.lemmas.List.{Elements.{All-head, All-tail, All-nil, All-cons, All-append, filter-append}, Sums.{sum_by-append, sum_by-cons}}
use Rattle.lert_base.specs.{Packet.{Packet, events_of, of_trace}, Weave.IsWoven}
use Rattle.lert_spec.specs.{declared.item.Item.Item, declared.numbers.Numbers.Numbers, Counts.{weighed, weight_for}, Mix.{cone_of, part_in}}
use Rattle.lert_spec.proofs.CountLaws.{count-whole}
use Rattle.lert_census.specs.{Census.{Census, StandsFor, lines_of}, Tally.{IsItem, joined, tally_of}}
use Rattle.lert_census.proofs.{LineLaws.{filter_all, stands_tally}, WeightLaws.same_tally}

-- what the items of packets weigh, by one measure or another
abbrev weight : (Item → ℕ) → List Packet → ℕ
weight w history = sum_by w (events_of history)

-- each counts 1
pub ones : (items : List Item) → sum_by (λ _. 1) items ≡ length items
ones [] = refl
ones (item ∷ items) = omega (arith, sum_by-cons (λ (_ : Item). 1) item items, ones items)

-- the packets of a trace and of all later ones
abbrev from_trace : ℕ → List Packet → List Packet
from_trace trace history = filter (λ packet. leb trace packet.trace) history

kept : (w : Item → ℕ) (test : Packet → Bool) (p : Packet) (ps : List Packet) → test p ≡ true →
    weight w (filter test (p ∷ ps)) ≡ sum_by w p.items + weight w (filter test ps)
kept w test p ps passes =
    ap (λ t. weight w (cond t (p ∷ filter test ps) (filter test ps))) passes ∙ sum_by-append w p.items (events_of (filter test ps))

left : (w : Item → ℕ) (test : Packet → Bool) (p : Packet) (ps : List Packet) → test p ≡ false → weight w (filter test (p ∷ ps)) ≡ weight w (filter test ps)
left w test p ps fails = ap (λ t. weight w (cond t (p ∷ filter test ps) (filter test ps))) fails

split_at : (w : Item → ℕ) (trace : ℕ) (history : List Packet) → weight w (from_trace trace history) ≡ weight w (of_trace history trace) + weight w (from_trace (suc trace) history)
split_at w trace [] = refl
split_at w trace (p ∷ ps) =
    let rest = split_at w trace ps in
    let on : Packet → Bool = λ packet. leb trace packet.trace in
    let here : Packet → Bool = λ packet. eqb packet.trace trace in
    let later : Packet → Bool = λ packet. leb (suc trace) packet.trace in
    elim (cases_order p.trace trace) [
      | inl same ↦ omega (
        arith,
        rest,
        kept w on p ps (le-leb trace p.trace (omega (arith, same))),
        kept w here p ps (eq-eqb p.trace trace same),
        left w later p ps (lt-leb (suc trace) p.trace (omega (arith, same))),
      )
      | inr (inl before) ↦ omega (
        arith,
        rest,
        left w on p ps (lt-leb trace p.trace before),
        left w here p ps (ne_eqb p.trace trace (λ same. omega (arith, same, before))),
        left w later p ps (lt-leb (suc trace) p.trace (omega (arith, before))),
      )
      | inr (inr behind) ↦ omega (
        arith,
        rest,
        kept w on p ps (le-leb trace p.trace (omega (arith, behind))),
        left w here p ps (ne_eqb p.trace trace (λ same. omega (arith, same, behind))),
        kept w later p ps (le-leb (suc trace) p.trace behind),
      )
    ]

weight_past : (w : Item → ℕ) (trace : ℕ) (history : List Packet) → All (λ packet. packet.trace < trace) history → weight w (from_trace trace history) ≡ 0
weight_past w trace [] past = refl
weight_past w trace (p ∷ ps) past =
    left w (λ packet. leb trace packet.trace) p ps (lt-leb trace p.trace (All-head (λ packet. packet.trace < trace) p ps past))
    ∙ weight_past w trace ps (All-tail (λ packet. packet.trace < trace) p ps past)

All-front : (P : Item → Type 0) (xs ys : List Item) → All P (xs ++ ys) → All P xs
All-front P [] ys all = All-nil P
All-front P (x ∷ xs) ys all = All-cons P x xs (All-head P x (xs ++ ys) all) (All-front P xs ys (All-tail P x (xs ++ ys) all))

All-back : (P : Item → Type 0) (xs ys : List Item) → All P (xs ++ ys) → All P ys
All-back P [] ys all = all
All-back P (x ∷ xs) ys all = All-back P xs ys (All-tail P x (xs ++ ys) all)

-- the items of packets that pass a test are among those of all
events_all : (P : Item → Type 0) (test : Packet → Bool) (history : List Packet) → All P (events_of history) → All P (events_of (filter test history))
events_all P test [] all = All-nil P
events_all P test (p ∷ ps) all =
    let front : All P p.items = All-front P p.items (events_of ps) all in
    let rest = events_all P test ps (All-back P p.items (events_of ps) all) in
    elim (cases_Bool (test p)) [
      | inl passes ↦ subst (All P) (sym (ap (λ t. events_of (cond t (p ∷ filter test ps) (filter test ps))) passes)) (All-append P p.items (events_of (filter test ps)) front rest)
      | inr fails ↦ subst (All P) (sym (ap (λ t. events_of (cond t (p ∷ filter test ps) (filter test ps))) fails)) rest
    ]

module _ (s : Numbers) (cone : ℕ) (history : List Packet) where
  -- the packets of these traces, the first of which has the number `first`, join to their items of the cone
  abbrev AreParts : ℕ → List (List Item) → Type 0
  AreParts first traces = (trace : ℕ) (items : List Item) → slice_get traces trace ≡ Some items → events_of (of_trace history (first + trace)) ≡ part_in weighed s cone items

  next_parts : (first : ℕ) (items : List Item) (traces : List (List Item)) → AreParts first (items ∷ traces) → AreParts (suc first) traces
  next_parts first items traces parts = λ trace found is.
      let place : suc first + trace ≡ first + suc trace = omega arith in
      ap (λ n. events_of (of_trace history n)) place ∙ parts (suc trace) found is

  first_part : (first : ℕ) (items : List Item) (traces : List (List Item)) → AreParts first (items ∷ traces) → events_of (of_trace history first) ≡ part_in weighed s cone items
  first_part first items traces parts =
      let place : first ≡ first + 0 = omega arith in
      ap (λ n. events_of (of_trace history n)) place ∙ parts 0 items refl

  part_joined : (items : List Item) (traces : List (List Item)) → part_in weighed s cone (joined (items ∷ traces)) ≡ part_in weighed s cone items ++ part_in weighed s cone (joined traces)
  part_joined items traces = filter-append (λ (item : Item). eqb (cone_of s item.key) cone) items (joined traces)

  woven_sum : (w : Item → ℕ) (first : ℕ) (traces : List (List Item)) → All (λ packet. packet.trace < first + length traces) history → AreParts first traces →
      weight w (from_trace first history) ≡ sum_by w (part_in weighed s cone (joined traces))
  woven_sum w first [] few parts =
      let none : first + 0 ≡ first = omega arith in
      weight_past w first history (subst (λ n. All (λ (packet : Packet). packet.trace < n) history) none few)
  woven_sum w first (items ∷ traces) few parts =
      let more : first + suc (length traces) ≡ suc first + length traces = omega arith in
      let rest = woven_sum w (suc first) traces (subst (λ n. All (λ (packet : Packet). packet.trace < n) history) more few) (next_parts first items traces parts) in
      split_at w first history
      ∙ ap₂ (λ a b. a + b) (ap (sum_by w) (first_part first items traces parts)) rest
      ∙ sym (sum_by-append w (part_in weighed s cone items) (part_in weighed s cone (joined traces)))
      ∙ sym (ap (sum_by w) (part_joined items traces))

  woven_all : (P : Item → Type 0) (first : ℕ) (traces : List (List Item)) → AreParts first traces → All P (events_of history) → All P (part_in weighed s cone (joined traces))
  woven_all P first [] parts all = All-nil P
  woven_all P first (items ∷ traces) parts all =
      subst (All P) (sym (part_joined items traces))
      (All-append P (part_in weighed s cone items) (part_in weighed s cone (joined traces))
      (subst (All P) (first_part first items traces parts) (events_all P (λ (packet : Packet). eqb packet.trace first) history all))
      (woven_all P (suc first) traces (next_parts first items traces parts) all))

  zero_parts : (workers : ℕ) (traces : List (List Item)) → IsWoven s cone workers traces history → AreParts 0 traces
  zero_parts workers traces woven = λ trace items is.
      let number : 0 + trace ≡ trace = omega arith in
      ap (λ n. events_of (of_trace history n)) number ∙ woven.joined trace items is

  -- they weigh together what the items of the traces do
  woven_weight : (w : Item → ℕ) (workers : ℕ) (traces : List (List Item)) → IsWoven s cone workers traces history →
      weight w history ≡ sum_by w (part_in weighed s cone (joined traces))
  woven_weight w workers traces woven =
      sym (ap (weight w) (filter_all (λ (packet : Packet). leb 0 packet.trace) history (λ k d below. le-leb 0 (get_or history k d).trace (omega arith))))
      ∙ woven_sum w 0 traces (λ k d below. omega (arith, (woven.each k d below).of_them)) (zero_parts workers traces woven)

  pub woven_length : (workers : ℕ) (traces : List (List Item)) → IsWoven s cone workers traces history →
      length (events_of history) ≡ length (part_in weighed s cone (joined traces))
  woven_length workers traces woven =
      sym (ones (events_of history)) ∙ woven_weight (λ _. 1) workers traces woven ∙ ones (part_in weighed s cone (joined traces))

  pub woven_tally : (workers : ℕ) (traces : List (List Item)) → All (IsItem s) (events_of history) → IsWoven s cone workers traces history →
      tally_of (events_of history) ≡ tally_of (part_in weighed s cone (joined traces))
  woven_tally workers traces are woven =
      let part = part_in weighed s cone (joined traces) in
      same_tally s (events_of history) part are (woven_all (IsItem s) 0 traces (zero_parts workers traces woven) are)
      (λ key. count-whole weighed key (events_of history) ∙ woven_weight (weight_for weighed key) workers traces woven ∙ sym (count-whole weighed key part))

-- so the lines of a region that stands for woven packets are the tally of its items of all traces
pub woven_lines : (census : Census) (workers : ℕ) (traces : List (List Item)) (history : List Packet) → StandsFor census history →
    IsWoven census.settings census.region workers traces history → lines_of census ≡ tally_of (part_in weighed census.settings census.region (joined traces))
woven_lines census workers traces history stands woven =
    stands_tally census history stands
    ∙ woven_tally census.settings census.region history workers traces
    (λ k d below. record { fits = (stands.counted k d below).fits; weighs = (stands.counted k d below).weighs }) woven
