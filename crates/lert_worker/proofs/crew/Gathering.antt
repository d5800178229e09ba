-- What all workers brought to a cone, told from what each of them brought.
use Rattle.std.proofs.Common.{◌≡◌, ℕ, ◌%◌, ◌<◌, ◌≤◌, Bool, true, false, cond, eqb, List, [], ◌∷◌, ◌++◌, length, Some, slice_get, refl, ap, sym, ◌∙◌, subst, inl, inr, arith, append_assoc}
use Rattle.std.proofs.{Common.length-append, lemmas.Bool.{cases_eq, eq-eqb, ne_eqb}, lemmas.List.Elements.{All-head, All-tail, All-cons, All-contains, All-nil, filter-append}}
use Rattle.std.proofs.lemmas.Option.{slice_get_within}
use Rattle.std.specs.Prelude.{All}
use Rattle.lert_base.specs.{Beginning.BeginsWith, Packet.{Packet, events_of, of_trace, own}, Weave.{AreCut, IsBrought, IsPartWoven, IsWoven}}
use Rattle.lert_spec.specs.{declared.item.Item.Item, declared.numbers.Numbers.Numbers, Counts.weighed, Mix.{cone_of, part_in}}
use Rattle.lert_worker.specs.Brings.{IsOwn}
use Rattle.lert_worker.specs.crew.Shares.{HasAll, HasPart, IsShare}
use Rattle.lert_worker.proofs.LaneLaws.{slice_get-first}

-- ---- own packets, and packets of a trace

-- what a trace has of a list, the number has that brings all packets of this trace
own_step : (e : Packet) (kept : List Packet) (trace number : ℕ) → (e.trace ≡ trace → e.by ≡ number) →
    cond (eqb e.trace trace) (e ∷ of_trace kept trace) (of_trace kept trace) ≡ of_trace (cond (eqb e.by number) (e ∷ kept) kept) trace
own_step e kept trace number agree =
    elim (cases_eq e.trace trace) [
      | inl same ↦ ap (λ (b : Bool). of_trace (cond b (e ∷ kept) kept) trace) (sym (eq-eqb e.by number (agree same)))
      | inr other ↦ ap (λ (b : Bool). cond b (e ∷ of_trace kept trace) (of_trace kept trace)) (ne_eqb e.trace trace other) ∙ dropped (eqb e.by number) (ne_eqb e.trace trace other)
    ]
  where
    dropped : (b : Bool) → eqb e.trace trace ≡ false → of_trace kept trace ≡ of_trace (cond b (e ∷ kept) kept) trace
    dropped true is = ap (λ (c : Bool). cond c (e ∷ of_trace kept trace) (of_trace kept trace)) (sym is)
    dropped false is = refl

pub of_trace-own : (history : List Packet) (trace number : ℕ) → All (λ e. e.trace ≡ trace → e.by ≡ number) history → of_trace history trace ≡ of_trace (own history number)
    trace
of_trace-own [] trace number agree = refl
of_trace-own (e ∷ history) trace number agree =
    ap (λ (kept : List Packet). cond (eqb e.trace trace) (e ∷ kept) kept) (of_trace-own history trace number (All-tail (λ p. p.trace ≡ trace → p.by ≡ number) e history agree))
    ∙ own_step e (own history number) trace number (All-head (λ p. p.trace ≡ trace → p.by ≡ number) e history agree)

-- what holds of each number's packets holds of all
module _ (P : Packet → Type 0) (workers : ℕ) where
  head_own : (e : Packet) (history : List Packet) → All P (own (e ∷ history) e.by) → P e
  head_own e history all =
      All-head P e (own history e.by) (subst (λ (b : Bool). All P (cond b (e ∷ own history e.by) (own history e.by))) (eq-eqb e.by e.by refl) all)

  tail_own : (e : Packet) (history : List Packet) (b : Bool) (number : ℕ) → All P (cond b (e ∷ own history number) (own history number)) → All P (own history number)
  tail_own e history true number all = All-tail P e (own history number) all
  tail_own e history false number all = all

  pub all_own : (history : List Packet) → All (λ e. e.by < workers) history → ((number : ℕ) → number < workers → All P (own history number)) → All P history
  all_own [] below each = All-nil P
  all_own (e ∷ history) below each = All-cons P e history (head_own e history (each e.by (All-head (λ p. p.by < workers) e history below)))
      (all_own history (All-tail (λ p. p.by < workers) e history below) (λ number named. tail_own e history (eqb e.by number) number (each number named)))

-- ---- beginnings

pub begins_more : {A : Type 0} (whole part less : List A) → BeginsWith whole part → BeginsWith part less → BeginsWith whole less
begins_more whole part less one two = (two.0 ++ one.0, sym (append_assoc less two.0 one.0) ∙ (ap (λ xs. xs ++ one.0) two.1 ∙ one.1))

-- and so do their parts of a cone
pub begins_part : (s : Numbers) (cone : ℕ) (whole part : List Item) → BeginsWith whole part → BeginsWith (part_in weighed s cone whole) (part_in weighed s cone part)
begins_part s cone whole part begins = (
  part_in weighed s cone begins.0,
  sym (filter-append (λ (item : Item). eqb (cone_of s item.key) cone) part begins.0) ∙ ap (part_in weighed s cone) begins.1,
)

pub cut_first : (size : ℕ) (xs ys : List Packet) → AreCut size (xs ++ ys) → AreCut size xs
cut_first size xs ys cut = λ place packet within is.
    cut place packet (omega (arith, within, length-append xs ys)) (slice_get-first xs ys place (omega arith) ∙ is)

-- ---- a weave of what each brought

-- a packet of a worker is one that was brought
pub own_brought : (s : Numbers) (workers count number : ℕ) (share : List ℕ) → IsShare workers count number share → (e : Packet) → IsOwn s number share e → IsBrought s workers
    count e
own_brought s workers count number share shares e own_e =
    let of = All-contains (λ t. (t < count) × (t % workers ≡ number)) share e.trace shares.own own_e.of_one in
    record { some = own_e.some; few = own_e.few; of_them = of.0; by_is = own_e.by_is ∙ sym of.1 }

module _ (s : Numbers) (cone workers : ℕ) (traces : List (List Item)) (shares : ℕ → List ℕ) (reads : ℕ → List (List Item))
    (shared : (number : ℕ) → number < workers → IsShare workers (length traces) number (shares number)) (history : List Packet) (numbered : All (λ e. e.by < workers) history) where
  module _ (each : (number : ℕ) → number < workers → All (IsOwn s number (shares number)) (own history number)) where
    are_brought : All (IsBrought s workers (length traces)) history
    are_brought = all_own (IsBrought s workers (length traces)) workers history numbered (λ number named. All-weaken number named (own history number) (each number named))
      where
        All-weaken : (number : ℕ) → number < workers → (xs : List Packet) → All (IsOwn s number (shares number)) xs → All (IsBrought s workers (length traces)) xs
        All-weaken number named xs all = λ k d below. own_brought s workers (length traces) number (shares number) (shared number named) _ (all k d below)

    -- the packets of a trace are those of its worker
    trace_own : (trace : ℕ) → of_trace history trace ≡ of_trace (own history (trace % workers)) trace
    trace_own trace = of_trace-own history trace (trace % workers) (λ k d below same. (are_brought k d below).by_is ∙ ap (λ t. t % workers) same)

  pub part_gathered : ((number place trace : ℕ) (whole : List Item) → number < workers → slice_get (shares number) place ≡ Some trace → slice_get traces trace ≡ Some whole →
      (read : List Item) × (slice_get (reads number) place ≡ Some read) × BeginsWith whole read) → (1 ≤ workers) →
      ((number : ℕ) → number < workers → HasPart s number cone (shares number) (reads number) (own history number)) →
      IsPartWoven s cone workers traces history
  part_gathered begun some brought = record {
    each = are_brought (λ number named. (brought number named).each);
    joined = λ trace items is. joined trace items is (named trace);
    cut = λ trace below. subst (AreCut s.packet) (sym (trace_own (λ number below. (brought number below).each) trace)) ((brought (trace % workers) (named trace)).cut trace);
  }
    where
      named : (trace : ℕ) → trace % workers < workers
      named trace = omega (arith, some)

      joined : (trace : ℕ) (items : List Item) → slice_get traces trace ≡ Some items → trace % workers < workers →
          BeginsWith (part_in weighed s cone items) (events_of (of_trace history trace))
      joined trace items is below =
          let there = (shared (trace % workers) below).all trace (slice_get_within traces trace items is) refl in
          let read = begun (trace % workers) there.0 trace items below there.1 is in
          let part = (brought (trace % workers) below).joined there.0 trace read.0 there.1 read.1 in
          subst (λ (xs : List Packet). BeginsWith (part_in weighed s cone items) (events_of xs)) (sym (trace_own (λ number below. (brought number below).each) trace))
          (begins_more (part_in weighed s cone items) (part_in weighed s cone read.0) (events_of (of_trace (own history (trace % workers)) trace)) (begins_part s cone items read.0 read.2) part)

  pub gathered : ((number place trace : ℕ) (whole : List Item) → number < workers → slice_get (shares number) place ≡ Some trace → slice_get traces trace ≡ Some whole →
      slice_get (reads number) place ≡ Some whole) → (1 ≤ workers) →
      ((number : ℕ) → number < workers → HasAll s number cone (shares number) (reads number) (own history number)) →
      IsWoven s cone workers traces history
  gathered whole_read some brought = record {
    each = are_brought (λ number named. (brought number named).each);
    joined = λ trace items is. joined trace items is (named trace);
    cut = λ trace below. subst (AreCut s.packet) (sym (trace_own (λ number below. (brought number below).each) trace)) ((brought (trace % workers) (named trace)).cut trace);
  }
    where
      named : (trace : ℕ) → trace % workers < workers
      named trace = omega (arith, some)

      joined : (trace : ℕ) (items : List Item) → slice_get traces trace ≡ Some items → trace % workers < workers → events_of (of_trace history trace) ≡ part_in weighed s cone items
      joined trace items is below =
          let there = (shared (trace % workers) below).all trace (slice_get_within traces trace items is) refl in
          ap events_of (trace_own (λ number below. (brought number below).each) trace)
          ∙ (brought (trace % workers) below).joined there.0 trace items there.1 (whole_read (trace % workers) there.0 trace items below there.1 is)
