-- Several traces, one after the other: one more, one that stops, all.
use Rattle.std.proofs.Common.{◌≡◌, ◌≢◌, ℕ, ◌+◌, ◌*◌, ◌<◌, ◌≤◌, cond, eqb, List, [], ◌∷◌, ◌++◌, length, map, set, get_or, Some, slice_get}
use Rattle.std.proofs.Common.{refl, ap, sym, ◌∙◌, subst, arith, append-nil, append_assoc, length-append}
use Rattle.std.specs.Prelude.{All, sum_by}
use Rattle.std.specs.List.Sorted.{IsStrictlyIncreasing}
use Rattle.std.proofs.lemmas.List.{get_or-append-add}
use Rattle.std.proofs.lemmas.List.Elements.{All-append, All-head, All-nil, All-weaker}
use Rattle.std.proofs.lemmas.List.Sums.{sum_by-append}
use Rattle.std.proofs.lemmas.Option.{get_or_from_slice_get, slice_get-get_or}
use Rattle.lert_base.specs.Packet.{Packet, of_trace}
use Rattle.lert_base.specs.Weave.{AreCut, IsWhole}
use Rattle.lert_conelock.specs.Sight.{Sight}
use Rattle.lert_spec.specs.{declared.item.Item.Item, declared.numbers.Numbers.Numbers, Counts.weighed, Mix.part_in}
use Rattle.lert_base.specs.declared.cone_fault.ConeFault.{ConeFault}
use Rattle.lert_worker.specs.Brings.{BringsPart, full_packets, late_tries}
use Rattle.lert_worker.specs.Ran.{RanIn}
use Rattle.lert_worker.specs.Runs.{BroughtIn}
use Rattle.lert_worker.specs.Sending.{IsOf, SentIn}
use Rattle.lert_worker.specs.declared.end.WorkerEnd.{WorkerEnd}
use Rattle.lert_worker.specs.declared.end.WorkerEnd.TheVariants.{Ran}
use Rattle.lert_worker.proofs.Counts.{counts_none, counts_on}
use Rattle.lert_worker.proofs.JoinLaws.{ascend_at, brings_all, brings_more, brings_part, of_here}
use Rattle.lert_worker.proofs.LaneLaws.{slice_get-first}

-- what holds of two lists together holds of the second
All-behind : {X : Type 0} (P : X → Type 0) (xs ys : List X) → All P (xs ++ ys) → All P ys
All-behind P xs ys all = λ k d below. subst P (get_or-append-add xs ys k d) (all (length xs + k) d (omega (arith, length-append xs ys)))

-- and of the first
front_all : {X : Type 0} (P : X → Type 0) (xs ys : List X) → All P (xs ++ ys) → All P xs
front_all P xs ys all = λ k d below.
    subst P (sym (get_or_from_slice_get xs k (get_or (xs ++ ys) k d) d
    (sym (slice_get-first xs ys k below) ∙ slice_get-get_or (xs ++ ys) k d (omega (arith, below, length-append xs ys)))))
    (all k d (omega (arith, below, length-append xs ys)))

-- each packet but the last is whole, also without the last ones
cut_front : (size : ℕ) (xs ys : List Packet) → AreCut size (xs ++ ys) → AreCut size xs
cut_front size xs ys cut = λ place packet within is.
    cut place packet (omega (arith, within, length-append xs ys)) (slice_get-first xs ys place (omega (arith, within)) ∙ is)

-- no packets
pub brought_none : {H F : Type 0} (s : Numbers) (number cone : ℕ) (traces : List ℕ) (reads : List (List Item))
    → ((place : ℕ) (items : List Item) → slice_get reads place ≡ Some items → items ≡ []) → (old : Sight H F) → BroughtIn s number cone traces reads 0 old old
brought_none s number cone traces reads unread old = record {
  added = [];
  calls_are = sym (append-nil old.calls);
  refused_are = refl;
  all = record {
    each = λ k d below. absurd (omega (arith, below));
    in_order = λ i j d first below. absurd (omega (arith, below));
    joined = λ place trace items at read. ap (part_in weighed s cone) (sym (unread place items read));
    cut = λ trace place packet below. absurd (omega (arith, below));
  };
  below = λ place trace from at. All-nil (λ (packet : Packet). packet.trace < trace);
  waits = omega arith;
  met = omega arith;
  counts = counts_none old;
}

module _ {H : Type 0} (s : Numbers) (number cone : ℕ) (traces : List ℕ) (reads : List (List Item)) (up : IsStrictlyIncreasing traces)
    (place trace : ℕ) (at : slice_get traces place ≡ Some trace) (within : place < length reads) (items : List Item)
    (old before after : Sight H ConeFault) (brought : BroughtIn s number cone traces reads place old before) where
  earlier : All (λ packet. packet.trace < trace) brought.added
  earlier = brought.below place trace (omega arith) at

  module _ (end : WorkerEnd) (sent : SentIn s number cone trace items end before after) where
    full_more : full_packets s (brought.added ++ sent.sent) ≡ full_packets s brought.added + full_packets s sent.sent
    full_more = sum_by-append (λ (p : Packet). cond (eqb (length p.items) (4 * s.packet)) 1 0) brought.added sent.sent

    calls_more : after.calls ≡ old.calls ++ (brought.added ++ sent.sent)
    calls_more = sent.calls_are ∙ (ap (λ xs. xs ++ sent.sent) brought.calls_are ∙ append_assoc old.calls brought.added sent.sent)

    waits_more : after.waits ≤ old.waits + full_packets s (brought.added ++ sent.sent) + (place + 1)
    waits_more = omega (arith, sent.waits, brought.waits, full_more)

    met_more : old.met + sum_by (late_tries s) (brought.added ++ sent.sent) ≤ after.met
    met_more = omega (arith, sent.met, brought.met, sum_by-append (late_tries s) brought.added sent.sent)

    -- the worker stopped at this trace
    pub stopped_in : end ≢ Ran → place + 1 ≤ length traces → RanIn s number cone traces (set reads place items) trace end old after
    stopped_in other few = record {
      added = brought.added ++ sent.sent;
      turned = sent.turned;
      calls_are = calls_more;
      refused_are = sent.refused_are ∙ ap (λ xs. xs ++ sent.turned) brought.refused_are;
      turned_is = sent.turned_is;
      part = subst (BringsPart s number cone traces (set reads place items)) (sym (append_assoc brought.added sent.sent (map (λ pair. pair.0) sent.turned)))
          (brings_part s number cone traces reads up place trace at within items brought.added brought.all earlier (sent.sent ++ map (λ pair. pair.0) sent.turned) sent.each sent.cut sent.part);
      of_stopped = λ packet fault is.
          let own = All-behind (IsOf s number trace) sent.sent (packet ∷ [])
          (subst (λ (ts : List (Packet × ConeFault)). All (IsOf s number trace) (sent.sent ++ map (λ pair. pair.0) ts)) is sent.each) in
          (All-head (IsOf s number trace) packet [] own).trace_is;
      all = λ ran. absurd (other ran);
      no_rest = λ open_is. subst (All (IsWhole s.packet)) (sym here) (sent.no_rest open_is);
      counted = record { waits = omega (arith, waits_more, few); met = met_more; counts = counts_on old before after brought.counts sent.counts };
    }
      where
        -- the packets of the trace, without the refused one
        here : of_trace (brought.added ++ sent.sent) trace ≡ sent.sent
        here = of_here s number cone traces reads up place trace at within items brought.added brought.all earlier sent.sent
            (front_all (IsOf s number trace) sent.sent (map (λ pair. pair.0) sent.turned) sent.each) (cut_front s.packet sent.sent (map (λ pair. pair.0) sent.turned) sent.cut)

  -- it was read to its end
  pub brought_more : SentIn s number cone trace items Ran before after → BroughtIn s number cone traces (set reads place items) (place + 1) old after
  brought_more sent =
      let none = append-nil sent.sent in
      let turned : sent.sent ++ map (λ (pair : Packet × ConeFault). pair.0) sent.turned ≡ sent.sent =
      ap (λ (ts : List (Packet × ConeFault)). sent.sent ++ map (λ pair. pair.0) ts) sent.turned_is ∙ none in
      let each : All (IsOf s number trace) sent.sent = subst (All (IsOf s number trace)) turned sent.each in
      record {
        added = brought.added ++ sent.sent;
        calls_are = calls_more Ran sent;
        refused_are = sent.refused_are ∙ (ap (λ xs. before.refused ++ xs) sent.turned_is ∙ (append-nil before.refused ∙ brought.refused_are));
        all = brings_more s number cone traces reads up place trace at within items brought.added brought.all earlier sent.sent each
            (subst (AreCut s.packet) turned sent.cut) (sent.all refl);
        below = λ other found from is.
            let less = ascend_at traces up place other trace found at is (omega (arith, from)) in
            All-append (λ (packet : Packet). packet.trace < found) brought.added sent.sent
            (brought.below other found (omega (arith, from)) is)
            (All-weaker (IsOf s number trace) (λ (packet : Packet). packet.trace < found) (λ p own. omega (arith, own.trace_is, less)) sent.sent each);
        waits = waits_more Ran sent;
        met = met_more Ran sent;
        counts = counts_on old before after brought.counts sent.counts;
      }

-- all traces were read to their ends
pub ran_in : {H : Type 0} (s : Numbers) (number cone : ℕ) (traces : List ℕ) (reads : List (List Item)) (done stopped : ℕ) (old new : Sight H ConeFault) → done ≤ length traces
    → BroughtIn s number cone traces reads done old new → RanIn s number cone traces reads stopped Ran old new
ran_in s number cone traces reads done stopped old new few brought = record {
  added = brought.added;
  turned = [];
  calls_are = brought.calls_are;
  refused_are = brought.refused_are ∙ sym (append-nil old.refused);
  turned_is = refl;
  part = subst (BringsPart s number cone traces reads) (sym (append-nil brought.added)) (brings_all s number cone traces reads brought.added brought.all);
  of_stopped = λ packet fault is. absurd (cc);
  all = λ _. brought.all;
  no_rest = λ open_is. absurd open_is;
  counted = record { waits = omega (arith, brought.waits, few); met = brought.met; counts = brought.counts };
}
