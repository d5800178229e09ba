-- What the items of a trace brought to one cone: all of them at its end, and a beginning of them where the worker stopped.
use Rattle.std.proofs.{Common.{◌≡◌, ◌≢◌, ℕ, ◌+◌, ◌<◌, ◌≤◌, List, [], ◌∷◌, ◌++◌, length, refl, ap, sym, ◌∙◌, arith, append-nil, append_assoc}, lemmas.List.Elements.All-push}
use Rattle.std.specs.Prelude.{All, sum_by}
use Rattle.lert_base.specs.{Beginning.BeginsWith, Packet.{Packet, events_of}, Weave.AreCut, declared.cone_fault.ConeFault.ConeFault}
use Rattle.lert_conelock.specs.Sight.{Sight}
use Rattle.lert_spec.specs.{declared.item.Item.Item, declared.numbers.Numbers.Numbers, Counts.weighed, Mix.part_in}
use Rattle.lert_worker.specs.{Brings.late_tries, Outbox.IsSendable, Ran.IsTurned, Sending.{IsOf, Lane, SentIn, WasTaken, WasTurned}, declared.end.WorkerEnd.WorkerEnd}
use Rattle.lert_worker.specs.declared.end.WorkerEnd.TheVariants.{Ran, Cone}
use Rattle.lert_worker.proofs.{Counts.counts_on, LaneLaws.{cut_push, cut_whole, full_push, joined_more, met_more, own_packet, ringed, with_none}}

module _ {H : Type 0} (s : Numbers) (number cone trace : ℕ) where
  -- the cone refused a packet before: the trace is left where it is
  pub rested_stopped : (items : List Item) (at : ℕ) (fault : ConeFault) (before after : Sight H ConeFault) → cone < at
      → SentIn s number cone trace items Ran before after → SentIn s number cone trace items (Cone at fault) before after
  rested_stopped items at fault before after below rested = record {
    sent = rested.sent;
    turned = rested.turned;
    calls_are = rested.calls_are;
    refused_are = rested.refused_are;
    turned_is = (λ _. rested.turned_is, λ same. absurd (omega (arith, below, same)));
    each = rested.each;
    cut = rested.cut;
    part = rested.part;
    all = λ ran. absurd (cc);
    no_rest = λ open_is. absurd (omega (arith, below, open_is));
    waits = rested.waits;
    met = rested.met;
    counts = rested.counts;
  }

  module _ (some : 1 ≤ s.packet) (items : List Item) (ring : List Item) (tried : ℕ) (before now : Sight H ConeFault)
      (lane : Lane s number cone trace items tried before now ring) where
    met_kept : before.met + sum_by (late_tries s) lane.sent ≤ now.met
    met_kept = let old = lane.met 0 (omega arith) in omega (arith, old)

    -- the trace is left where it is, with items in the ring
    pub lane_stopped : (end : WorkerEnd) → IsTurned end cone [] → (end ≢ Ran) → SentIn s number cone trace items end before now
    lane_stopped end none other = record {
      sent = lane.sent;
      turned = [];
      calls_are = lane.calls_are;
      refused_are = lane.refused_are ∙ sym (append-nil before.refused);
      turned_is = none;
      each = with_none (All (IsOf s number trace)) lane.sent lane.each;
      cut = with_none (AreCut s.packet) lane.sent (cut_whole s.packet lane.sent lane.whole);
      part = with_none (λ packets. BeginsWith (part_in weighed s cone items) (events_of packets)) lane.sent (ring, lane.joined);
      all = λ ran. absurd (other ran);
      no_rest = λ _. lane.whole;
      waits = omega (arith, lane.waits);
      met = met_kept;
      counts = lane.counts;
    }

    -- its end came with no item in the ring
    pub lane_empty : ring ≡ [] → SentIn s number cone trace items Ran before now
    lane_empty none =
        let joined : events_of lane.sent ≡ part_in weighed s cone items =
        sym (append-nil (events_of lane.sent)) ∙ (ap (λ xs. events_of lane.sent ++ xs) (sym none) ∙ lane.joined) in
        record {
          sent = lane.sent;
          turned = [];
          calls_are = lane.calls_are;
          refused_are = lane.refused_are ∙ sym (append-nil before.refused);
          turned_is = refl;
          each = with_none (All (IsOf s number trace)) lane.sent lane.each;
          cut = with_none (AreCut s.packet) lane.sent (cut_whole s.packet lane.sent lane.whole);
          part = with_none (λ packets. BeginsWith (part_in weighed s cone items) (events_of packets)) lane.sent ([], append-nil (events_of lane.sent) ∙ joined);
          all = λ _. joined;
          no_rest = λ open_is. absurd open_is;
          waits = omega (arith, lane.waits);
          met = met_kept;
          counts = lane.counts;
        }

    module _ (last : length ring ≤ tried + 1) (may : IsSendable s cone ring) where
      abbrev packets : List Packet
      packets = lane.sent ++ ringed number trace ring ∷ []

      each_more : All (IsOf s number trace) packets
      each_more = All-push (IsOf s number trace) lane.sent (ringed number trace ring) lane.each (own_packet s number cone trace some items ring tried before now lane last may)

      events_are : events_of packets ≡ part_in weighed s cone items
      events_are = joined_more s number cone trace some items ring tried before now lane last may

      -- its end came, and the cone took the items of the ring
      pub lane_rest : (after : Sight H ConeFault) → WasTaken (ringed number trace ring) 1 now after → SentIn s number cone trace items Ran before after
      lane_rest after taken = record {
        sent = packets;
        turned = [];
        calls_are = taken.calls_are ∙ (ap (λ xs. xs ++ ringed number trace ring ∷ []) lane.calls_are ∙ append_assoc before.calls lane.sent (ringed number trace ring ∷ []));
        refused_are = taken.refused_are ∙ (lane.refused_are ∙ sym (append-nil before.refused));
        turned_is = refl;
        each = with_none (All (IsOf s number trace)) packets each_more;
        cut = with_none (AreCut s.packet) packets (cut_push s.packet lane.sent (ringed number trace ring) lane.whole);
        part = with_none (λ ps. BeginsWith (part_in weighed s cone items) (events_of ps)) packets ([], append-nil (events_of packets) ∙ events_are);
        all = λ _. events_are;
        no_rest = λ open_is. absurd open_is;
        waits = omega (arith, taken.waits_are, lane.waits, full_push s lane.sent (ringed number trace ring));
        met = met_more s number cone trace some items ring tried before now lane last may after.met taken.met;
        counts = counts_on before now after lane.counts taken.counts;
      }

      -- the cone refused the packet of the ring
      pub lane_turned : (fault : ConeFault) (more : ℕ) (after : Sight H ConeFault) → WasTurned (ringed number trace ring) fault more now after → more ≤ 1
          → SentIn s number cone trace items (Cone cone fault) before after
      lane_turned fault more after turned few = record {
        sent = lane.sent;
        turned = (ringed number trace ring, fault) ∷ [];
        calls_are = turned.calls_are ∙ lane.calls_are;
        refused_are = turned.refused_are ∙ ap (λ xs. xs ++ (ringed number trace ring, fault) ∷ []) lane.refused_are;
        turned_is = (λ apart. absurd (apart refl), λ _. (ringed number trace ring, refl));
        each = each_more;
        cut = cut_push s.packet lane.sent (ringed number trace ring) lane.whole;
        part = ([], append-nil (events_of packets) ∙ events_are);
        all = λ ran. absurd (cc);
        no_rest = λ _. lane.whole;
        waits = omega (arith, turned.waits_are, lane.waits, few);
        met = omega (arith, met_kept, turned.met);
        counts = counts_on before now after lane.counts turned.counts;
      }
