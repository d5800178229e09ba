-- One cone while a trace is read: an item more, a packet more, a refusal, the rest.
use Rattle.std.proofs.Common.{◌≡◌, ◌≢◌, ℕ, zero, suc, ◌+◌, ◌*◌, ◌<◌, ◌≤◌, Bool, cond, eqb, List, [], ◌∷◌, ◌++◌, length}
use Rattle.std.proofs.Common.{Some, slice_get, refl, ap, sym, ◌∙◌, subst, arith, append-nil, append_assoc, length-append}
use Rattle.std.specs.Prelude.{All, sum_by}
use Rattle.std.proofs.lemmas.Bool.{eq-eqb, ne_eqb}
use Rattle.std.proofs.lemmas.List.Concat.{flat_map-append}
use Rattle.std.proofs.lemmas.List.Elements.{All-push, All-nil, filter-append}
use Rattle.std.proofs.lemmas.List.Sums.{sum_by_push}
use Rattle.std.proofs.lemmas.Option.{get_or_from_slice_get}
use Rattle.lert_base.specs.Packet.{Packet, events_of}
use Rattle.lert_base.specs.Weave.{AreCut, IsWhole}
use Rattle.lert_conelock.specs.Sight.{Sight}
use Rattle.lert_spec.specs.declared.numbers.Numbers.{Numbers}
use Rattle.lert_spec.specs.{declared.item.Item.Item, Counts.weighed, Mix.{cone_of, part_in}}
use Rattle.lert_worker.specs.Brings.{full_packets, late_tries}
use Rattle.lert_worker.specs.Outbox.{IsSendable}
use Rattle.lert_worker.specs.Sending.{IsOf, Lane, WasBusy, WasTaken}
use Rattle.lert_worker.proofs.Counts.{counts_none, counts_on, late_fits, step_back, times_least}

-- the packet of a ring
abbrev pub ringed : ℕ → ℕ → List Item → Packet
ringed number trace ring = record { by = number; trace = trace; items = ring }

pub events_push : (packets : List Packet) (packet : Packet) → events_of (packets ++ packet ∷ []) ≡ events_of packets ++ packet.items
events_push packets packet =
    flat_map-append (λ (p : Packet). p.items) packets (packet ∷ []) ∙ ap (λ items. events_of packets ++ items) (append-nil packet.items)

pub slice_get-first : {X : Type 0} (xs ys : List X) (i : ℕ) → i < length xs → slice_get (xs ++ ys) i ≡ slice_get xs i
slice_get-first [] ys i within = absurd (omega arith)
slice_get-first (x ∷ xs) ys zero within = refl
slice_get-first (x ∷ xs) ys (suc i) within = slice_get-first xs ys i (omega arith)

-- an item more of the cone, and of another one
part-push_same : (s : Numbers) (cone : ℕ) (item : Item) (items : List Item) → cone_of s item.key ≡ cone
    → part_in weighed s cone (items ++ item ∷ []) ≡ part_in weighed s cone items ++ item ∷ []
part-push_same s cone item items same =
    filter-append (λ (i : Item). eqb (cone_of s i.key) cone) items (item ∷ [])
    ∙ ap (λ (b : Bool). part_in weighed s cone items ++ cond b (item ∷ []) []) (eq-eqb (cone_of s item.key) cone same)

part-push_other : (s : Numbers) (cone : ℕ) (item : Item) (items : List Item) → cone_of s item.key ≢ cone
    → part_in weighed s cone (items ++ item ∷ []) ≡ part_in weighed s cone items
part-push_other s cone item items other =
    filter-append (λ (i : Item). eqb (cone_of s i.key) cone) items (item ∷ [])
    ∙ (ap (λ (b : Bool). part_in weighed s cone items ++ cond b (item ∷ []) []) (ne_eqb (cone_of s item.key) cone other)
    ∙ append-nil (part_in weighed s cone items))

-- a packet behind whole ones
pub cut_push : (size : ℕ) (sent : List Packet) (packet : Packet) → All (IsWhole size) sent → AreCut size (sent ++ packet ∷ [])
cut_push size sent packet whole = λ place found within is.
    let below : place < length sent = omega (arith, within, length-append sent (packet ∷ [])) in
    let there : slice_get sent place ≡ Some found = sym (slice_get-first sent (packet ∷ []) place below) ∙ is in
    subst (IsWhole size) (get_or_from_slice_get sent place found found there) (whole place found below)

pub cut_whole : (size : ℕ) (sent : List Packet) → All (IsWhole size) sent → AreCut size sent
cut_whole size sent whole = λ place found within is.
    subst (IsWhole size) (get_or_from_slice_get sent place found found is) (whole place found (omega (arith, within)))

pub full_push : (s : Numbers) (sent : List Packet) (packet : Packet)
    → full_packets s (sent ++ packet ∷ []) ≡ full_packets s sent + cond (eqb (length packet.items) (4 * s.packet)) 1 0
full_push s sent packet = sum_by_push (λ (p : Packet). cond (eqb (length p.items) (4 * s.packet)) 1 0) sent packet

pub late_push : (s : Numbers) (sent : List Packet) (packet : Packet)
    → sum_by (late_tries s) (sent ++ packet ∷ []) ≡ sum_by (late_tries s) sent + late_tries s packet
late_push s sent packet = sum_by_push (late_tries s) sent packet

-- what is so of packets is so with no packets behind them
pub with_none : (P : List Packet → Type 0) (sent : List Packet) → P sent → P (sent ++ [])
with_none P sent is = subst P (sym (append-nil sent)) is

module _ {H F : Type 0} (s : Numbers) (number cone trace : ℕ) where
  pub lane_start : 1 ≤ s.packet → (before : Sight H F) → Lane s number cone trace [] 0 before before []
  lane_start some before = record {
    sent = [];
    calls_are = sym (append-nil before.calls);
    refused_are = refl;
    each = All-nil (IsOf s number trace);
    whole = All-nil (IsWhole s.packet);
    joined = refl;
    waits = omega arith;
    met = λ k small. let least = times_least k s.packet some in omega (arith, least, small);
    counts = counts_none before;
  }

  pub lane_same : (item : Item) (items ring : List Item) (tried : ℕ) (before now : Sight H F) → cone_of s item.key ≡ cone
      → Lane s number cone trace items tried before now ring → Lane s number cone trace (items ++ item ∷ []) tried before now (ring ++ item ∷ [])
  lane_same item items ring tried before now same lane = record {
    sent = lane.sent;
    calls_are = lane.calls_are;
    refused_are = lane.refused_are;
    each = lane.each;
    whole = lane.whole;
    joined = sym (append_assoc (events_of lane.sent) ring (item ∷ [])) ∙ (ap (λ xs. xs ++ item ∷ []) lane.joined ∙ sym (part-push_same s cone item items same));
    waits = lane.waits;
    met = lane.met;
    counts = lane.counts;
  }

  pub lane_other : (item : Item) (items ring : List Item) (tried : ℕ) (before now : Sight H F) → cone_of s item.key ≢ cone
      → Lane s number cone trace items tried before now ring → Lane s number cone trace (items ++ item ∷ []) tried before now ring
  lane_other item items ring tried before now other lane = record {
    sent = lane.sent;
    calls_are = lane.calls_are;
    refused_are = lane.refused_are;
    each = lane.each;
    whole = lane.whole;
    joined = lane.joined ∙ sym (part-push_other s cone item items other);
    waits = lane.waits;
    met = lane.met;
    counts = lane.counts;
  }

  -- the ring asked for nothing
  pub lane_tried : (items ring : List Item) (tried more : ℕ) (before now : Sight H F) → ((k : ℕ) → k * s.packet ≤ more → k * s.packet ≤ tried)
      → Lane s number cone trace items tried before now ring → Lane s number cone trace items more before now ring
  lane_tried items ring tried more before now still lane = record {
    sent = lane.sent;
    calls_are = lane.calls_are;
    refused_are = lane.refused_are;
    each = lane.each;
    whole = lane.whole;
    joined = lane.joined;
    waits = lane.waits;
    met = λ k small. lane.met k (still k small);
    counts = lane.counts;
  }

  module _ (some : 1 ≤ s.packet) (items ring : List Item) (tried : ℕ) (before now : Sight H F)
      (lane : Lane s number cone trace items tried before now ring) (last : length ring ≤ tried + 1) where
    -- the cone was held
    pub lane_stays : (after : Sight H F) → WasBusy now after → Lane s number cone trace items (length ring) before after ring
    lane_stays after busy = record {
      sent = lane.sent;
      calls_are = ap (λ (x : Sight H F). x.calls) busy.lost.shows ∙ lane.calls_are;
      refused_are = ap (λ (x : Sight H F). x.refused) busy.lost.shows ∙ lane.refused_are;
      each = lane.each;
      whole = lane.whole;
      joined = lane.joined;
      waits = let same = ap (λ (x : Sight H F). x.waits) busy.lost.shows in omega (arith, same, lane.waits);
      met = met_more (ap (λ (x : Sight H F). x.met) busy.lost.shows);
      counts = counts_on before now after lane.counts busy.counts;
    }
      where
        met_more : after.met ≡ now.met + 1 → (k : ℕ) → k * s.packet ≤ length ring → before.met + sum_by (late_tries s) lane.sent + k ≤ after.met
        met_more same zero small = let old = lane.met zero (omega arith) in omega (arith, same, old)
        met_more same (suc k) small = let old = lane.met k (step_back k s.packet tried some (omega (arith, small, last))) in omega (arith, same, old)

    module _ (may : IsSendable s cone ring) where
      pub own_packet : IsOf s number trace (ringed number trace ring)
      own_packet = record { some = may.some; few = may.few; weights = λ place d within. (may.of_cone place d within).1; by_is = refl; trace_is = refl }

      pub joined_more : events_of (lane.sent ++ ringed number trace ring ∷ []) ≡ part_in weighed s cone items
      joined_more = events_push lane.sent (ringed number trace ring) ∙ lane.joined

      pub met_more : (after : ℕ) → now.met ≤ after → before.met + sum_by (late_tries s) (lane.sent ++ ringed number trace ring ∷ []) ≤ after
      met_more after grows =
          let late = late_fits s.packet (length ring) some may.some in
          let old = lane.met (late_tries s (ringed number trace ring)) (omega (arith, late, last)) in
          omega (arith, old, grows, late_push s lane.sent (ringed number trace ring))

      -- the cone took the ring's items as one packet
      pub lane_taken : (more : ℕ) (after : Sight H F) → WasTaken (ringed number trace ring) more now after → IsWhole s.packet (ringed number trace ring)
          → more ≤ cond (eqb (length ring) (4 * s.packet)) 1 0 → Lane s number cone trace items 0 before after []
      lane_taken more after taken whole few = record {
        sent = lane.sent ++ ringed number trace ring ∷ [];
        calls_are = taken.calls_are ∙ (ap (λ xs. xs ++ ringed number trace ring ∷ []) lane.calls_are ∙ append_assoc before.calls lane.sent (ringed number trace ring ∷ []));
        refused_are = taken.refused_are ∙ lane.refused_are;
        each = All-push (IsOf s number trace) lane.sent (ringed number trace ring) lane.each own_packet;
        whole = All-push (IsWhole s.packet) lane.sent (ringed number trace ring) lane.whole whole;
        joined = append-nil (events_of (lane.sent ++ ringed number trace ring ∷ [])) ∙ joined_more;
        waits = omega (arith, taken.waits_are, lane.waits, few, full_push s lane.sent (ringed number trace ring));
        met = λ k small.
            let least = times_least k s.packet some in
            let met = met_more after.met taken.met in
            omega (arith, least, small, met);
        counts = counts_on before now after lane.counts taken.counts;
      }
