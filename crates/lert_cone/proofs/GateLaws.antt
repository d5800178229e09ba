-- What stands at the gates of a journal that is read anew: the packets of its history in turn, and nothing else.
use Rattle.lert_spec.specs.declared.item.Item.{Item}
use Rattle.std.proofs.Common.{◌≡◌, ℕ, ◌+◌, ◌<◌, ◌≤◌, Bool, true, List, [], ◌∷◌, ◌++◌, length, take, drop, map, All, sym, ap, ◌∙◌, subst, inl, inr, ◌⊎◌, arith, length-append, append-nil}
use Rattle.std.proofs.{Common.append_assoc, Math.Seq.get_or-append_seam, lemmas.Bool.false≢true, lemmas.Grind.flat_map-append, lemmas.List.take-append-drop}
use Rattle.lert_base.specs.Packet.{keys_of, Packet, events_of}
use Rattle.lert_gatelog.specs.Gated.{IsOpen, IsClosed, Records, next_gate}
use Rattle.lert_gatelog.proofs.Deciding.{one_payload, open_or_closed}
use Rattle.lert_journal.specs.{Journal.{HoldsPacket, LeavesAt}, Payload.{payload_of, packet_in, IsJournaled}}
use Rattle.lert_journal.proofs.{OneAnswer.{packet_or_left, closed_or_left, one_place_left}, PayloadBack.packet_back}
use Rattle.lert_spec.specs.{declared.numbers.Numbers.Numbers, Edges.key_limit}
use Rattle.lert_cone.specs.{History.{end_of}, Replay.{IsPast, IsNext, MayFollow, ReplayLeavesAt, In_record, Too_few, Past_the_end, Too_many, Too_heavy, weight_behind}, Sound.{IsJournal, KeysFit}}
use Rattle.lert_cone.proofs.SoundLaws.{events_more, end_more}
use Rattle.lert_journal.specs.Payload.{most_payload}
use Rattle.lert_cone.proofs.ItemLaws.{end_none}
use Rattle.lert_spec.specs.{Counts.{weighed, weight_of}, Edges.edge}
use Rattle.lert_cone.proofs.WeighLaws.{light_next}

-- ---- from packet to packet

-- one packet more
pub past_more : {version : ℕ} (history done : List Packet) (events : List Item) (gate : ℕ) (packet : Packet) → IsPast version history done events gate → IsNext history done packet →
    IsPast version history (done ++ packet ∷ []) (events ++ packet.items) (next_gate gate (payload_of version packet))
past_more {version} history done events gate packet past next = record {
  rest = next.rest;
  is = next.is ∙ sym (append_assoc done (packet ∷ []) next.rest);
  keys = ap (λ keys. keys ++ packet.items) past.keys ∙ sym (events_more done packet);
  gate_is = ap (λ g. next_gate g (payload_of version packet)) past.gate_is ∙ end_more version done packet;
}

-- the items so far begin those of the history
pub keys_past : {version : ℕ} (history done : List Packet) (events : List Item) (gate : ℕ) (past : IsPast version history done events gate) → events_of history ≡ events ++ events_of past.rest
keys_past history done events gate past =
    ap events_of past.is
    ∙ (flat_map-append (λ (p : Packet). p.items) done past.rest
    ∙ ap (λ keys. keys ++ events_of past.rest) (sym past.keys))

-- and behind them come those of the next packet
pub keys_next : {version : ℕ} (history done : List Packet) (events : List Item) (gate : ℕ) (packet : Packet) → IsPast version history done events gate → (next : IsNext history done packet) →
    events_of history ≡ events ++ (packet.items ++ events_of next.rest)
keys_next history done events gate packet past next =
    ap events_of next.is
    ∙ (flat_map-append (λ (p : Packet). p.items) done (packet ∷ next.rest)
    ∙ ap (λ keys. keys ++ (packet.items ++ events_of next.rest)) (sym past.keys))

-- the first of them are taken, the others are still to come
pub keys_cut : (history : List Packet) (events keys rest : List Item) (count : ℕ) → events_of history ≡ events ++ (keys ++ rest) → events_of history ≡ (events ++ take count keys) ++
    (drop count keys ++ rest)
keys_cut history events keys rest count is =
    is
    ∙ (ap (λ ks. events ++ (ks ++ rest)) (sym (take-append-drop count keys))
    ∙ (ap (λ ks. events ++ ks) (append_assoc (take count keys) (drop count keys) rest)
    ∙ sym (append_assoc events (take count keys) (drop count keys ++ rest))))

-- one packet stands at a gate
pub one_packet : {version : ℕ} (s : Numbers) (cone : ℕ) (bytes : List ℕ) (gate : ℕ) (one other : Packet) → HoldsPacket version s cone (most_payload version s) bytes gate one →
    HoldsPacket version s cone
    (most_payload version s) bytes gate other → one ≡ other
one_packet {version} s cone bytes gate one other holds too =
    sym (packet_back version one (omega (arith, holds.journaled.by_most)) (omega (arith, holds.journaled.trace_most)) holds.fits holds.journaled.weighed)
    ∙ (ap (packet_in version) (one_payload (most_payload version s) bytes gate (payload_of version one) (payload_of version other) holds.stands too.stands)
    ∙ packet_back version other (omega (arith, too.journaled.by_most)) (omega (arith, too.journaled.trace_most)) too.fits too.journaled.weighed)

-- ---- only one of these stands at a gate

-- a packet that may stand there, or a place at which the format is left
pub packet_or_leaves : {version : ℕ} (s : Numbers) (cone n0 : ℕ) (closed : Bool) (n w : ℕ) (bytes : List ℕ) (gate at : ℕ) (packet : Packet) →
    HoldsPacket version s cone (most_payload version s) bytes gate packet →
    MayFollow s n0 closed n w packet →
    ReplayLeavesAt version s cone n0 closed n w bytes gate at → ⊥
packet_or_leaves {version} s cone n0 closed n w bytes gate at packet holds may (In_record leaves) = packet_or_left version s cone (most_payload version s) bytes gate at packet holds leaves
packet_or_leaves {version} s cone n0 closed n w bytes gate at packet holds may (Too_few shut few at_is) = open_or_closed (most_payload version s) bytes gate (payload_of version packet) holds.stands
    shut
packet_or_leaves s cone n0 closed n w bytes gate at packet holds may (Past_the_end other there ended goes at_is) =
    absurd (omega (arith, goes, ap (λ (p : Packet). length p.items) (one_packet s cone bytes gate packet other holds there), may.before_closing ended))
packet_or_leaves s cone n0 closed n w bytes gate at packet holds may (Too_many other there running many at_is) =
    absurd (omega (arith, many, ap (λ (p : Packet). length p.items) (one_packet s cone bytes gate packet other holds there), may.within))
packet_or_leaves s cone n0 closed n w bytes gate at packet holds may (Too_heavy other there before within heavy at_is) =
    absurd (omega (arith, heavy, ap (λ (p : Packet). weight_behind (edge s 0 n0) n p.items) (one_packet s cone bytes gate packet other holds there), may.light))

-- a closed gate behind enough events, or a place
pub closed_or_leaves : {version : ℕ} (s : Numbers) (cone n0 : ℕ) (closed : Bool) (n w : ℕ) (bytes : List ℕ) (gate at : ℕ) → IsClosed bytes gate → n0 ≤ n →
    ReplayLeavesAt version s cone n0 closed n w bytes gate at → ⊥
closed_or_leaves {version} s cone n0 closed n w bytes gate at shut enough (In_record leaves) = closed_or_left version s cone (most_payload version s) bytes gate at shut leaves
closed_or_leaves s cone n0 closed n w bytes gate at shut enough (Too_few too few at_is) = absurd (omega (arith, few, enough))
closed_or_leaves {version} s cone n0 closed n w bytes gate at shut enough (Past_the_end packet there ended goes at_is) = open_or_closed (most_payload version s) bytes gate (payload_of version packet)
    there.stands shut
closed_or_leaves {version} s cone n0 closed n w bytes gate at shut enough (Too_many packet there running many at_is) = open_or_closed (most_payload version s) bytes gate (payload_of version packet)
    there.stands shut
closed_or_leaves {version} s cone n0 closed n w bytes gate at shut enough (Too_heavy packet there before within heavy at_is) =
    open_or_closed (most_payload version s) bytes gate (payload_of version packet) there.stands shut

-- a packet that may not, or a closed gate behind too few events, has no other place
held_place : {version : ℕ} (s : Numbers) (cone n0 : ℕ) (closed : Bool) (n w : ℕ) (bytes : List ℕ) (gate at : ℕ) (packet : Packet) →
    HoldsPacket version s cone (most_payload version s) bytes gate packet →
    ReplayLeavesAt version s cone n0 closed n w bytes gate at →
    ((closed ≡ true) × (n0 < n + length packet.items) × (at ≡ gate)) ⊎ ((closed ≡ true → n + length packet.items ≤ n0) × (at ≡ gate + 1))
held_place {version} s cone n0 closed n w bytes gate at packet holds (In_record leaves) = absurd (packet_or_left version s cone (most_payload version s) bytes gate at packet holds leaves)
held_place {version} s cone n0 closed n w bytes gate at packet holds (Too_few shut few at_is) = absurd (open_or_closed (most_payload version s) bytes gate (payload_of version packet) holds.stands
    shut)
held_place s cone n0 closed n w bytes gate at packet holds (Past_the_end other there ended goes at_is) =
    inl (ended, omega (arith, goes, ap (λ (p : Packet). length p.items) (one_packet s cone bytes gate packet other holds there)), at_is)
held_place s cone n0 closed n w bytes gate at packet holds (Too_many other there running many at_is) = inr (λ ended. absurd (false≢true (sym running ∙ ended)), at_is)
held_place s cone n0 closed n w bytes gate at packet holds (Too_heavy other there before within heavy at_is) =
    inr (λ ended. omega (arith, before ended, ap (λ (p : Packet). length p.items) (one_packet s cone bytes gate packet other holds there)), at_is)

shut_place : {version : ℕ} (s : Numbers) (cone n0 : ℕ) (closed : Bool) (n w : ℕ) (bytes : List ℕ) (gate at : ℕ) → IsClosed bytes gate → ReplayLeavesAt version s cone n0 closed n w bytes gate at →
    at ≡ gate
shut_place {version} s cone n0 closed n w bytes gate at shut (In_record leaves) = absurd (closed_or_left version s cone (most_payload version s) bytes gate at shut leaves)
shut_place s cone n0 closed n w bytes gate at shut (Too_few too few at_is) = at_is
shut_place {version} s cone n0 closed n w bytes gate at shut (Past_the_end packet there ended goes at_is) = absurd (open_or_closed (most_payload version s) bytes gate (payload_of version packet)
    there.stands shut)
shut_place {version} s cone n0 closed n w bytes gate at shut (Too_many packet there running many at_is) = absurd (open_or_closed (most_payload version s) bytes gate (payload_of version packet)
    there.stands shut)
shut_place {version} s cone n0 closed n w bytes gate at shut (Too_heavy packet there before within heavy at_is) =
    absurd (open_or_closed (most_payload version s) bytes gate (payload_of version packet) there.stands shut)

left_place : {version : ℕ} (s : Numbers) (cone n0 : ℕ) (closed : Bool) (n w : ℕ) (bytes : List ℕ) (gate at other : ℕ) → LeavesAt version s cone (most_payload version s) bytes gate at →
    ReplayLeavesAt version s cone n0 closed n w bytes gate other → at ≡ other
left_place {version} s cone n0 closed n w bytes gate at other left (In_record leaves) = one_place_left version s cone (most_payload version s) bytes gate at other left leaves
left_place {version} s cone n0 closed n w bytes gate at other left (Too_few shut few at_is) = absurd (closed_or_left version s cone (most_payload version s) bytes gate at shut left)
left_place {version} s cone n0 closed n w bytes gate at other left (Past_the_end packet there ended goes at_is) = absurd (packet_or_left version s cone (most_payload version s) bytes gate at packet
    there left)
left_place {version} s cone n0 closed n w bytes gate at other left (Too_many packet there running many at_is) = absurd (packet_or_left version s cone (most_payload version s) bytes gate at packet
    there left)
left_place {version} s cone n0 closed n w bytes gate at other left (Too_heavy packet there before within heavy at_is) =
    absurd (packet_or_left version s cone (most_payload version s) bytes gate at packet there left)

-- one place is the first
pub one_replay_place : {version : ℕ} (s : Numbers) (cone n0 : ℕ) (closed : Bool) (n w : ℕ) (bytes : List ℕ) (gate at other : ℕ) → ReplayLeavesAt version s cone n0 closed n w bytes gate at →
    ReplayLeavesAt version s cone n0 closed n w bytes gate other → at ≡ other
one_replay_place s cone n0 closed n w bytes gate at other (In_record leaves) too = left_place s cone n0 closed n w bytes gate at other leaves too
one_replay_place s cone n0 closed n w bytes gate at other (Too_few shut few at_is) too = at_is ∙ sym (shut_place s cone n0 closed n w bytes gate other shut too)
one_replay_place s cone n0 closed n w bytes gate at other (Past_the_end packet holds ended goes at_is) too = elim (held_place s cone n0 closed n w bytes gate other packet holds too) [
  | inl same ↦ at_is ∙ sym same.2
  | inr differs ↦ absurd (omega (arith, goes, differs.0 ended))
]
one_replay_place s cone n0 closed n w bytes gate at other (Too_many packet holds running many at_is) too = elim (held_place s cone n0 closed n w bytes gate other packet holds too) [
  | inl differs ↦ absurd (false≢true (sym running ∙ differs.0))
  | inr same ↦ at_is ∙ sym same.1
]
one_replay_place s cone n0 closed n w bytes gate at other (Too_heavy packet holds before within heavy at_is) too = elim (held_place s cone n0 closed n w bytes gate other packet holds too) [
  | inl differs ↦ absurd (omega (arith, before differs.0, differs.1))
  | inr same ↦ at_is ∙ sym same.1
]

-- ---- the packets of a history

-- the packets behind some others stand from the gate behind those on
from_gate : (version : ℕ) (most : ℕ) (bytes : List ℕ) (front done rest : List Packet) (end : ℕ) → Records most bytes (end_of version front) (map (payload_of version) (done ++ rest)) end →
    Records most bytes (end_of version
    (front ++ done)) (map (payload_of version) rest) end
from_gate version most bytes front [] rest end there = subst (λ (h : List Packet). Records most bytes (end_of version h) (map (payload_of version) rest) end) (sym (append-nil front)) there
from_gate version most bytes front (packet ∷ done) rest end there =
    subst (λ (h : List Packet). Records most bytes (end_of version h) (map (payload_of version) rest) end) (append_assoc front (packet ∷ []) done)
    (from_gate version most bytes (front ++ packet ∷ []) done rest end (subst (λ (gate : ℕ). Records most bytes gate (map (payload_of version) (done ++ rest)) end) (end_more version front packet)
    there.1))

-- what holds of each holds of the one behind some
at_seam : (P : Packet → Type 0) (done rest : List Packet) (packet : Packet) → All P (done ++ packet ∷ rest) → P packet
at_seam P done rest packet all =
    subst P (get_or-append_seam done packet rest packet) (all (length done) packet (omega (arith, length-append done (packet ∷ rest))))

-- the next packet of a history stands there, or they were all read and the gate is closed
abbrev pub NextOrEnd : (version : ℕ) → Numbers → ℕ → List ℕ → List Packet → List Packet → ℕ → Type 0
NextOrEnd version s cone bytes history done gate =
    ((done ≡ history) × IsClosed bytes gate) ⊎ ((packet : Packet) × IsNext history done packet × HoldsPacket version s cone (most_payload version s) bytes gate packet)

module _ {version : ℕ} (s : Numbers) (cone : ℕ) (bytes : List ℕ) (history done : List Packet) (events : List Item) (gate : ℕ) (journal : IsJournal version s cone history bytes)
    (past : IsPast version history done events gate) where
  next_by : (rest : List Packet) → history ≡ done ++ rest → NextOrEnd version s cone bytes history done gate
  next_by [] is =
      let all : done ≡ history = sym (is ∙ append-nil done) in
      inl (all, subst (IsClosed bytes) (sym (past.gate_is ∙ ap (end_of version) all)) journal.records.closed)
  next_by (packet ∷ rest) is =
      let there : Records (most_payload version s) bytes (end_of version []) (map (payload_of version) (done ++ packet ∷ rest)) (end_of version history) =
      subst (λ (gate : ℕ). Records (most_payload version s) bytes gate (map (payload_of version) (done ++ packet ∷ rest)) (end_of version history)) (sym (end_none version))
      (subst (λ (h : List Packet). Records (most_payload version s) bytes 32 (map (payload_of version) h) (end_of version history)) is journal.records.records) in
      inr (
        packet,
        record { rest = rest; is = is },
        record {
          stands = subst (λ (g : ℕ). IsOpen (most_payload version s) bytes g (payload_of version packet)) (sym past.gate_is)
              (from_gate version (most_payload version s) bytes [] done (packet ∷ rest) (end_of version history) there).0;
          journaled = at_seam (IsJournaled version s cone) done rest packet (subst (All (IsJournaled version s cone)) is journal.journaled);
          fits = at_seam (λ (p : Packet). All (λ key. key < key_limit s) (keys_of p)) done rest packet (subst (KeysFit s) is journal.fit);
        },
      )

  pub next_or_end : NextOrEnd version s cone bytes history done gate
  next_or_end = next_by past.rest past.is

  -- a packet that stands there is the next one
  pub is_next : (packet : Packet) → HoldsPacket version s cone (most_payload version s) bytes gate packet → IsNext history done packet
  is_next packet holds = elim next_or_end [
    | inl ended ↦ absurd (open_or_closed (most_payload version s) bytes gate (payload_of version packet) holds.stands ended.1)
    | inr there ↦ subst (IsNext history done) (one_packet s cone bytes gate there.0 packet there.2 holds) there.1
  ]

  -- the items with its own are no more than those of the history, so it may stand there
  pub next_within : (packet : Packet) → HoldsPacket version s cone (most_payload version s) bytes gate packet → length events + length packet.items ≤ length (events_of history)
  next_within packet holds =
      let next = is_next packet holds in
      omega (
        arith,
        ap length (keys_next history done events gate packet past next),
        length-append events (packet.items ++ events_of next.rest),
        length-append packet.items (events_of next.rest),
      )

  -- what the items so far weigh, where those up to the edge of level 0 after n0 events are counted whether they came or not
  abbrev IsWeightAt : ℕ → ℕ → Type 0
  IsWeightAt n0 w = w ≡ weight_of weighed (take (edge s 0 n0) (events_of history)) + weight_of weighed (drop (edge s 0 n0) events)

  pub next_follows : (n0 w : ℕ) (closed : Bool) → (closed ≡ true → n0 ≡ length (events_of history)) → IsWeightAt n0 w → (packet : Packet) →
      HoldsPacket version s cone (most_payload version s) bytes gate packet →
      MayFollow s n0 closed (length events) w packet
  next_follows n0 w closed behind weighs packet holds = record {
    within = omega (arith, journal.within, next_within packet holds);
    before_closing = λ ended. omega (arith, behind ended, next_within packet holds);
    light = let next = is_next packet holds in
        omega (arith, weighs, journal.light, light_next (edge s 0 n0) (events_of history) events packet.items (events_of next.rest) (keys_next history done events gate packet past next));
  }

  -- a closed gate stands behind all packets
  pub ends_there : IsClosed bytes gate → done ≡ history
  ends_there closed = elim next_or_end [
    | inl ended ↦ ended.0
    | inr there ↦ absurd (open_or_closed (most_payload version s) bytes gate (payload_of version there.0) there.2.stands closed)
  ]

  pub all_there : IsClosed bytes gate → length events ≡ length (events_of history)
  all_there closed = ap length (past.keys ∙ ap events_of (ends_there closed))

  -- nothing there leaves the format
  pub never_leaves : (n0 w : ℕ) (closed : Bool) (at : ℕ) → n0 ≤ length (events_of history) → (closed ≡ true → n0 ≡ length (events_of history)) → IsWeightAt n0 w →
      ReplayLeavesAt version s cone n0 closed (length events) w bytes gate at → ⊥
  never_leaves n0 w closed at most behind weighs leaves = elim next_or_end [
    | inl ended ↦ closed_or_leaves s cone n0 closed (length events) w bytes gate at ended.1 (omega (arith, most, all_there ended.1)) leaves
    | inr there ↦ packet_or_leaves s cone n0 closed (length events) w bytes gate at there.0 there.2 (next_follows n0 w closed behind weighs there.0 there.2) leaves
  ]
