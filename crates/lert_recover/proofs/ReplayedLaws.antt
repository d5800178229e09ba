-- What stands in a journal from a gate on is one of two: packets up to a closed gate, or packets and a place at which the format
-- is left; and there is one such place.
use Rattle.std.proofs.Common.{ℕ, ◌≡◌, ◌+◌, ◌≤◌, Bool, List, [], ◌∷◌, ◌++◌, length, map, refl, ap, sym, ◌∙◌, subst, arith, inl, inr, ◌⊎◌, length-append, append-nil, append_assoc}
use Rattle.std.proofs.lemmas.List.Concat.{flat_map-append}
use Rattle.lert_base.specs.Packet.{Packet, events_of}
use Rattle.lert_cone.specs.{Framed.last_flush, History.end_of, Replay.{MayFollow, ReplayLeavesAt}, Sound.IsJournal}
use Rattle.lert_cone.proofs.{GateLaws.{closed_or_leaves, ends_there, is_next, one_packet, one_replay_place, packet_or_leaves}, SoundLaws.{counted_more, end_more, events_more}}
use Rattle.lert_gatelog.specs.Gated.{IsClosed, IsOpen, Records, next_gate}
use Rattle.lert_gatelog.proofs.Deciding.{open_or_closed}
use Rattle.lert_journal.specs.{Journal.HoldsPacket, Payload.{most_payload, payload_of}}
use Rattle.lert_spec.specs.declared.{item.Item.Item, numbers.Numbers.Numbers}
use Rattle.lert_recover.specs.Replayed.{AreReplayed, FlushesNothing, HasReplayed, JournalEnds, JournalLeavesAt}
use Rattle.lert_cone.specs.Replay.{weight_behind}
use Rattle.lert_spec.specs.Edges.{edge}
use Rattle.lert_recover.proofs.BehindLaws.{same_weight, weighs_first, weighs_last}

module _ (version : ℕ) (s : Numbers) (cone n0 : ℕ) (closed : Bool) (bytes : List ℕ) where
  abbrev Stand : ℕ → ℕ → ℕ → List Packet → ℕ → Type 0
  Stand n w gate packets end = AreReplayed version s cone n0 closed bytes n w gate packets end

  -- what items add to the weight, behind n others
  abbrev adds : ℕ → List Item → ℕ
  adds n items = weight_behind (edge s 0 n0) n items

  -- the same behind as many items, that weigh as much
  behind_as : (P : ℕ → ℕ → Type 0) {n m w v : ℕ} → n ≡ m → w ≡ v → P n w → P m v
  behind_as P {n = n} {v = v} n_is w_is holds = subst (λ k. P k v) n_is (subst (P n) w_is holds)

  abbrev Holds : ℕ → Packet → Type 0
  Holds gate packet = HoldsPacket version s cone (most_payload version s) bytes gate packet

  abbrev Leaves : ℕ → ℕ → ℕ → ℕ → Type 0
  Leaves n w gate at = JournalLeavesAt version s cone n0 closed bytes n w gate at

  abbrev Here : ℕ → ℕ → ℕ → ℕ → Type 0
  Here n w gate at = ReplayLeavesAt version s cone n0 closed n w bytes gate at

  abbrev Ends : ℕ → ℕ → ℕ → Type 0
  Ends n w gate = JournalEnds version s cone n0 closed bytes n w gate

  -- ---- by the first packet

  counts : (n : ℕ) (packet : Packet) (rest : List Packet) → n + length packet.items + length (events_of rest) ≡ n + length (events_of (packet ∷ rest))
  counts n packet rest = omega (arith, length-append packet.items (events_of rest))

  weighs : (n w : ℕ) (packet : Packet) (rest : List Packet) → w + adds n packet.items + adds (n + length packet.items) (events_of rest) ≡ w + adds n (events_of (packet ∷ rest))
  weighs n w packet rest = weighs_first (edge s 0 n0) n w packet rest

  no_more : (n : ℕ) → n ≡ n + 0
  no_more n = omega arith

  no_weight : (n w : ℕ) → w ≡ w + adds n []
  no_weight n w = same_weight (edge s 0 n0) n w

  -- at the gate itself
  pub here : (n w gate at : ℕ) → Here n w gate at → Leaves n w gate at
  here n w gate at leaves = record { packets = []; end = gate; stand = refl; leaves = behind_as (λ m v. Here m v gate at) (no_more n) (no_weight n w) leaves }

  -- behind a packet
  pub later : (n w gate at : ℕ) (packet : Packet) → Holds gate packet → MayFollow s n0 closed n w packet → Leaves (n + length packet.items) (w + adds n packet.items) (next_gate gate (payload_of
      version packet)) at →
      Leaves n w gate at
  later n w gate at packet holds may rest = record {
    packets = packet ∷ rest.packets;
    end = rest.end;
    stand = (holds, may, rest.stand);
    leaves = behind_as (λ m v. Here m v rest.end at) (counts n packet rest.packets) (weighs n w packet rest.packets) rest.leaves;
  }

  abbrev Behind : ℕ → ℕ → ℕ → ℕ → Type 0
  Behind n w gate at = (packet : Packet) × Holds gate packet × MayFollow s n0 closed n w packet × Leaves (n + length packet.items) (w + adds n packet.items) (next_gate gate (payload_of version
      packet)) at

  first_of : (n w gate at : ℕ) (packets : List Packet) (end : ℕ) → Stand n w gate packets end → Here (n + length (events_of packets)) (w + adds n (events_of packets)) end at →
      Here n w gate at ⊎ Behind n w gate at
  first_of n w gate at [] end stand leaves = inl (subst (λ g. Here n w g at) stand (behind_as (λ m v. Here m v end at) (sym (no_more n)) (sym (no_weight n w)) leaves))
  first_of n w gate at (packet ∷ rest) end stand leaves =
      inr (
        packet,
        stand.0,
        stand.1,
        record {
          packets = rest;
          end = end;
          stand = stand.2;
          leaves = behind_as (λ m v. Here m v end at) (sym (counts n packet rest)) (sym (weighs n w packet rest))
              leaves;
        },
      )

  by_first : (n w gate at : ℕ) → Leaves n w gate at → Here n w gate at ⊎ Behind n w gate at
  by_first n w gate at leaves = first_of n w gate at leaves.packets leaves.end leaves.stand leaves.leaves

  -- ---- behind some packets

  pub leaves_behind : (packets : List Packet) (n w gate end at : ℕ) → Stand n w gate packets end → Leaves (n + length (events_of packets)) (w + adds n (events_of packets)) end at → Leaves n w gate at
  leaves_behind [] n w gate end at stand leaves = subst (λ g. Leaves n w g at) stand (behind_as (λ m v. Leaves m v end at) (sym (no_more n)) (sym (no_weight n w)) leaves)
  leaves_behind (packet ∷ rest) n w gate end at stand leaves =
      later n w gate at packet stand.0 stand.1
      (leaves_behind rest (n + length packet.items) (w + adds n packet.items) (next_gate gate (payload_of version packet)) end at stand.2
      (behind_as (λ m v. Leaves m v end at) (sym (counts n packet rest)) (sym (weighs n w packet rest)) leaves))

  pub leaves_past : (packets : List Packet) (n w gate end at : ℕ) → Stand n w gate packets end → Leaves n w gate at → Leaves (n + length (events_of packets)) (w + adds n (events_of packets)) end at
  leaves_past [] n w gate end at stand leaves = subst (λ g. Leaves (n + 0) (w + adds n []) g at) (sym stand) (behind_as (λ m v. Leaves m v gate at) (no_more n) (no_weight n w) leaves)
  leaves_past (packet ∷ rest) n w gate end at stand leaves = elim (by_first n w gate at leaves) [
    | inl now ↦ absurd (packet_or_leaves s cone n0 closed n w bytes gate at packet stand.0 stand.1 now)
    | inr behind ↦ (
        let same = one_packet s cone bytes gate behind.0 packet behind.1 stand.0 in
        let there = subst (λ (p : Packet). Leaves (n + length p.items) (w + adds n p.items) (next_gate gate (payload_of version p)) at) same behind.3 in
        behind_as (λ m v. Leaves m v end at) (counts n packet rest) (weighs n w packet rest)
        (leaves_past rest (n + length packet.items) (w + adds n packet.items) (next_gate gate (payload_of version packet)) end at stand.2 there))
  ]

  -- ---- one place, or a closed gate

  shut_here : (n w gate at : ℕ) → IsClosed bytes gate → n0 ≤ n → Leaves n w gate at → ⊥
  shut_here n w gate at shut enough leaves = elim (by_first n w gate at leaves) [
    | inl now ↦ closed_or_leaves s cone n0 closed n w bytes gate at shut enough now
    | inr behind ↦ open_or_closed (most_payload version s) bytes gate (payload_of version behind.0) behind.1.stands shut
  ]

  pub ends_or_leaves : (n w gate at : ℕ) → Ends n w gate → Leaves n w gate at → ⊥
  ends_or_leaves n w gate at ends leaves =
      shut_here (n + length (events_of ends.packets)) (w + adds n (events_of ends.packets)) ends.end at ends.shut ends.enough (leaves_past ends.packets n w gate ends.end at ends.stand leaves)

  one_from : (packets : List Packet) (n w gate end at other : ℕ) → Stand n w gate packets end → Here (n + length (events_of packets)) (w + adds n (events_of packets)) end at →
      Leaves n w gate other → at ≡ other
  one_from packets n w gate end at other stand now leaves =
      elim (by_first (n + length (events_of packets)) (w + adds n (events_of packets)) end other (leaves_past packets n w gate end other stand leaves)) [
        | inl too ↦ one_replay_place s cone n0 closed (n + length (events_of packets)) (w + adds n (events_of packets)) bytes end at other now too
        | inr behind ↦ absurd (packet_or_leaves s cone n0 closed (n + length (events_of packets)) (w + adds n (events_of packets)) bytes end at behind.0 behind.1 behind.2 now)
      ]

  pub one_journal_place : (n w gate at other : ℕ) → Leaves n w gate at → Leaves n w gate other → at ≡ other
  one_journal_place n w gate at other leaves too = one_from leaves.packets n w gate leaves.end at other leaves.stand leaves.leaves too

  -- an end behind some packets is one from the start on
  pub ends_behind : (packets : List Packet) (n w gate end : ℕ) → Stand n w gate packets end → Ends (n + length (events_of packets)) (w + adds n (events_of packets)) end → Ends n w gate
  ends_behind [] n w gate end stand ends = subst (Ends n w) stand (behind_as (λ m v. Ends m v end) (sym (no_more n)) (sym (no_weight n w)) ends)
  ends_behind (packet ∷ rest) n w gate end stand ends =
      let further = ends_behind rest (n + length packet.items) (w + adds n packet.items) (next_gate gate (payload_of version packet)) end stand.2
      (behind_as (λ m v. Ends m v end) (sym (counts n packet rest)) (sym (weighs n w packet rest)) ends) in
      record {
        packets = packet ∷ further.packets;
        end = further.end;
        stand = (stand.0, stand.1, further.stand);
        shut = further.shut;
        enough = omega (arith, further.enough, counts n packet further.packets);
      }

  -- ---- one packet more

  more : (packets : List Packet) (n w gate end : ℕ) (packet : Packet) → Stand n w gate packets end → Holds end packet →
      MayFollow s n0 closed (n + length (events_of packets)) (w + adds n (events_of packets)) packet → Stand n w gate (packets ++ packet ∷ []) (next_gate end (payload_of version packet))
  more [] n w gate end packet stand holds may = (
    subst (λ g. Holds g packet) stand holds,
    behind_as (λ m v. MayFollow s n0 closed m v packet) (sym (no_more n)) (sym (no_weight n w)) may,
    ap (λ g. next_gate g (payload_of version packet)) stand,
  )
  more (first ∷ rest) n w gate end packet stand holds may = (
    stand.0,
    stand.1,
    more rest (n + length first.items) (w + adds n first.items) (next_gate gate (payload_of version first)) end packet stand.2 holds
        (behind_as (λ m v. MayFollow s n0 closed m v packet) (sym (counts n first rest)) (sym (weighs n w first rest)) may),
  )

  -- the records of these packets, and of one more
  records_behind : (packets : List Packet) (n w gate end : ℕ) (packet : Packet) → Stand n w gate packets end → IsOpen (most_payload version s) bytes end (payload_of version packet) →
      Records (most_payload version s) bytes gate (map (payload_of version) (packets ++ packet ∷ [])) (next_gate end (payload_of version packet))
  records_behind [] n w gate end packet stand opened =
      (subst (λ g. IsOpen (most_payload version s) bytes g (payload_of version packet)) stand opened, ap (λ g. next_gate g (payload_of version packet)) stand)
  records_behind (first ∷ rest) n w gate end packet stand opened =
      (stand.0.stands, records_behind rest (n + length first.items) (w + adds n first.items) (next_gate gate (payload_of version first)) end packet stand.2 opened)

  -- ---- behind the keys that came before

  module _ (before : List Item) (w first : ℕ) where
    abbrev Has : ℕ → List Item → ℕ → Type 0
    Has gate events weight = HasReplayed version s cone n0 closed bytes before w first gate events weight

    pub replayed_none : Has first before w
    replayed_none = record { packets = []; stand = refl; events_are = sym (append-nil before); weight_is = no_weight (length before) w }

    -- how many keys they are
    pub count_of : (gate : ℕ) (events : List Item) (weight : ℕ) (has : Has gate events weight) → length events ≡ length before + length (events_of has.packets)
    count_of gate events weight has = ap length has.events_are ∙ length-append before (events_of has.packets)

    pub replayed_more : (gate : ℕ) (events : List Item) (weight : ℕ) (packet : Packet) → Has gate events weight → Holds gate packet → MayFollow s n0 closed (length events) weight packet →
        Has (next_gate gate (payload_of version packet)) (events ++ packet.items) (weight + adds (length events) packet.items)
    replayed_more gate events weight packet has holds may = record {
      packets = has.packets ++ packet ∷ [];
      stand = more has.packets (length before) w first gate packet has.stand holds (behind_as (λ m v. MayFollow s n0 closed m v packet) (count_of gate events weight has) has.weight_is may);
      events_are = ap (λ keys. keys ++ packet.items) has.events_are
          ∙ (append_assoc before (events_of has.packets) packet.items ∙ ap (λ keys. before ++ keys) (sym (events_more has.packets packet)));
      weight_is = omega (
        arith,
        has.weight_is,
        ap (λ n. adds n packet.items) (count_of gate events weight has),
        weighs_last (edge s 0 n0) (length before) w has.packets packet,
      );
    }

    -- no flush comes with the next packet of a journal that brings none
    pub none_flushed : (gate : ℕ) (events : List Item) (weight : ℕ) (packet : Packet) → Has gate events weight → FlushesNothing version s n0 bytes (length before) first →
        IsOpen (most_payload version s) bytes gate (payload_of version packet) → last_flush s (length events + length packet.items) ≤ n0
    none_flushed gate events weight packet has nothing opened =
        let count : length before + length (events_of (has.packets ++ packet ∷ [])) ≡ length events + length packet.items =
        omega (arith, count_of gate events weight has, counted_more has.packets packet) in
        subst (λ n. last_flush s n ≤ n0) count
        (nothing (has.packets ++ packet ∷ []) (next_gate gate (payload_of version packet)) (records_behind has.packets (length before) w first gate packet has.stand opened))

    -- what is so behind what was replayed is so from the first gate on
    pub leaves_from_start : (gate : ℕ) (events : List Item) (weight at : ℕ) → Has gate events weight → Leaves (length events) weight gate at → Leaves (length before) w first at
    leaves_from_start gate events weight at has leaves =
        leaves_behind has.packets (length before) w first gate at has.stand (behind_as (λ m v. Leaves m v gate at) (count_of gate events weight has) has.weight_is leaves)

    pub ends_from_start : (gate : ℕ) (events : List Item) (weight : ℕ) → Has gate events weight → Ends (length events) weight gate → Ends (length before) w first
    ends_from_start gate events weight has ends =
        ends_behind has.packets (length before) w first gate has.stand (behind_as (λ m v. Ends m v gate) (count_of gate events weight has) has.weight_is ends)

  pub ends_here : (gate n w : ℕ) → IsClosed bytes gate → n0 ≤ n → Ends n w gate
  ends_here gate n w shut enough = record { packets = []; end = gate; stand = refl; shut = shut; enough = omega (arith, enough) }

  -- ---- the packets are those of a whole journal

  module _ (history : List Packet) (journal : IsJournal version s cone history bytes) where
    -- each is the next one behind those before it
    follows : (packets front rest : List Packet) (n w gate end : ℕ) → history ≡ front ++ rest → gate ≡ end_of version front → Stand n w gate packets end → IsClosed bytes end →
        front ++ packets ≡ history
    follows [] front rest n w gate end is start stand shut =
        append-nil front
        ∙ ends_there s cone bytes history front (events_of front) end journal (record { rest = rest; is = is; keys = refl; gate_is = stand ∙ start }) shut
    follows (packet ∷ others) front rest n w gate end is start stand shut =
        let next = is_next s cone bytes history front (events_of front) gate journal (record { rest = rest; is = is; keys = refl; gate_is = start }) packet stand.0 in
        sym (append_assoc front (packet ∷ []) others)
        ∙ follows others (front ++ packet ∷ []) next.rest (n + length packet.items) (w + adds n packet.items) (next_gate gate (payload_of version packet)) end
        (next.is ∙ sym (append_assoc front (packet ∷ []) next.rest)) (ap (λ g. next_gate g (payload_of version packet)) start ∙ end_more version front packet) stand.2 shut

    -- and the keys are all of it, where those before are the ones of the packets before
    pub all_keys : (done rest : List Packet) (before events : List Item) (w first gate weight : ℕ) → history ≡ done ++ rest → before ≡ events_of done → first ≡ end_of version done →
        HasReplayed version s cone n0 closed bytes before w first gate events weight → IsClosed bytes gate → events ≡ events_of history
    all_keys done rest before events w first gate weight is before_is first_is has shut =
        has.events_are
        ∙ (ap (λ keys. keys ++ events_of has.packets) before_is
        ∙ (sym (flat_map-append (λ (p : Packet). p.items) done has.packets)
        ∙ ap events_of (follows has.packets done rest (length before) w first gate is first_is has.stand shut)))
