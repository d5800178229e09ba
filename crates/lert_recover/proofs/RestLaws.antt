-- What stands at a gate, behind the packets before it.
use Rattle.std.proofs.Common.{ℕ, ◌≡◌, ◌+◌, ◌-◌, ◌*◌, ◌/◌, ◌<◌, ◌≤◌, ◌^◌, Bool, None, List, [], ◌∷◌, length, drop, map, get_or, ap, sym, ◌∙◌, subst, arith, inl, inr, append-nil}
use Rattle.std.proofs.{lemmas.List.{get_or-drop, get_or-map}, lemmas.List.FromFn.{get_or-map-range_with_len, length-map-range_with_len}}
use Rattle.std.specs.Prelude.{All, slice_index}
use Rattle.std.specs.List.{range_with_len}
use Rattle.byteorder.specs.Numbers.{little_from-lt}
use Rattle.lert_base.specs.Packet.{events_of, keys_of}
use Rattle.lert_cone.specs.{Replay.{IsFollowing, IsLeftBy, ReplayLeavesAt, In_record, Past_the_end, Too_heavy, Too_many, weight_behind}}
use Rattle.lert_gatelog.specs.Gated.{IsOpen, BreaksAt, next_gate}
use Rattle.lert_journal.specs.{Journal.HoldsPacket, Payload.{item_in, item_len, left, most_payload, packet_in, payload_of}}
use Rattle.lert_journal.proofs.PayloadWhole.{payload_back, whole_items, whole_packet}
use Rattle.lert_spec.proofs.ItemLaws.{length-keys_in}
use Rattle.lert_spec.specs.{declared.item.Item.Item, Items.unit, declared.numbers.Numbers.Numbers, Edges.edge}
use Rattle.lert_recover.specs.{declared.journal_rest.Found.TheVariants.{Packet as Followed}, Replayed.{JournalEnds, JournalLeavesAt}, Rest.IsFound}
use Rattle.lert_recover.proofs.ReplayedLaws.{ends_behind, later}

-- ---- the packet of a payload that leaves the format nowhere

module _ (version : ℕ) (payload : List ℕ) (small : (k : ℕ) → slice_index payload k < 256) where
  keys_fit : All (λ key. key < 2 ^ 64) (keys_of (packet_in version payload))
  keys_fit k d below =
      let count = (length payload - 8) / item_len version in
      let items = map (item_in version payload) (range_with_len 0 count) in
      let long : length items ≡ count = length-map-range_with_len (item_in version payload) 0 count in
      let within : k < count = omega (arith, below, long, length-keys_in items) in
      let item : get_or items k (unit d) ≡ item_in version payload k = get_or-map-range_with_len (item_in version payload) 0 count k k (unit d) within (omega arith) in
      subst (λ key. key < 2 ^ 64) (sym (get_or-map (λ (i : Item). i.key) items k (unit d) d (omega (arith, within, long)) ∙ ap (λ (i : Item). i.key) item))
      (little_from-lt 0 8 (drop (8 + item_len version * k) payload)
      (λ i. subst (λ byte. byte < 256) (sym (get_or-drop (8 + item_len version * k) payload i 0)) (small (8 + item_len version * k + i))))

  pub record IsPacketOf (s : Numbers) (cone : ℕ) (bytes : List ℕ) (gate : ℕ) : Type 0 where
    pub holds : HoldsPacket version s cone (most_payload version s) bytes gate (packet_in version payload)
    pub text : payload_of version (packet_in version payload) ≡ payload
    pub count : length (packet_in version payload).items ≡ (length payload - 8) / item_len version

  pub packet_there : (s : Numbers) (cone : ℕ) (bytes : List ℕ) (gate : ℕ) → left version s cone payload ≡ None → IsOpen (most_payload version s) bytes gate payload → IsPacketOf s cone bytes gate
  packet_there s cone bytes gate none opened =
      let whole = whole_items version s cone payload none in
      let text = payload_back version payload small whole.0 whole.1 in
      let items = (packet_in version payload).items in
      record {
        holds = record { stands = subst (IsOpen (most_payload version s) bytes gate) (sym text) opened; journaled = whole_packet version s cone payload small none; fits = keys_fit };
        text = text;
        count = length-map-range_with_len (item_in version payload) 0 ((length payload - 8) / item_len version);
      }

  pub some_keys : (s : Numbers) (cone : ℕ) → left version s cone payload ≡ None → (8 ≤ length payload) × (1 ≤ (length payload - 8) / item_len version)
  some_keys s cone none =
      let whole = whole_items version s cone payload none in
      (whole.1, omega (arith, (whole_packet version s cone payload small none).some, length-map-range_with_len (item_in version payload) 0 ((length payload - 8) / item_len version)))

  module _ (s : Numbers) (cone n0 : ℕ) (closed : Bool) (n w : ℕ) (bytes : List ℕ) (gate keys more : ℕ) (none : left version s cone payload ≡ None)
      (keys_is : keys ≡ (length payload - 8) / item_len version) (more_is : more ≡ weight_behind (edge s 0 n0) n (packet_in version payload).items)
      (opened : IsOpen (most_payload version s) bytes gate payload) where
    -- it may follow
    pub found_packet : IsFollowing s n0 closed n keys w more → IsFound version s cone n0 closed n w bytes gate (next_gate gate payload) (Followed keys more)
    found_packet may =
        let there = packet_there s cone bytes gate none opened in
        let count : keys ≡ length (packet_in version payload).items = keys_is ∙ sym there.count in (
          packet_in version payload,
          there.holds,
          record { within = omega (arith, may.0, count); before_closing = λ ended. omega (arith, may.1 ended, count); light = omega (arith, may.2, more_is) },
          count,
          more_is,
          ap (next_gate gate) (sym there.text),
        )

    -- it goes past a closing record, or above the capacity, or is too heavy
    pub found_left : (at : ℕ) → IsLeftBy s n0 closed n keys w more gate at → ReplayLeavesAt version s cone n0 closed n w bytes gate at
    found_left at (inl (ended, past, is)) =
        let there = packet_there s cone bytes gate none opened in
        Past_the_end (packet_in version payload) there.holds ended (omega (arith, past, keys_is, there.count)) is
    found_left at (inr (inl (running, many, is))) =
        let there = packet_there s cone bytes gate none opened in
        Too_many (packet_in version payload) there.holds running (omega (arith, many, keys_is, there.count)) is
    found_left at (inr (inr (before, within, heavy, is))) =
        let there = packet_there s cone bytes gate none opened in
        Too_heavy (packet_in version payload) there.holds (λ ended. omega (arith, before ended, keys_is, there.count)) (omega (arith, within, keys_is, there.count))
        (omega (arith, heavy, more_is)) is

-- bytes that are no record
pub found_broken : {version : ℕ} (s : Numbers) (cone n0 : ℕ) (closed : Bool) (n w most : ℕ) (bytes : List ℕ) (gate at : ℕ) → most ≡ most_payload version s → BreaksAt most bytes gate at →
    ReplayLeavesAt version s cone n0 closed n w bytes gate at
found_broken s cone n0 closed n w most bytes gate at most_is breaks = In_record (inl (subst (λ m. BreaksAt m bytes gate at) most_is breaks))

-- ---- behind a packet

module _ {version : ℕ} (s : Numbers) (cone n0 : ℕ) (closed : Bool) (n w : ℕ) (bytes : List ℕ) (gate next keys more : ℕ)
    (found : IsFound version s cone n0 closed n w bytes gate next (Followed keys more)) where
  pub onward_packet : (at : ℕ) → JournalLeavesAt version s cone n0 closed bytes (n + keys) (w + more) next at → JournalLeavesAt version s cone n0 closed bytes n w gate at
  onward_packet at leaves =
      later version s cone n0 closed bytes n w gate at found.0 found.1 found.2
      (subst (λ g. JournalLeavesAt version s cone n0 closed bytes (n + length found.0.items) (w + weight_behind (edge s 0 n0) n found.0.items) g at) found.5
      (subst (λ m. JournalLeavesAt version s cone n0 closed bytes (n + length found.0.items) (w + m) next at) found.4
      (subst (λ k. JournalLeavesAt version s cone n0 closed bytes (n + k) (w + more) next at) found.3 leaves)))

  pub ends_packet : JournalEnds version s cone n0 closed bytes (n + keys) (w + more) next → JournalEnds version s cone n0 closed bytes n w gate
  ends_packet ends =
      let items : found.0.items ≡ events_of (found.0 ∷ []) = sym (append-nil found.0.items) in
      let count : n + keys ≡ n + length (events_of (found.0 ∷ [])) = ap (λ k. n + k) (found.3 ∙ ap length items) in
      let weight : w + more ≡ w + weight_behind (edge s 0 n0) n (events_of (found.0 ∷ [])) = ap (λ m. w + m) (found.4 ∙ ap (weight_behind (edge s 0 n0) n) items) in
      ends_behind version s cone n0 closed bytes (found.0 ∷ []) n w gate next (found.1, found.2, found.5)
      (subst (λ m. JournalEnds version s cone n0 closed bytes m (w + weight_behind (edge s 0 n0) n (events_of (found.0 ∷ []))) next) count
      (subst (λ v. JournalEnds version s cone n0 closed bytes (n + keys) v next) weight ends))
