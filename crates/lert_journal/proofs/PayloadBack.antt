-- A payload reads back as the packet that it was laid from, and keeps the format where the packet may stand in a journal.
use Rattle.std.proofs.Common.{◌≡◌, ℕ, ◌+◌, ◌-◌, ◌*◌, ◌/◌, ◌%◌, ◌<◌, ◌≤◌, ◌^◌, ◌&&◌, ◌==◌, Bool, true, false, not, cond, nat_lt, nat_le, Option, Some}
use Rattle.std.proofs.Common.{None, List, [], ◌∷◌, ◌++◌, length, drop, map, refl, ap, ap₂, arith, ◌∙◌}
use Rattle.std.specs.Prelude.{flat_map, All, option_map, if◌then◌else◌}
use Rattle.std.specs.List.{range_with_len, position_from}
use Rattle.std.proofs.lemmas.Bool.{eq-eqb, le-leb, le-ltb}
use Rattle.std.proofs.lemmas.List.Elements.{All-head, All-tail}
use Rattle.byteorder.specs.Endian.{little_number, little_bytes}
use Rattle.byteorder.specs.Numbers.{little_number-reads_back}
use Rattle.lert_base.specs.Packet.{Packet, keys_of}
use Rattle.lert_spec.specs.{declared.item.Item.Item, declared.numbers.Numbers.Numbers, Edges.key_limit, Items.{keys_in, most_weight, AreOfVersion}, Mix.cone_of}
use Rattle.lert_journal.specs.Payload.{payload_of, packet_in, item_in, item_len, item_bytes, is_counted, is_own, stray_place, left, IsJournaled}
use Rattle.lert_journal.proofs.{PayloadLaws.length_payload, ItemBytes.{len_of, laid_of, items_back, count_back, none_over}}

-- a payload reads back as its packet
pub packet_back : (version : ℕ) (packet : Packet) → packet.by < 2 ^ 32 → packet.trace < 2 ^ 32 → All (λ key. key < 2 ^ 64) (keys_of packet) → AreOfVersion version packet.items →
    packet_in version (payload_of version packet) ≡ packet
packet_back version packet by_below trace_below keys_below weighed =
    let payload = payload_of version packet in
    let items = flat_map (item_bytes version) packet.items in
    let count : (length payload - 8) / item_len version ≡ length packet.items =
    ap (λ n. (n - 8) / item_len version) (length_payload version packet) ∙ count_back (version == 1) (length packet.items) in
    let by_is : little_number 4 payload ≡ packet.by = little_number-reads_back 4 packet.by (little_bytes 4 packet.trace ++ items) by_below in
    let trace_is : little_number 4 (drop 4 payload) ≡ packet.trace = little_number-reads_back 4 packet.trace items trace_below in
    let items_are : map (item_in version payload) (range_with_len 0 ((length payload - 8) / item_len version)) ≡ packet.items =
    ap (λ n. map (item_in version payload) (range_with_len 0 n)) count
    ∙ items_back (version == 1) packet.items (little_bytes 4 packet.by ++ little_bytes 4 packet.trace) 0 (from_start (version == 1)) (laid_of version packet.items keys_below weighed) in
    λ i. record { by = by_is i; trace = trace_is i; items = items_are i }
  where
    from_start : (plain : Bool) → 8 ≡ 8 + len_of plain * 0
    from_start true = refl
    from_start false = refl

-- ---- a packet that a journal may hold leaves the format nowhere

no_stray : (version : ℕ) (s : Numbers) (cone k : ℕ) (items : List Item) → All (λ key. cone_of s key ≡ cone) (keys_in items) → AreOfVersion version items →
    position_from (λ item. not (is_own s cone item)) k items ≡ None
no_stray version s cone k [] all are = refl
no_stray version s cone k (item ∷ rest) all are =
    let of_cone : (cone_of s item.key == cone) ≡ true = eq-eqb (cone_of s item.key) cone (All-head (λ key. cone_of s key ≡ cone) item.key (keys_in rest) all) in
    let here = All-head (λ i. (1 ≤ i.weight) × (i.weight ≤ most_weight version)) item rest are in
    let own : is_own s cone item ≡ true = ap₂ (λ x y. x && y) of_cone (le-leb 1 item.weight here.0) in
    ap (λ b. cond (not b) (Some k) (position_from (λ x. not (is_own s cone x)) (k + 1) rest)) own
    ∙ no_stray version s cone (k + 1) rest (All-tail (λ key. cone_of s key ≡ cone) item.key (keys_in rest) all)
    (All-tail (λ i. (1 ≤ i.weight) × (i.weight ≤ most_weight version)) item rest are)

counted : (version : ℕ) (s : Numbers) (n : ℕ) → 0 < n → n ≤ 4 * s.packet → is_counted version s (8 + item_len version * n) ≡ true
counted version s n some few =
    let items = count_back (version == 1) n in
    ap₂ (λ x y. x && y) (eq-eqb ((8 + item_len version * n - 8) % item_len version) 0 (none_over (version == 1) n))
    (ap (λ m. nat_le 1 m && nat_le m (4 * s.packet)) items ∙ ap₂ (λ x y. x && y) (le-leb 1 n some) (le-leb n (4 * s.packet) few))

-- the place at which a packet breaks a rule, its payload having this length
abbrev broken : ℕ → Numbers → ℕ → List ℕ → ℕ → Packet → Option ℕ
broken version s cone payload n packet =
    if not (is_counted version s n) then Some 0
    else (if nat_lt 63 packet.by then Some 4
    else (if nat_lt 1023 packet.trace then Some 8
    else option_map (stray_place version s cone payload) (position_from (λ item. not (is_own s cone item)) 0 packet.items)))

unbroken : (version : ℕ) (s : Numbers) (cone : ℕ) (payload : List ℕ) (packet : Packet) → IsJournaled version s cone packet →
    broken version s cone payload (8 + item_len version * length packet.items) packet ≡ None
unbroken version s cone payload packet journaled =
    let stray = option_map (stray_place version s cone payload) (position_from (λ item. not (is_own s cone item)) 0 packet.items) in
    ap (λ b. if not b then Some 0 else (if nat_lt 63 packet.by then Some 4 else (if nat_lt 1023 packet.trace then Some 8 else stray)))
    (counted version s (length packet.items) journaled.some journaled.few)
    ∙ (ap (λ b. if b then Some 4 else (if nat_lt 1023 packet.trace then Some 8 else stray)) (le-ltb 63 packet.by journaled.by_most)
    ∙ (ap (λ b. if b then Some 8 else stray) (le-ltb 1023 packet.trace journaled.trace_most)
    ∙ ap (option_map (stray_place version s cone payload)) (no_stray version s cone 0 packet.items journaled.of_cone journaled.weighed)))

pub never_left : (version : ℕ) (s : Numbers) (cone : ℕ) (packet : Packet) → IsJournaled version s cone packet → All (λ key. key < key_limit s) (keys_of packet) →
    left version s cone (payload_of version packet) ≡ None
never_left version s cone packet journaled below =
    let payload = payload_of version packet in
    ap₂ (broken version s cone payload) (length_payload version packet)
    (packet_back version packet (omega (arith, journaled.by_most)) (omega (arith, journaled.trace_most)) below journaled.weighed)
    ∙ unbroken version s cone payload packet journaled
