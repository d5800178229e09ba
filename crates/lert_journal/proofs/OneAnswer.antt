-- What stands at a gate of a journal is a packet, a closed gate, or a place at which the format is left: only one of these.
use Rattle.std.proofs.Common.{◌≡◌, ℕ, suc, ◌+◌, ◌-◌, ◌/◌, ◌<◌, ◌≤◌}
use Rattle.std.proofs.Common.{Bool, Some, None, Result, Ok, Err, List, [], ◌∷◌, length, take, map, slice_index_or, refl, sym, ap, ap₂, ◌∙◌}
use Rattle.std.proofs.Common.{◌⊎◌, inl, inr, arith, length-take}
use Rattle.std.specs.Prelude.{All}
use Rattle.std.proofs.lemmas.List.FromFn.{length-map-range_with_len}
use Rattle.std.proofs.lemmas.Option.{none-some}
use Rattle.lert_base.specs.Packet.{Packet, keys_of}
use Rattle.lert_gatelog.specs.declared.fault.LogFault.{LogFault}
use Rattle.lert_gatelog.specs.declared.fault.LogFault.TheVariants.{Failed, Malformed}
use Rattle.lert_gatelog.specs.Gated.{IsClosed, IsOpen, BreaksAt}
use Rattle.lert_gatelog.proofs.Deciding.{one_payload, open_or_closed, whole_or_broken, closed_or_broken, one_place, one_list}
use Rattle.lert_spec.specs.{declared.numbers.Numbers.Numbers, Edges.key_limit}
use Rattle.lert_journal.specs.Journal.{HasPackets, HoldsPacket, LeavesAt}
use Rattle.lert_journal.specs.Payload.{payload_of, packet_in, item_in, item_len, left, IsJournaled}
use Rattle.lert_journal.proofs.PayloadBack.{never_left, packet_back}

-- a packet's payload leaves the format nowhere
pub packet_or_left : (version : ℕ) (s : Numbers) (cone most : ℕ) (bytes : List ℕ) (gate at : ℕ) (packet : Packet) → HoldsPacket version s cone most bytes gate packet →
    LeavesAt version s cone most bytes gate at → ⊥
packet_or_left version s cone most bytes gate at packet holds (inl broken) = whole_or_broken most bytes gate at (payload_of version packet) holds.stands broken
packet_or_left version s cone most bytes gate at packet holds (inr spoiled) =
    none-some spoiled.place
    (sym (never_left version s cone packet holds.journaled holds.fits)
    ∙ (ap (left version s cone) (one_payload most bytes gate (payload_of version packet) spoiled.payload holds.stands spoiled.stands)
    ∙ spoiled.first))

pub closed_or_left : (version : ℕ) (s : Numbers) (cone most : ℕ) (bytes : List ℕ) (gate at : ℕ) → IsClosed bytes gate → LeavesAt version s cone most bytes gate at → ⊥
closed_or_left version s cone most bytes gate at closed (inl broken) = closed_or_broken most bytes gate at closed broken
closed_or_left version s cone most bytes gate at closed (inr spoiled) = open_or_closed most bytes gate spoiled.payload spoiled.stands closed

-- an open record leaves the format where its payload does
pub left_by_payload : (version : ℕ) (s : Numbers) (cone most : ℕ) (bytes : List ℕ) (gate at : ℕ) (payload : List ℕ) → IsOpen most bytes gate payload → LeavesAt version s cone most bytes gate at →
    left version s cone payload ≡ None → ⊥
left_by_payload version s cone most bytes gate at payload stands (inl broken) none = whole_or_broken most bytes gate at payload stands broken
left_by_payload version s cone most bytes gate at payload stands (inr spoiled) none =
    none-some spoiled.place (sym none ∙ (ap (left version s cone) (one_payload most bytes gate payload spoiled.payload stands spoiled.stands) ∙ spoiled.first))

some_place : (m n : ℕ) → Some m ≡ Some n → m ≡ n
some_place m n is = cc

-- one place is the first
pub one_place_left : (version : ℕ) (s : Numbers) (cone most : ℕ) (bytes : List ℕ) (gate at other : ℕ) → LeavesAt version s cone most bytes gate at →
    LeavesAt version s cone most bytes gate other → at ≡ other
one_place_left version s cone most bytes gate at other (inl broken) (inl too) = one_place most bytes gate at other broken too
one_place_left version s cone most bytes gate at other (inl broken) (inr spoiled) = absurd (whole_or_broken most bytes gate at spoiled.payload spoiled.stands broken)
one_place_left version s cone most bytes gate at other (inr spoiled) (inl broken) = absurd (whole_or_broken most bytes gate other spoiled.payload spoiled.stands broken)
one_place_left version s cone most bytes gate at other (inr spoiled) (inr too) =
    let same = one_payload most bytes gate spoiled.payload too.payload spoiled.stands too.stands in
    let place : spoiled.place ≡ too.place = some_place spoiled.place too.place (sym spoiled.first ∙ (ap (left version s cone) same ∙ too.first)) in
    spoiled.at_is ∙ (ap (λ n. gate + 1 + n) place ∙ sym too.at_is)

-- ---- what a fault of the log leaves open

pub same_fault : (one other : LogFault) → ◌≡◌ {A = Result Bool LogFault} (Err one) (Err other) → one ≡ other
same_fault one other is = cc

pub same_place : (one other : ℕ) → ◌≡◌ {A = LogFault} (Malformed one) (Malformed other) → one ≡ other
same_place one other is = cc

pub ok_no_fault : (found : Bool) (fault : LogFault) → ◌≡◌ {A = Result Bool LogFault} (Ok found) (Err fault) → ⊥
ok_no_fault found fault is = cc

pub place_no_failure : (at : ℕ) → ◌≡◌ {A = LogFault} (Malformed at) Failed → ⊥
place_no_failure at is = cc

-- where no place can be the first, the fault is a failure
pub fails : (version : ℕ) (s : Numbers) (cone most : ℕ) (bytes : List ℕ) (gate : ℕ) (fault : LogFault) → ((at : ℕ) → fault ≡ Malformed at → BreaksAt most bytes gate at) →
    ((at : ℕ) → LeavesAt version s cone most bytes gate at → ⊥) → fault ≡ Failed
fails version s cone most bytes gate Failed said never = refl
fails version s cone most bytes gate (Malformed at) said never = absurd (never at (inl (said at refl)))

-- where one is, it is a failure or that place
pub fails_there : (version : ℕ) (s : Numbers) (cone most : ℕ) (bytes : List ℕ) (gate at : ℕ) (fault : LogFault) → ((other : ℕ) → fault ≡ Malformed other → BreaksAt most bytes gate other) →
    LeavesAt version s cone most bytes gate at → (fault ≡ Failed) ⊎ (fault ≡ Malformed at)
fails_there version s cone most bytes gate at Failed said left_at = inl refl
fails_there version s cone most bytes gate at (Malformed other) said left_at = inr (ap Malformed (one_place_left version s cone most bytes gate other at (inl (said other refl)) left_at))

-- ---- what was read of a record

pub payload_short : (count most : ℕ) (bytes : List ℕ) → count ≤ most → most < 4294967296 → length (take count bytes) < 4294967296
payload_short count most bytes within small = omega (arith, within, small, length-take count bytes)

pub plus_five : (count most : ℕ) → count ≤ most → 5 + count ≤ 5 + most
plus_five count most within = omega (arith, within)

-- its items have room
pub items_fit : (version : ℕ) (payload : List ℕ) (most room : ℕ) → length (packet_in version payload).items ≤ most → most ≤ room →
    (length payload - 8) / item_len version ≤ room
items_fit version payload most room few fits =
    omega (arith, few, fits, length-map-range_with_len (item_in version payload) 0 ((length payload - 8) / item_len version))

pub went_forward : (gate next count most items : ℕ) → next ≡ gate + 5 + count → 0 < count → count ≤ most → most ≡ 8 + items →
    (gate < next) × (next ≤ gate + 13 + items)
went_forward gate next count most items is some within most_is = (omega (arith, is, some), omega (arith, is, within, most_is))

-- ---- one journal has one list of packets

-- the packets of some payloads, each of which reads back
read_all : (version : ℕ) (packets : List Packet) → ((n : ℕ) (d : Packet) → n < length packets → packet_in version (payload_of version (slice_index_or packets n d)) ≡ slice_index_or packets n d) →
    map (packet_in version) (map (payload_of version) packets) ≡ packets
read_all version [] back = refl
read_all version (packet ∷ rest) back = ap₂ (λ x xs. x ∷ xs) (back 0 packet (omega arith)) (read_all version rest (λ n d below. back (suc n) d (omega (arith, below))))

-- packets that a journal may hold are those of their payloads
all_read : (version : ℕ) (s : Numbers) (cone : ℕ) (packets : List Packet) → All (IsJournaled version s cone) packets → All (λ packet. All (λ key. key < key_limit s) (keys_of packet)) packets →
    map (packet_in version) (map (payload_of version) packets) ≡ packets
all_read version s cone packets may fit = read_all version packets (λ n d below.
    let here = may n d below in
    packet_back version (slice_index_or packets n d) (omega (arith, here.by_most)) (omega (arith, here.trace_most)) (fit n d below) here.weighed)

pub one_history : (version : ℕ) (s : Numbers) (cone most : ℕ) (bytes : List ℕ) (first : ℕ) (one other : List Packet) (end too : ℕ) → All (IsJournaled version s cone) one →
    All (IsJournaled version s cone) other → All (λ packet. All (λ key. key < key_limit s) (keys_of packet)) one → All (λ packet. All (λ key. key < key_limit s) (keys_of packet)) other →
    HasPackets version most bytes first one end → HasPackets version most bytes first other too → (one ≡ other) × (end ≡ too)
one_history version s cone most bytes first one other end too may may_too fit fit_too has has_too =
    let same = one_list most bytes first (map (payload_of version) one) (map (payload_of version) other) end too has has_too in
    (sym (all_read version s cone one may fit) ∙ (ap (map (packet_in version)) same.0 ∙ all_read version s cone other may_too fit_too), same.1)
