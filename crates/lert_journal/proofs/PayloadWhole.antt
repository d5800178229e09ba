-- Bytes that leave the format nowhere are the payload of a packet that the journal may hold.
use Rattle.std.proofs.Common.{◌≡◌, ℕ, zero, suc, ◌+◌, ◌-◌, ◌*◌, ◌/◌, ◌%◌, ◌<◌, ◌≤◌, ◌&&◌, ◌==◌, Bool, true, false, not, nat_lt, nat_le, Option, Some, None}
use Rattle.std.proofs.Common.{List, [], ◌∷◌, ◌++◌, length, take, drop, map, slice_index_or, refl, sym, subst, ap, ap₂, arith, ◌∙◌, append_assoc, length-drop}
use Rattle.std.specs.Prelude.{flat_map, All, option_map, if◌then◌else◌, slice_index}
use Rattle.std.specs.List.{range_with_len, position_from}
use Rattle.std.proofs.lemmas.List.{take-append-drop, drop-drop, get_or-drop}
use Rattle.std.proofs.lemmas.List.Elements.{All-nil, All-cons}
use Rattle.std.proofs.lemmas.List.FromFn.{length-map-range_with_len}
use Rattle.std.proofs.lemmas.Bool.{and_parts, eqb-true, ltb-false, leb-true, true≢false}
use Rattle.std.proofs.lemmas.Option.{none-some}
use Rattle.byteorder.specs.Endian.{little_bytes}
use Rattle.lert_spec.specs.{declared.item.Item.Item, declared.numbers.Numbers.Numbers, Items.{keys_in, most_weight, AreOfVersion}, Mix.cone_of}
use Rattle.lert_spec.proofs.ByteLaws.{bytes_back}
use Rattle.lert_journal.specs.Payload.{payload_of, packet_in, item_in, item_len, item_bytes, is_counted, is_own, stray_place, left, IsJournaled}
use Rattle.lert_journal.proofs.ItemBytes.{items_there, whole_len}

-- the payload of the packet in some bytes
pub payload_back : (version : ℕ) (payload : List ℕ) → ((k : ℕ) → slice_index payload k < 256) → (length payload - 8) % item_len version ≡ 0 → 8 ≤ length payload →
    payload_of version (packet_in version payload) ≡ payload
payload_back version payload small whole long =
    let behind = drop 4 payload in
    let by_there : little_bytes 4 (packet_in version payload).by ≡ take 4 payload = bytes_back 0 4 payload small (omega (arith, long)) in
    let trace_there : little_bytes 4 (packet_in version payload).trace ≡ take 4 behind =
    bytes_back 0 4 behind (λ j. subst (λ (b : ℕ). b < 256) (sym (get_or-drop 4 payload j 0)) (small (4 + j))) (omega (arith, long, length-drop 4 payload)) in
    let all_items : flat_map (item_bytes version) (packet_in version payload).items ≡ drop 4 behind =
    items_there (version == 1) ((length payload - 8) / item_len version) 0 payload small (whole_len (version == 1) (length payload) whole long)
    ∙ (ap (λ n. drop n payload) (at_start (version == 1)) ∙ sym (drop-drop 4 4 payload)) in
    ap₂ (λ xs ys. xs ++ ys) (ap₂ (λ xs ys. xs ++ ys) by_there trace_there) all_items
    ∙ (append_assoc (take 4 payload) (take 4 behind) (drop 4 behind)
    ∙ (ap (λ ys. take 4 payload ++ ys) (take-append-drop 4 behind) ∙ take-append-drop 4 payload))
  where
    at_start : (plain : Bool) → 8 + (if plain then 8 else 9) * 0 ≡ 8
    at_start true = refl
    at_start false = refl

-- ---- no rule is broken

-- the first of two tests didn't decide
fell : (b : Bool) (x : ℕ) (rest : Option ℕ) → (if b then Some x else rest) ≡ None → (b ≡ false) × (rest ≡ None)
fell true x rest is = absurd (none-some x (sym is))
fell false x rest is = (refl, is)

none_of : (f : ℕ → ℕ) (o : Option ℕ) → option_map f o ≡ None → o ≡ None
none_of f None is = refl
none_of f (Some x) is = absurd (none-some (f x) (sym is))

kept : (b : Bool) → not b ≡ false → b ≡ true
kept true is = refl
kept false is = absurd (true≢false is)

-- where no item is another's, all keys are of the cone, and all items weigh something
all_own : (s : Numbers) (cone k : ℕ) (items : List Item) → position_from (λ item. not (is_own s cone item)) k items ≡ None →
    All (λ key. cone_of s key ≡ cone) (keys_in items) × All (λ item. 1 ≤ item.weight) items
all_own s cone k [] none = (All-nil (λ key. cone_of s key ≡ cone), All-nil (λ (item : Item). 1 ≤ item.weight))
all_own s cone k (item ∷ rest) none =
    let parts = fell (not (is_own s cone item)) k (position_from (λ x. not (is_own s cone x)) (k + 1) rest) none in
    let others = all_own s cone (k + 1) rest parts.1 in
    let own = and_parts (cone_of s item.key == cone) (nat_le 1 item.weight) (kept (is_own s cone item) parts.0) in (
      All-cons (λ key. cone_of s key ≡ cone) item.key (keys_in rest) (eqb-true (cone_of s item.key) cone own.0) others.0,
      All-cons (λ (i : Item). 1 ≤ i.weight) item rest (leb-true 1 item.weight own.1) others.1,
    )

-- an item of a payload weighs no more than its version holds
weight_most : (version : ℕ) (payload : List ℕ) → ((k : ℕ) → slice_index payload k < 256) → (n : ℕ) → (item_in version payload n).weight ≤ most_weight version
weight_most version payload small n = most (version == 1)
  where
    most : (plain : Bool) → (if plain then 1 else slice_index payload (16 + item_len version * n)) ≤ (if plain then 1 else 255)
    most true = omega arith
    most false = omega (arith, small (16 + item_len version * n))

all_most : (version : ℕ) (payload : List ℕ) → ((k : ℕ) → slice_index payload k < 256) → (m k : ℕ) →
    All (λ item. 1 ≤ item.weight) (map (item_in version payload) (range_with_len k m)) → AreOfVersion version (map (item_in version payload) (range_with_len k m))
all_most version payload small m k some = λ j d below. (some j d below, weights m k j d below)
  where
    weights : (m k j : ℕ) (d : Item) → j < length (map (item_in version payload) (range_with_len k m)) →
        (slice_index_or (map (item_in version payload) (range_with_len k m)) j d).weight ≤ most_weight version
    weights zero k j d below = absurd (omega (arith, below))
    weights (suc m) k zero d below = weight_most version payload small k
    weights (suc m) k (suc j) d below = weights m (k + 1) j d (omega (arith, below))

-- where they weigh what the version allows, each weighs something
weighs_from : (version : ℕ) (payload : List ℕ) (m k j : ℕ) → AreOfVersion version (map (item_in version payload) (range_with_len k m)) → j < m →
    1 ≤ (item_in version payload (k + j)).weight
weighs_from version payload zero k j are below = absurd (omega (arith, below))
weighs_from version payload (suc m) k zero are below =
    subst (λ n. 1 ≤ (item_in version payload n).weight) (omega arith) (are 0 (item_in version payload k) (omega arith)).0
weighs_from version payload (suc m) k (suc j) are below =
    subst (λ n. 1 ≤ (item_in version payload n).weight) (omega arith)
    (weighs_from version payload m (k + 1) j (λ i d low. are (suc i) d (omega (arith, low))) (omega (arith, below)))

pub weighs : (version : ℕ) (payload : List ℕ) (m n : ℕ) → AreOfVersion version (map (item_in version payload) (range_with_len 0 m)) → n < m →
    1 ≤ (item_in version payload n).weight
weighs version payload m n are below =
    subst (λ k. 1 ≤ (item_in version payload k).weight) (let same : 0 + n ≡ n = omega arith in same) (weighs_from version payload m 0 n are below)

-- what leaves the format nowhere is a packet that the journal may hold
pub whole_packet : (version : ℕ) (s : Numbers) (cone : ℕ) (payload : List ℕ) → ((k : ℕ) → slice_index payload k < 256) → left version s cone payload ≡ None →
    IsJournaled version s cone (packet_in version payload)
whole_packet version s cone payload small none =
    let packet = packet_in version payload in
    let items = (length payload - 8) / item_len version in
    let stray = position_from (λ item. not (is_own s cone item)) 0 packet.items in
    let of_items = option_map (stray_place version s cone payload) stray in
    let of_trace = if nat_lt 1023 packet.trace then Some 8 else of_items in
    let of_by = if nat_lt 63 packet.by then Some 4 else of_trace in
    let count = fell (not (is_counted version s (length payload))) 0 of_by none in
    let by = fell (nat_lt 63 packet.by) 4 of_trace count.1 in
    let trace = fell (nat_lt 1023 packet.trace) 8 of_items by.1 in
    let counted = and_parts ((length payload - 8) % item_len version == 0) (nat_le 1 items && nat_le items (4 * s.packet)) (kept (is_counted version s (length payload)) count.0) in
    let bounds = and_parts (nat_le 1 items) (nat_le items (4 * s.packet)) counted.1 in
    let some : 1 ≤ items = leb-true 1 items bounds.0 in
    let few : items ≤ 4 * s.packet = leb-true items (4 * s.packet) bounds.1 in
    let long : length packet.items ≡ items = length-map-range_with_len (item_in version payload) 0 items in
    let own = all_own s cone 0 packet.items (none_of (stray_place version s cone payload) stray trace.1) in
    record {
      some = omega (arith, some, long);
      few = omega (arith, few, long);
      by_most = ltb-false 63 packet.by by.0;
      trace_most = ltb-false 1023 packet.trace trace.0;
      of_cone = own.0;
      weighed = all_most version payload small items 0 own.1;
    }

-- its length is that of whole items
pub whole_items : (version : ℕ) (s : Numbers) (cone : ℕ) (payload : List ℕ) → left version s cone payload ≡ None →
    ((length payload - 8) % item_len version ≡ 0) × (8 ≤ length payload)
whole_items version s cone payload none =
    let packet = packet_in version payload in
    let items = (length payload - 8) / item_len version in
    let of_items = option_map (stray_place version s cone payload) (position_from (λ item. not (is_own s cone item)) 0 packet.items) in
    let of_trace = if nat_lt 1023 packet.trace then Some 8 else of_items in
    let of_by = if nat_lt 63 packet.by then Some 4 else of_trace in
    let count = fell (not (is_counted version s (length payload))) 0 of_by none in
    let counted = and_parts ((length payload - 8) % item_len version == 0) (nat_le 1 items && nat_le items (4 * s.packet)) (kept (is_counted version s (length payload)) count.0) in
    let bounds = and_parts (nat_le 1 items) (nat_le items (4 * s.packet)) counted.1 in
    (eqb-true ((length payload - 8) % item_len version) 0 counted.0, over_eight (version == 1) (length payload) (leb-true 1 items bounds.0))
  where
    over_eight : (plain : Bool) (n : ℕ) → 1 ≤ (n - 8) / (if plain then 8 else 9) → 8 ≤ n
    over_eight true n some = omega (arith, some)
    over_eight false n some = omega (arith, some)
