-- What the rings hold, ring by ring.
use Rattle.std.proofs.Common.{ℕ, ◌≡◌, ◌+◌, ◌-◌, ◌*◌, ◌<◌, ◌≤◌, zero, suc, List, [], ◌∷◌, ◌++◌, length}
use Rattle.std.proofs.Common.{map, get_or, set, take, drop, refl, ap, ap₂, sym, subst, ◌∙◌, arith, append_assoc, length-append, length-take-le}
use Rattle.std.proofs.{lemmas.List.{get_or-map, length-map, take_more}, lemmas.List.Elements.{All-get_or, All-push, All-set}}
use Rattle.std.specs.Prelude.{All}
use Rattle.circular_buffer.specs.Buffer.{Buffer, buffer, keep_last}
use Rattle.lert_buffers.specs.Rings.{AreWeighed, IsRing, IsRoomy, Rings, ring_of, with_ring}
use Rattle.lert_base.specs.Keys.{weights_in}
use Rattle.lert_spec.specs.{declared.item.Item.Item, Items.keys_in}

abbrev pub contents : List (Buffer Item) → List (List Item)
contents rings = map (λ ring. ring.items) rings

-- one ring in the place of another changes one list
contents-set : (rings : List (Buffer Item)) (at : ℕ) (ring : Buffer Item) → contents (set rings at ring) ≡ set (contents rings) at ring.items
contents-set [] at ring = refl
contents-set (other ∷ others) zero ring = refl
contents-set (other ∷ others) (suc at) ring = ap (λ rs. other.items ∷ rs) (contents-set others at ring)

-- so the rings are those with other items for a cone
pub held : (b : Rings) (packet : ℕ) (rings : List (Buffer Item)) (cone : ℕ) (ring : Buffer Item) (items : List Item) → record { packet = packet; rings = contents rings } ≡ b →
    ring.items ≡ items → record { packet = packet; rings = contents (set rings cone ring) } ≡ with_ring b cone items
held b packet rings cone ring items view_is is =
    ap (λ rs. record { packet = packet; rings = rs }) (contents-set rings cone ring ∙ ap (set (contents rings) cone) is)
    ∙ ap (λ (x : Rings). with_ring x cone items) view_is

-- a cone that has items has a ring
pub has_ring : (b : Rings) (packet : ℕ) (rings : List (Buffer Item)) (cone : ℕ) → record { packet = packet; rings = contents rings } ≡ b → cone < length b.rings → cone < length rings
has_ring b packet rings cone view_is within =
    omega (arith, ap (λ (x : Rings). length x.rings) view_is, length-map rings (λ (r : Buffer Item). r.items))

-- the ring of a cone has the items of the cone
pub ring_at : (b : Rings) (packet : ℕ) (rings : List (Buffer Item)) (cone : ℕ) (ring : Buffer Item) → record { packet = packet; rings = contents rings } ≡ b → cone < length b.rings →
    ring ≡ get_or rings cone ring → ring.items ≡ ring_of b cone
ring_at b packet rings cone ring view_is within is =
    let fewer = has_ring b packet rings cone view_is within in
    ap (λ (r : Buffer Item). r.items) is
    ∙ sym (get_or-map (λ (r : Buffer Item). r.items) rings cone ring [] fewer)
    ∙ ap (λ (x : Rings). ring_of x cone) view_is

-- a ring that has room keeps all its items
pub kept : (ring : Buffer Item) (item : Item) → length ring.items < ring.capacity → keep_last ring.capacity (ring.items ++ item ∷ []) ≡ ring.items ++ item ∷ []
kept ring item room =
    ap (λ n. drop n (ring.items ++ item ∷ []))
    (let none : length (ring.items ++ item ∷ []) - ring.capacity ≡ 0 = omega (arith, length-append ring.items (item ∷ [])) in none)

-- and is as the invariant says
pub is_ring : (packet : ℕ) (rings : List (Buffer Item)) (cone : ℕ) (ring : Buffer Item) → IsRoomy packet rings → cone < length rings → ring ≡ get_or rings cone ring → IsRing packet ring
is_ring packet rings cone ring roomy within is =
    subst (IsRing packet) (sym is) (All-get_or (IsRing packet) rings cone ring within roomy.rooms)

-- so one that asks for nothing yet has room for one item more
pub is_short : (b : Rings) (packet : ℕ) (rings : List (Buffer Item)) (cone : ℕ) (ring : Buffer Item) → record { packet = packet; rings = contents rings } ≡ b → IsRoomy packet rings →
    cone < length b.rings → ring ≡ get_or rings cone ring → length (ring_of b cone) < 4 * b.packet → length ring.items < ring.capacity
is_short b packet rings cone ring view_is roomy within is short =
    let there = is_ring packet rings cone ring roomy (has_ring b packet rings cone view_is within) is in
    let items = ring_at b packet rings cone ring view_is within is in
    omega (arith, short, there.room, ap (λ xs. length {A = Item} xs) items, ap (λ (x : Rings). x.packet) view_is)

-- and the rings are as the invariant says with it
pub roomy_pushed : (packet : ℕ) (rings : List (Buffer Item)) (cone : ℕ) (ring new : Buffer Item) (item : Item) → IsRoomy packet rings → cone < length rings → ring ≡ get_or rings cone ring →
    length ring.items < ring.capacity → 1 ≤ item.weight → new ≡ buffer (keep_last ring.capacity (ring.items ++ item ∷ [])) ring.capacity → IsRoomy packet (set rings cone new)
roomy_pushed packet rings cone ring new item roomy within is short some new_is =
    let there = is_ring packet rings cone ring roomy within is in
    let pushed : new ≡ buffer (ring.items ++ item ∷ []) ring.capacity = new_is ∙ ap (λ xs. buffer xs ring.capacity) (kept ring item short) in
    let same : IsRing packet (buffer (ring.items ++ item ∷ []) ring.capacity) = record {
      room = there.room;
      within = omega (arith, short, there.room, length-append ring.items (item ∷ []));
      some = All-push (λ i. 1 ≤ i.weight) ring.items item there.some some;
    } in
    record { least = roomy.least; most = roomy.most; rooms = All-set (IsRing packet) rings cone new (subst (IsRing packet) (sym pushed) same) roomy.rooms }

-- keys and weights that stand side by side, one item more
pub item_more : (items : List Item) (keys weights : List ℕ) (place : ℕ) → place < length items → keys ≡ keys_in items → weights ≡ weights_in items →
    take (place + 1) items ≡ take place items ++ record { key = get_or keys place 0; weight = get_or weights place 0 } ∷ []
item_more items keys weights place within keys_are weights_are =
    take_more items place (record { key = 0; weight = 0 }) within
    ∙ ap₂ (λ k w. take place items ++ record { key = k; weight = w } ∷ [])
    (sym (ap (λ ks. get_or ks place 0) keys_are ∙ get_or-map (λ (i : Item). i.key) items place (record { key = 0; weight = 0 }) 0 within))
    (sym (ap (λ ws. get_or ws place 0) weights_are ∙ get_or-map (λ (i : Item). i.weight) items place (record { key = 0; weight = 0 }) 0 within))

-- a ring that gets one item more of a list
pub refilled : (old ring : Buffer Item) (items : List Item) (place : ℕ) (item : Item) → ring ≡ buffer (old.items ++ take place items) old.capacity →
    length old.items + length items ≤ old.capacity → place < length items → take (place + 1) items ≡ take place items ++ item ∷ [] →
    buffer (keep_last ring.capacity (ring.items ++ item ∷ [])) ring.capacity ≡ buffer (old.items ++ take (place + 1) items) old.capacity
refilled old ring items place item is room within more =
    let taken = length-take-le place items (omega (arith, within)) in
    let short : length ring.items < ring.capacity =
    omega (arith, room, within, taken, ap (λ (r : Buffer Item). length r.items) is, ap (λ (r : Buffer Item). r.capacity) is, length-append old.items (take place items)) in
    ap (λ xs. buffer xs ring.capacity) (kept ring item short)
    ∙ (ap (λ (r : Buffer Item). buffer (r.items ++ item ∷ []) r.capacity) is
    ∙ ap (λ xs. buffer xs old.capacity) (append_assoc old.items (take place items) (item ∷ []) ∙ ap (λ xs. old.items ++ xs) (sym more)))

-- what weights say of their items
pub weighed : (items : List Item) (weights : List ℕ) → weights ≡ weights_in items → All (λ weight. 1 ≤ weight) weights → AreWeighed items
weighed items weights is some = λ place d within.
    let there = get_or-map (λ (i : Item). i.weight) items place d d.weight within in
    let least = some place d.weight (omega (arith, within, ap length is, length-map items (λ (i : Item). i.weight))) in
    subst (λ w. 1 ≤ w) (ap (λ ws. get_or ws place d.weight) is ∙ there) least
