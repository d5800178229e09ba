-- The bytes of items in a payload, of the first version or of a later one: laid, and read back.
use Rattle.std.proofs.Common.{◌≡◌, ℕ, zero, suc, ◌+◌, ◌-◌, ◌*◌, ◌/◌, ◌%◌, ◌<◌, ◌≤◌, ◌^◌, ◌==◌, Bool, true, false, List, [], ◌∷◌, ◌++◌, length, take, drop, get_or, map}
use Rattle.std.proofs.Common.{refl, sym, subst, ap, ap₂, arith, ◌∙◌, append_assoc, length-append, length-drop}
use Rattle.std.specs.Prelude.{flat_map, All, slice_index, if◌then◌else◌}
use Rattle.std.specs.List.{range_with_len}
use Rattle.std.proofs.lemmas.Bool.{true≢false}
use Rattle.std.proofs.lemmas.List.{drop_at, drop_all, take-append-drop, drop-drop, get_or-drop, take_more}
use Rattle.std.proofs.lemmas.List.Elements.{All-nil, All-cons, All-head, All-tail}
use Rattle.byteorder.specs.Endian.{little_number, little_bytes}
use Rattle.byteorder.specs.Numbers.{little_number-reads_back}
use Rattle.lert_spec.specs.{declared.item.Item.Item, Items.{keys_in, most_weight, AreOfVersion}}
use Rattle.lert_spec.proofs.ByteLaws.{bytes_back}

-- whether the version is the first
abbrev pub len_of : Bool → ℕ
len_of plain = if plain then 8 else 9

abbrev pub bytes_of : Bool → Item → List ℕ
bytes_of plain item = little_bytes 8 item.key ++ (if plain then [] else item.weight ∷ [])

abbrev pub item_by : Bool → List ℕ → ℕ → Item
item_by plain payload n = record {
  key = little_number 8 (drop (8 + len_of plain * n) payload);
  weight = if plain then 1 else slice_index payload (16 + len_of plain * n);
}

-- ---- lengths

pub length_bytes : (plain : Bool) (item : Item) → length (bytes_of plain item) ≡ len_of plain
length_bytes true item = refl
length_bytes false item = refl

pub length_items : (plain : Bool) (items : List Item) → length (flat_map (bytes_of plain) items) ≡ len_of plain * length items
length_items true [] = refl
length_items true (item ∷ rest) = omega (arith, length_items true rest)
length_items false [] = refl
length_items false (item ∷ rest) = omega (arith, length_items false rest)

pub count_back : (plain : Bool) (n : ℕ) → (8 + len_of plain * n - 8) / len_of plain ≡ n
count_back true n = omega arith
count_back false n = omega arith

pub none_over : (plain : Bool) (n : ℕ) → (8 + len_of plain * n - 8) % len_of plain ≡ 0
none_over true n = omega arith
none_over false n = omega arith

pub whole_len : (plain : Bool) (n : ℕ) → (n - 8) % len_of plain ≡ 0 → 8 ≤ n → n ≡ 8 + len_of plain * (0 + (n - 8) / len_of plain)
whole_len true n whole long = omega (arith, whole, long)
whole_len false n whole long = omega (arith, whole, long)

-- an item further
pub next_item : (plain : Bool) (n k : ℕ) → n ≡ 8 + len_of plain * k → n + len_of plain ≡ 8 + len_of plain * (k + 1)
next_item true n k is = omega (arith, is)
next_item false n k is = omega (arith, is)

-- the item with a number lies in its payload
pub item_within : (plain : Bool) (n len : ℕ) → n < (len - 8) / len_of plain → 8 + len_of plain * n + len_of plain ≤ len
item_within true n len below = omega (arith, below)
item_within false n len below = omega (arith, below)

-- ---- items that were laid are read back

-- each has a key of 64 bits, and weighs 1 where no weight is laid
abbrev pub AreLaid : Bool → List Item → Type 0
AreLaid plain items = All (λ item. (item.key < 2 ^ 64) × (plain ≡ true → item.weight ≡ 1)) items

pub laid_of : (version : ℕ) (items : List Item) → All (λ key. key < 2 ^ 64) (keys_in items) → AreOfVersion version items → AreLaid (version == 1) items
laid_of version [] keys are = All-nil (λ item. (item.key < 2 ^ 64) × ((version == 1) ≡ true → item.weight ≡ 1))
laid_of version (item ∷ rest) keys are =
    let here = All-head (λ i. (1 ≤ i.weight) × (i.weight ≤ most_weight version)) item rest are in
    All-cons (λ item. (item.key < 2 ^ 64) × ((version == 1) ≡ true → item.weight ≡ 1)) item rest
    (All-head (λ key. key < 2 ^ 64) item.key (keys_in rest) keys, λ first. one item.weight (version == 1) first here.0 here.1)
    (laid_of version rest (All-tail (λ key. key < 2 ^ 64) item.key (keys_in rest) keys) (All-tail (λ i. (1 ≤ i.weight) × (i.weight ≤ most_weight version)) item rest are))
  where
    one : (weight : ℕ) (plain : Bool) → plain ≡ true → 1 ≤ weight → weight ≤ (if plain then 1 else 255) → weight ≡ 1
    one weight true first some few = omega (arith, some, few)
    one weight false first some few = absurd (true≢false (sym first))

weight_back : (plain : Bool) (item : Item) (front rest : List ℕ) (k : ℕ) → length front ≡ 8 + len_of plain * k → (plain ≡ true → item.weight ≡ 1) →
    (item_by plain (front ++ (bytes_of plain item ++ rest)) k).weight ≡ item.weight
weight_back true item front rest k long one = sym (one refl)
weight_back false item front rest k long one =
    let text = front ++ (bytes_of false item ++ rest) in
    ap (λ place. get_or text place 0) (omega arith) ∙ (sym (get_or-drop (8 + 9 * k) text 8 0)
    ∙ ap (λ xs. get_or xs 8 0) (drop_at front (bytes_of false item ++ rest) (8 + 9 * k) long))

key_back : (plain : Bool) (item : Item) (front rest : List ℕ) (k : ℕ) → length front ≡ 8 + len_of plain * k → item.key < 2 ^ 64 →
    (item_by plain (front ++ (bytes_of plain item ++ rest)) k).key ≡ item.key
key_back plain item front rest k long below =
    ap (little_number 8) (drop_at front (bytes_of plain item ++ rest) (8 + len_of plain * k) long)
    ∙ little_number-reads_back 8 item.key ((if plain then [] else item.weight ∷ []) ++ rest) below

-- the items behind a front of eight bytes and of `k` items
pub items_back : (plain : Bool) (items : List Item) (front : List ℕ) (k : ℕ) → length front ≡ 8 + len_of plain * k → AreLaid plain items →
    map (item_by plain (front ++ flat_map (bytes_of plain) items)) (range_with_len k (length items)) ≡ items
items_back plain [] front k long are = refl
items_back plain (item ∷ rest) front k long are =
    let here = All-head (λ i. (i.key < 2 ^ 64) × (plain ≡ true → i.weight ≡ 1)) item rest are in
    let behind = flat_map (bytes_of plain) rest in
    let key = key_back plain item front behind k long here.0 in
    let weight = weight_back plain item front behind k long here.1 in
    let first : item_by plain (front ++ (bytes_of plain item ++ behind)) k ≡ item = λ i. record { key = key i; weight = weight i } in
    let longer : length (front ++ bytes_of plain item) ≡ 8 + len_of plain * (k + 1) =
    length-append front (bytes_of plain item) ∙ (ap (λ n. length front + n) (length_bytes plain item) ∙ next_item plain (length front) k long) in
    let others : map (item_by plain ((front ++ bytes_of plain item) ++ behind)) (range_with_len (k + 1) (length rest)) ≡ rest =
    items_back plain rest (front ++ bytes_of plain item) (k + 1) longer (All-tail (λ i. (i.key < 2 ^ 64) × (plain ≡ true → i.weight ≡ 1)) item rest are) in
    ap₂ (λ x xs. x ∷ xs) first (ap (λ bytes. map (item_by plain bytes) (range_with_len (k + 1) (length rest)))
    (sym (append_assoc front (bytes_of plain item) behind)) ∙ others)

-- ---- bytes are those of the items in them

item_there : (plain : Bool) (k : ℕ) (payload : List ℕ) → ((k : ℕ) → slice_index payload k < 256) → 8 + len_of plain * k + len_of plain ≤ length payload →
    bytes_of plain (item_by plain payload k) ≡ take (len_of plain) (drop (8 + len_of plain * k) payload)
item_there true k payload small long =
    let behind = drop (8 + 8 * k) payload in
    bytes_back 0 8 behind (λ j. subst (λ (b : ℕ). b < 256) (sym (get_or-drop (8 + 8 * k) payload j 0)) (small (8 + 8 * k + j)))
    (omega (arith, long, length-drop (8 + 8 * k) payload))
item_there false k payload small long =
    let behind = drop (8 + 9 * k) payload in
    let enough : 9 ≤ length behind = omega (arith, long, length-drop (8 + 9 * k) payload) in
    let key = bytes_back 0 8 behind (λ j. subst (λ (b : ℕ). b < 256) (sym (get_or-drop (8 + 9 * k) payload j 0)) (small (8 + 9 * k + j))) (omega (arith, enough)) in
    let weight : slice_index payload (16 + 9 * k) ≡ get_or behind 8 0 = ap (λ place. get_or payload place 0) (omega arith) ∙ sym (get_or-drop (8 + 9 * k) payload 8 0) in
    ap₂ (λ xs x. xs ++ x ∷ []) key weight ∙ sym (take_more behind 8 0 (omega (arith, enough)))

-- the bytes of all items from one on
pub items_there : (plain : Bool) (m k : ℕ) (payload : List ℕ) → ((k : ℕ) → slice_index payload k < 256) → length payload ≡ 8 + len_of plain * (k + m) →
    flat_map (bytes_of plain) (map (item_by plain payload) (range_with_len k m)) ≡ drop (8 + len_of plain * k) payload
items_there plain zero k payload small long = sym (drop_all (8 + len_of plain * k) payload (ends plain k (length payload) long))
  where
    ends : (plain : Bool) (k n : ℕ) → n ≡ 8 + len_of plain * (k + 0) → n ≤ 8 + len_of plain * k
    ends true k n is = omega (arith, is)
    ends false k n is = omega (arith, is)
items_there plain (suc m) k payload small long =
    let behind = drop (8 + len_of plain * k) payload in
    let first = item_there plain k payload small (room plain k m (length payload) long) in
    let others : flat_map (bytes_of plain) (map (item_by plain payload) (range_with_len (k + 1) m)) ≡ drop (len_of plain) behind =
    items_there plain m (k + 1) payload small (moved plain k m (length payload) long)
    ∙ (ap (λ n. drop n payload) (ahead plain k) ∙ sym (drop-drop (len_of plain) (8 + len_of plain * k) payload)) in
    ap₂ (λ xs ys. xs ++ ys) first others ∙ take-append-drop (len_of plain) behind
  where
    room : (plain : Bool) (k m n : ℕ) → n ≡ 8 + len_of plain * (k + suc m) → 8 + len_of plain * k + len_of plain ≤ n
    room true k m n is = omega (arith, is)
    room false k m n is = omega (arith, is)

    moved : (plain : Bool) (k m n : ℕ) → n ≡ 8 + len_of plain * (k + suc m) → n ≡ 8 + len_of plain * (k + 1 + m)
    moved true k m n is = omega (arith, is)
    moved false k m n is = omega (arith, is)

    ahead : (plain : Bool) (k : ℕ) → 8 + len_of plain * (k + 1) ≡ 8 + len_of plain * k + len_of plain
    ahead true k = omega arith
    ahead false k = omega arith
