-- How a table grows with the items of a packet.
use Rattle.std.proofs.Common.{ℕ, suc, ◌≡◌, ◌+◌, ◌<◌, ◌≤◌, List, [], ◌∷◌, ◌++◌, length, take, fold, get_or, ap, ap₂, sym, ◌∙◌, arith, length-append, length-take, subst, All}
use Rattle.std.proofs.{Math.Seq.{take-suc, take-length}, lemmas.{Grind.flat_map-append, List.{append-nil, Elements.{All-head, All-tail, All-nil, All-cons, All-append}, Sums.fold-append}}}
use Rattle.lert_base.specs.{Keys.items_of, Packet.{Packet, events_of}}
use Rattle.lert_base.proofs.ItemsOf.{items_of-push, length-items_of}
use Rattle.lert_cqf.specs.Contents.{Contents}
use Rattle.lert_spec.specs.{declared.item.Item.Item, declared.numbers.Numbers.Numbers, declared.piece.Piece.Piece, Bins.tally}
use Rattle.lert_spec.specs.{Counts.weighed, Edges.key_limit, Items.{keys_in, AreOfVersion}, Mix.{cone_of, tail_of}, Table.plus}
use Rattle.lert_census.specs.Census.{Census, IsCounted, MayTake, StandsFor, with_items}

-- a table with one item more
abbrev pub with_item : Numbers → Contents → Item → Contents
with_item s table item = record table { pieces = plus table.pieces (tail_of s item.key) item.weight; adds = table.adds + 1 }

with_items-push : (s : Numbers) (table : Contents) (items : List Item) (item : Item) → with_items s table (items ++ item ∷ []) ≡ with_item s (with_items s table items) item
with_items-push s table items item =
    ap₂ (λ pieces adds. record table { pieces = pieces; adds = adds })
    (fold-append (λ (pieces : List Piece) (each : Item). plus pieces (tail_of s each.key) each.weight) table.pieces items (item ∷ []))
    (omega (arith, length-append items (item ∷ [])))

-- the items up to a number, and the next one behind them
pub next_item : (s : Numbers) (table : Contents) (keys weights : List ℕ) (n : ℕ) → length weights ≡ length keys → n < length keys →
    with_items s table (items_of (take (n + 1) keys) (take (n + 1) weights))
    ≡ with_item s (with_items s table (items_of (take n keys) (take n weights))) (record { key = get_or keys n 0; weight = get_or weights n 0 })
next_item s table keys weights n same below =
    let next : n + 1 ≡ suc n = omega arith in
    ap₂ (λ ks ws. with_items s table (items_of ks ws)) (ap (λ m. take m keys) next ∙ take-suc keys n 0 below) (ap (λ m. take m weights) next ∙ take-suc weights n 0 (omega (arith, same, below)))
    ∙ ap (with_items s table) (items_of-push (take n keys) (take n weights) (get_or keys n 0) (get_or weights n 0)
    (omega (arith, length-take n keys, length-take n weights, same)))
    ∙ with_items-push s table (items_of (take n keys) (take n weights)) (record { key = get_or keys n 0; weight = get_or weights n 0 })

-- so the table holds the items up to a number, and with one more those up to the next
pub one_added : (s : Numbers) (old table new : Contents) (keys weights : List ℕ) (n tail weight : ℕ) → length weights ≡ length keys → n < length keys →
    table ≡ with_items s old (items_of (take n keys) (take n weights)) → tail ≡ tail_of s (get_or keys n 0) → weight ≡ get_or weights n 0 →
    new ≡ record table { pieces = plus table.pieces tail weight; adds = table.adds + 1 } → new ≡ with_items s old (items_of (take (n + 1) keys) (take (n + 1) weights))
one_added s old table new keys weights n tail weight same below holds tail_is weight_is is =
    is
    ∙ ap₂ (λ t w. record table { pieces = plus table.pieces t w; adds = table.adds + 1 }) tail_is weight_is
    ∙ ap (λ t. with_item s t (record { key = get_or keys n 0; weight = get_or weights n 0 })) holds
    ∙ sym (next_item s old keys weights n same below)

pub adds_are : (s : Numbers) (old table : Contents) (keys weights : List ℕ) (n : ℕ) → length weights ≡ length keys → n ≤ length keys →
    table ≡ with_items s old (items_of (take n keys) (take n weights)) → table.adds ≡ old.adds + n
adds_are s old table keys weights n same within holds =
    omega (
      arith,
      ap (λ (t : Contents). t.adds) holds,
      length-items_of (take n keys) (take n weights) (omega (arith, length-take n keys, length-take n weights, same)),
      length-take n keys,
      within,
    )

-- behind the last number it holds all
pub all_added : (s : Numbers) (old table : Contents) (keys weights : List ℕ) (n : ℕ) → length weights ≡ length keys → n ≡ length keys →
    table ≡ with_items s old (items_of (take n keys) (take n weights)) → table ≡ with_items s old (items_of keys weights)
all_added s old table keys weights n same all holds =
    holds
    ∙ ap₂ (λ ks ws. with_items s old (items_of ks ws)) (ap (λ m. take m keys) all ∙ take-length keys) (ap (λ m. take m weights) (all ∙ sym same) ∙ take-length weights)

pub events_push : (history : List Packet) (packet : Packet) → events_of (history ++ packet ∷ []) ≡ events_of history ++ packet.items
events_push history packet = flat_map-append (λ (p : Packet). p.items) history (packet ∷ []) ∙ ap (λ items. events_of history ++ items) (append-nil packet.items)

-- the items of a packet that may be applied are counted
counted_by : (s : Numbers) (region : ℕ) (items : List Item) → All (λ key. key < key_limit s) (keys_in items) → All (λ key. cone_of s key ≡ region) (keys_in items) → AreOfVersion 2 items →
    All (IsCounted s region) items
counted_by s region [] fit own weighs = All-nil (IsCounted s region)
counted_by s region (item ∷ items) fit own weighs =
    All-cons (IsCounted s region) item items (record {
      fits = All-head (λ key. key < key_limit s) item.key (keys_in items) fit;
      own = All-head (λ key. cone_of s key ≡ region) item.key (keys_in items) own;
      weighs = (All-head (λ (i : Item). (1 ≤ i.weight) × (i.weight ≤ 255)) item items weighs).0;
    })
    (counted_by s region items (All-tail (λ key. key < key_limit s) item.key (keys_in items) fit) (All-tail (λ key. cone_of s key ≡ region) item.key (keys_in items) own)
    (All-tail (λ (i : Item). (1 ≤ i.weight) × (i.weight ≤ 255)) item items weighs))

-- with them a region stands for the list with the packet behind it
pub stands_next : (census : Census) (history : List Packet) (packet : Packet) (table : Contents) → StandsFor census history → MayTake census.settings census.region packet →
    All (λ key. key < key_limit census.settings) (keys_in packet.items) → census.table.adds + length packet.items ≤ census.settings.room →
    table ≡ with_items census.settings census.table packet.items → StandsFor (record census { table = table }) (history ++ packet ∷ [])
stands_next census history packet table stands fits keys room is =
    let s = census.settings in
    let push = events_push history packet in
    let add : List Piece → Item → List Piece = λ pieces item. plus pieces (tail_of s item.key) item.weight in
    let P : Packet → Type 0 = λ p. 0 < length p.items in
    record {
      some = All-append P history (packet ∷ []) stands.some (All-cons P packet [] fits.some (All-nil P));
      counted = subst (All (IsCounted s census.region)) (sym push)
          (All-append (IsCounted s census.region) (events_of history) packet.items stands.counted (counted_by s census.region packet.items keys fits.of_cone fits.weighed));
      counts_are = ap (λ (t : Contents). t.pieces) is
          ∙ ap (λ pieces. fold add pieces packet.items) stands.counts_are
          ∙ sym (fold-append add [] (events_of history) packet.items)
          ∙ sym (ap (tally weighed s) push);
      items_are = omega (arith, ap (λ (t : Contents). t.adds) is, stands.items_are, ap length push, length-append (events_of history) packet.items);
      within = omega (arith, ap (λ (t : Contents). t.adds) is, room);
      named = stands.named;
      valid = stands.valid;
    }
