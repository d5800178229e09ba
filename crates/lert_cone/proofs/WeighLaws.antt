-- What items weigh together, and which of them weigh 1.
use Rattle.std.proofs.{Common.{ℕ, suc, ◌≡◌, ◌+◌, ◌*◌, ◌<◌, ◌≤◌, ◌==◌, get_or, not, true, false, Bool, List, [], ◌∷◌, ◌++◌, length, Option, Some, None, refl, sym, ap, ◌∙◌, arith, sum_by}}
use Rattle.std.proofs.{lemmas.List.Elements.{All-nil, All-cons, All-head, All-tail}, lemmas.List.Sums.{sum_by-append, sum_by-cons}, lemmas.Bool.{true≢false, eqb-true}, lemmas.Option.none-some}
use Rattle.std.specs.{Prelude.{if◌then◌else◌, option_map}, List.{position_from}}
use Rattle.lert_base.specs.{Keys.{items_of}, Packet.{Packet, events_of}}
use Rattle.lert_spec.specs.{declared.item.Item.Item, declared.numbers.Numbers.Numbers, Counts.{weighed, weight_of}, Edges.{capacity, weight_room}, Items.AreOfVersion}
use Rattle.lert_cone.specs.Refuses.{first_weighed}
use Rattle.lert_cone.proofs.SoundLaws.{events_more}
use Rattle.std.proofs.lemmas.Bool.{cases_eq, ne_eqb}
use Rattle.std.proofs.Common.{All, cond, inl, inr, subst}
use Rattle.lert_bay.specs.Files.{Files}
use Rattle.lert_cone.specs.{Listing.Listing, Refuses.PassesTest, Stands.{Standing, StandsFor, is_broken}}
use Rattle.std.proofs.Common.{◌-◌, take, drop}
use Rattle.std.proofs.{Math.Seq.drop-append-add, lemmas.Bool.cases_lt, lemmas.List.{drop-append-le, drop_all, take-append-drop}}
use Rattle.lert_cone.specs.Replay.{weight_behind}
use Rattle.lert_levels.specs.rows.Checked.{IsWeightOf}
use Rattle.lert_levels.proofs.rows.SumLaws.{weight_more, weight_none}
use Rattle.lert_spec.specs.Items.{most_weight}
use Rattle.lert_cone.specs.Room.{weight_from}
use Rattle.lert_reports.specs.declared.log_point.LogPoint.{LogPoint}
use Rattle.lert_spec.specs.Edges.{edge}
use Rattle.std.proofs.{Common.length-drop, lemmas.List.Elements.All-drop}
use Rattle.std.proofs.Math.Nat.{mul-div-le}
use Rattle.lert_spec.specs.Edges.{offset, span}
use Rattle.lert_spec.specs.Limits.{IsValid}
use Rattle.std.proofs.Common.{◌^◌}
use Rattle.lert_spec.proofs.LimitLaws.{capacity_to}

-- items that weigh 1 each weigh as many as they are
pub weigh_units : (items : List Item) → AreOfVersion 1 items → weight_of weighed items ≡ length items
weigh_units [] are = refl
weigh_units (item ∷ items) are =
    let P : Item → Type 0 = λ i. (1 ≤ i.weight) × (i.weight ≤ 1) in
    omega (arith, All-head P item items are, weigh_units items (All-tail P item items are), sum_by-cons (λ (i : Item). i.weight) item items)

-- and more items as much more
pub weigh_more : (items more : List Item) → weight_of weighed (items ++ more) ≡ weight_of weighed items + weight_of weighed more
weigh_more items more = sum_by-append (λ (i : Item). i.weight) items more

-- those of a packet more
pub weighed_more : (history : List Packet) (packet : Packet) → weight_of weighed (events_of (history ++ packet ∷ [])) ≡ weight_of weighed (events_of history) + weight_of weighed packet.items
weighed_more history packet = ap (weight_of weighed) (events_more history packet) ∙ weigh_more (events_of history) packet.items

-- what stands behind the first items of two lists, one behind the other
pub drop_joined : (n : ℕ) (items more : List Item) → drop n (items ++ more) ≡ drop n items ++ drop (n - length items) more
drop_joined n items more = elim (cases_lt (length items) n) [
  | inl less ↦ (let is : n ≡ length items + (n - length items) = omega (arith, less) in
      ap (λ k. drop k (items ++ more)) is ∙ drop-append-add items more (n - length items) ∙ ap (λ front. front ++ drop (n - length items) more) (sym (drop_all n items (omega (arith, less)))))
  | inr within ↦ drop-append-le n items more within ∙ ap (λ k. drop n items ++ drop k more) (let none : 0 ≡ n - length items = omega (arith, within) in none)
]

-- the first items of a list, and those of some later ones that stand behind them, weigh no more than all
pub light_next : (from : ℕ) (all items more rest : List Item) → all ≡ items ++ (more ++ rest) →
    weight_of weighed (take from all) + weight_of weighed (drop from items) + weight_behind from (length items) more ≤ weight_of weighed all
light_next from all items more rest is = omega (
  arith,
  ap (weight_of weighed) (sym (take-append-drop from all)),
  weigh_more (take from all) (drop from all),
  ap (λ (es : List Item). weight_of weighed (drop from es)) is,
  ap (weight_of weighed) (drop_joined from items (more ++ rest)),
  weigh_more (drop from items) (drop (from - length items) (more ++ rest)),
  ap (weight_of weighed) (drop_joined (from - length items) more rest),
  weigh_more (drop (from - length items) more) (drop (from - length items - length more) rest),
)

-- so they weigh with those of a packet more, behind a position up to which they are counted elsewhere
pub behind_more : (from : ℕ) (items more : List Item) → weight_of weighed (drop from (items ++ more)) ≡ weight_of weighed (drop from items) + weight_behind from (length items) more
behind_more from items more = ap (weight_of weighed) (drop_joined from items more) ∙ weigh_more (drop from items) (drop (from - length items) more)

-- items of a version weigh what so many may
pub weight_within : (version : ℕ) (items : List Item) → AreOfVersion version items → IsWeightOf version (length items) (weight_of weighed items)
weight_within version [] light = weight_none version
weight_within version (item ∷ items) light =
    let P : Item → Type 0 = λ i. (1 ≤ i.weight) × (i.weight ≤ most_weight version) in
    let first = All-head P item items light in
    subst (λ w. IsWeightOf version (suc (length items)) w) (sym (sum_by-cons (λ (i : Item). i.weight) item items))
    (subst (λ n. IsWeightOf version n (item.weight + weight_of weighed items)) (let one : 1 + length items ≡ suc (length items) = omega arith in one)
    (weight_more version 1 (length items) item.weight (weight_of weighed items) (first.0, omega (arith, first.1)) (weight_within version items (All-tail P item items light))))

-- level 0 begins behind no more than there are
pub edge_to : (s : Numbers) (n : ℕ) → edge s 0 n ≤ n
edge_to s n = omega (arith, mul-div-le (n - offset s 0) (span s 0))

-- items that reach behind the edge at the log's last record weigh what so many may, with what the frames weigh
pub weighs_from : (s : Numbers) (last : LogPoint) (items : List Item) → edge s 0 last.n0 ≤ length items → AreOfVersion last.version items →
    IsWeightOf last.version (edge s 0 last.n0) last.weight → IsWeightOf last.version (length items) (weight_from s last items)
weighs_from s last items passed light frames =
    let from = edge s 0 last.n0 in
    let behind = weight_within last.version (drop from items) (All-drop (λ (i : Item). (1 ≤ i.weight) × (i.weight ≤ most_weight last.version)) from items light) in
    subst (λ n. IsWeightOf last.version n (weight_from s last items)) (omega (arith, length-drop from items, passed))
    (weight_more last.version from (length (drop from items)) last.weight (weight_of weighed (drop from items)) frames behind)

-- behind that edge more items weigh as much more
pub weight_from_more : (s : Numbers) (last : LogPoint) (items more : List Item) → edge s 0 last.n0 ≤ length items →
    weight_from s last (items ++ more) ≡ weight_from s last items + weight_of weighed more
weight_from_more s last items more passed = omega (
  arith,
  behind_more (edge s 0 last.n0) items more,
  ap (λ k. weight_of weighed (drop k more)) (let none : edge s 0 last.n0 - length items ≡ 0 = omega (arith, passed) in none),
)

-- before it none of them count
pub weight_from_none : (s : Numbers) (last : LogPoint) (items : List Item) → length items ≤ edge s 0 last.n0 → weight_from s last items ≡ last.weight
weight_from_none s last items early = omega (arith, ap (weight_of weighed) (drop_all (edge s 0 last.n0) items early))

most_of : (plain : Bool) (n : ℕ) → cond {A = ℕ} plain 1 255 * n ≤ 255 * n
most_of true n = omega arith
most_of false n = omega arith

-- an item weighs 255 at most
weight_to : (version n w : ℕ) → IsWeightOf version n w → w ≤ 255 * n
weight_to version n w within = omega (arith, within.1, most_of (version == 1) n)

-- so a cone's weight is small
pub weight_from_small : (s : Numbers) (last : LogPoint) (items : List Item) → IsValid s → last.n0 ≤ capacity s → length items ≤ capacity s → AreOfVersion last.version items →
    IsWeightOf last.version (edge s 0 last.n0) last.weight → weight_from s last items < 2 ^ 62
weight_from_small s last items valid n0_fits fits light frames =
    let from = edge s 0 last.n0 in
    omega (
      arith,
      n0_fits,
      fits,
      edge_to s last.n0,
      length-drop from items,
      capacity_to s valid,
      weight_to last.version from last.weight frames,
      weight_to last.version (length (drop from items)) (weight_of weighed (drop from items))
          (weight_within last.version (drop from items) (All-drop (λ (i : Item). (1 ≤ i.weight) × (i.weight ≤ most_weight last.version)) from items light)),
    )

-- a cone takes no more items than weight
pub few_light : (s : Numbers) (n : ℕ) → n ≤ capacity s → n ≤ weight_room s
few_light s n few = omega (arith, few)

-- ---- the weights of items beside their keys

pub length-beside : (keys weights : List ℕ) → length weights ≡ length keys → length (items_of keys weights) ≡ length keys
length-beside [] weights same = refl
length-beside (key ∷ keys) [] same = absurd (omega (arith, same))
length-beside (key ∷ keys) (weight ∷ weights) same = ap suc (length-beside keys weights (omega (arith, same)))

pub weigh_beside : (keys weights : List ℕ) → length weights ≡ length keys → weight_of weighed (items_of keys weights) ≡ sum_by (λ w. w) weights
weigh_beside [] [] same = refl
weigh_beside [] (weight ∷ weights) same = absurd (omega (arith, same))
weigh_beside (key ∷ keys) [] same = absurd (omega (arith, same))
weigh_beside (key ∷ keys) (weight ∷ weights) same =
    omega (
      arith,
      weigh_beside keys weights (omega (arith, same)),
      sum_by-cons (λ (i : Item). i.weight) (record { key = key; weight = weight }) (items_of keys weights),
      sum_by-cons (λ (w : ℕ). w) weight weights,
    )

-- bytes are small
pub bytes_weigh : (weights : List ℕ) → ((i : ℕ) → get_or weights i 0 < 256) → sum_by (λ w. w) weights ≤ 255 * length weights
bytes_weigh [] small = omega arith
bytes_weigh (weight ∷ weights) small = omega (arith, small 0, bytes_weigh weights (λ i. small (suc i)), sum_by-cons (λ (w : ℕ). w) weight weights)

-- ---- the first item that weighs another amount than 1

-- among weights it stands where it stands among items
pub first_beside : (at : ℕ) (keys weights : List ℕ) → length weights ≡ length keys →
    position_from (λ (i : Item). not (i.weight == 1)) at (items_of keys weights) ≡ position_from (λ w. not (w == 1)) at weights
first_beside at [] [] same = refl
first_beside at [] (weight ∷ weights) same = absurd (omega (arith, same))
first_beside at (key ∷ keys) [] same = absurd (omega (arith, same))
first_beside at (key ∷ keys) (weight ∷ weights) same = ap (λ rest. if not (weight == 1) then Some at else rest) (first_beside (at + 1) keys weights (omega (arith, same)))

-- counted from the next number on it has that number
pub first_next : (at : ℕ) (weights : List ℕ) → position_from (λ w. not (w == 1)) (at + 1) weights ≡ option_map (λ place. place + 1) (position_from (λ w. not (w == 1)) at weights)
first_next at [] = refl
first_next at (weight ∷ weights) = next _ _ (not (weight == 1)) (first_next (at + 1) weights)
  where
    next : (rest further : Option ℕ) (b : Bool) → further ≡ option_map (λ place. place + 1) rest →
        (if b then Some (at + 1) else further) ≡ option_map (λ place. place + 1) (if b then Some at else rest)
    next rest further true is = refl
    next rest further false is = is

-- so that of items is one more than where it stands among their weights, from 0
pub first_is : (keys weights : List ℕ) (found : Option ℕ) → length weights ≡ length keys → found ≡ position_from (λ w. not (w == 1)) 0 weights →
    option_map (λ place. place + 1) found ≡ first_weighed (items_of keys weights)
first_is keys weights found same is = ap (option_map (λ (place : ℕ). place + 1)) is ∙ sym (first_next 0 weights) ∙ sym (first_beside 1 keys weights same)

fell : (b : Bool) (x : ℕ) (rest : Option ℕ) → (if b then Some x else rest) ≡ None → (b ≡ false) × (rest ≡ None)
fell true x rest is = absurd (none-some x (sym is))
fell false x rest is = (refl, is)

kept : (b : Bool) → not b ≡ false → b ≡ true
kept true is = refl
kept false is = absurd (true≢false is)

units_from : (at : ℕ) (items : List Item) → position_from (λ (i : Item). not (i.weight == 1)) at items ≡ None → AreOfVersion 1 items
units_from at [] none = All-nil (λ (i : Item). (1 ≤ i.weight) × (i.weight ≤ 1))
units_from at (item ∷ items) none =
    let parts = fell (not (item.weight == 1)) at (position_from (λ (i : Item). not (i.weight == 1)) (at + 1) items) none in
    let one = eqb-true item.weight 1 (kept (item.weight == 1) parts.0) in
    All-cons (λ (i : Item). (1 ≤ i.weight) × (i.weight ≤ 1)) item items (omega (arith, one), omega (arith, one)) (units_from (at + 1) items parts.1)

-- where none does, each weighs 1
pub units_if : (items : List Item) → first_weighed items ≡ None → AreOfVersion 1 items
units_if items none = units_from 1 items none

-- items that a version of files can say
pub of_version : (version : ℕ) (items : List Item) → (version ≡ 1 → first_weighed items ≡ None) → AreOfVersion 2 items → AreOfVersion version items
of_version version items sayable light = elim (cases_eq version 1) [
  | inl first ↦ subst (λ v. AreOfVersion v items) (sym first) (units_if items (sayable first))
  | inr later ↦ subst (λ b. All (λ (i : Item). (1 ≤ i.weight) × (i.weight ≤ cond {A = ℕ} b 1 255)) items) (sym (ne_eqb version 1 later)) light
]

-- what a cone stands for, and a packet that its test lets pass, weigh no more than it takes
pub can_hold : {B : Type 0} {files : B → Option Files} {leaves : B → Files → Type 0} {faults : B → ℕ} {cone : Standing B} (packet : Packet) {more : ℕ} → PassesTest cone packet.items more →
    (h : List Packet) → StandsFor files leaves faults cone h → weight_of weighed (events_of (h ++ packet ∷ [])) ≤ weight_room cone.listing.settings
can_hold packet passes h stands = omega (arith, passes.light, passes.more_is, stands.weighed (ap is_broken passes.running), weighed_more h packet)

-- so do the items of a journal's packets, with none besides
pub light_whole : (listing : Listing) (h : List Packet) → listing.events ≡ events_of h → weight_of weighed (events_of h) ≤ weight_room listing.settings →
    weight_of weighed (listing.events ++ []) ≤ weight_room listing.settings
light_whole listing h keys weighs = omega (arith, weighs, weigh_more listing.events [], ap (weight_of weighed) keys)
