-- Items that each weigh something: the tables of their tails, at some of their positions, and what these cost.
use Rattle.std.proofs.Common.{ℕ, ◌≡◌, ◌+◌, ◌-◌, ◌*◌, ◌/◌, ◌≤◌, ◌==◌, cond, false, List, [], ◌∷◌, length, take, drop, sym, ap, ap₂, ◌∙◌, refl, subst, arith, inl, inr, slice_range, length-drop}
use Rattle.std.proofs.{lemmas.Bool.{cases_eq, eq-eqb, ne_eqb}, lemmas.List.length-take, lemmas.List.Elements.{All-head, All-tail, All-take, All-drop}, lemmas.List.Sums.sum_by-cons}
use Rattle.std.specs.List.{All}
use Rattle.lert_spec.specs.{declared.item.Item.Item, declared.numbers.Numbers.Numbers, declared.piece.Piece.Piece, Bins.tally, Counts.{weighed, weight_of, AreWeighed}}
use Rattle.lert_spec.specs.{Items.{most_weight, AreOfVersion}, Table.{cost, costs, total}}
use Rattle.lert_spec.proofs.{CostLaws.costs-first, TallyLaws.{WeighSome, total-tally, costs-tally}}

abbrev pub WeighAll : List Item → Type 0
WeighAll events = All (λ item. 1 ≤ item.weight) events

pub weigh_some : (events : List Item) → WeighAll events → WeighSome weighed events
weigh_some [] all = tt
weigh_some (item ∷ events) all = (All-head (λ (i : Item). 1 ≤ i.weight) item events all, weigh_some events (All-tail (λ (i : Item). 1 ≤ i.weight) item events all))

pub weigh_slice : (events : List Item) (from to : ℕ) → WeighAll events → WeighSome weighed (slice_range events from to)
weigh_slice events from to all =
    weigh_some (slice_range events from to) (All-take (λ (i : Item). 1 ≤ i.weight) (to - from) (drop from events) (All-drop (λ (i : Item). 1 ≤ i.weight) from events all))

-- ---- items of a version

most_le : (version : ℕ) → most_weight version ≤ 255
most_le version = elim (cases_eq version 1) [
  | inl first ↦ omega (arith, ap (λ b. cond {A = ℕ} b 1 255) (eq-eqb version 1 first))
  | inr later ↦ omega (arith, ap (λ b. cond {A = ℕ} b 1 255) (ne_eqb version 1 later))
]

pub version_weigh : (version : ℕ) (events : List Item) → AreOfVersion version events → WeighAll events
version_weigh version events are = λ k d below. (are k d below).0

version_weighed : (version : ℕ) (events : List Item) → AreOfVersion version events → AreWeighed weighed events
version_weighed version events are = λ k d below. ((are k d below).0, omega (arith, (are k d below).1, most_le version))

pub version_slice : (version : ℕ) (events : List Item) (from to : ℕ) → AreOfVersion version events → AreOfVersion version (slice_range events from to)
version_slice version events from to are =
    let P : Item → Type 0 = λ item. (1 ≤ item.weight) × (item.weight ≤ most_weight version) in All-take P (to - from) (drop from events) (All-drop P from events are)

-- ---- their weight and what they cost

-- at least their number
pub weight_least : (items : List Item) → WeighAll items → length items ≤ weight_of weighed items
weight_least [] all = omega arith
weight_least (item ∷ items) all =
    omega (
      arith,
      All-head (λ (i : Item). 1 ≤ i.weight) item items all,
      weight_least items (All-tail (λ (i : Item). 1 ≤ i.weight) item items all),
      sum_by-cons (λ (i : Item). i.weight) item items,
    )

-- and no more where each weighs 1
weight_one : (items : List Item) → All (λ item. item.weight ≤ 1) items → weight_of weighed items ≤ length items
weight_one [] all = omega arith
weight_one (item ∷ items) all =
    omega (
      arith,
      All-head (λ (i : Item). i.weight ≤ 1) item items all,
      weight_one items (All-tail (λ (i : Item). i.weight ≤ 1) item items all),
      sum_by-cons (λ (i : Item). i.weight) item items,
    )

-- costs are the same with each later version
costs_later : (version : ℕ) (pieces : List Piece) → (version == 1) ≡ false → costs version pieces ≡ costs 2 pieces
costs_later version [] later = refl
costs_later version (p ∷ pieces) later = ap₂ (λ a b. a + b) (ap (λ b. cond b p.count ((p.count + 254) / 255)) later) (costs_later version pieces later)

-- the weights of some items cost no more than their number
pub costs_number : (s : Numbers) (version : ℕ) (items : List Item) → AreOfVersion version items → costs version (tally weighed s items) ≤ length items
costs_number s version items are = elim (cases_eq version 1) [
  | inl first ↦ (
      let light : All (λ item. item.weight ≤ 1) items = λ k d below. omega (arith, (are k d below).1, ap (λ b. cond {A = ℕ} b 1 255) (eq-eqb version 1 first)) in
      omega (arith, ap (λ v. costs v (tally weighed s items)) first, costs-first (tally weighed s items), total-tally weighed s items, weight_one items light))
  | inr later ↦ omega (arith, costs_later version (tally weighed s items) (ne_eqb version 1 later), costs-tally weighed s items (version_weighed version items are))
]

-- those of a window of positions
pub window_length : (events : List Item) (from to : ℕ) → to ≤ length events → length (slice_range events from to) ≡ to - from
window_length events from to within = omega (arith, length-take (to - from) (drop from events), length-drop from events)
