use Rattle.std.proofs.{Common.{◌≡◌, ℕ, ◌+◌, ◌-◌, ◌*◌, ◌/◌, ◌≤◌, ◌<◌, length, ap, arith, sym, ◌∙◌, refl}, lemmas.List.get_or_default, Math.Nat.{div-add-mod, mul_comm}}
use Rattle.lert_spec.proofs.EdgeLaws.{steps}
use Rattle.lert_cone.specs.JournalPlaces.{Places, bins_begun, first_place, oldest_place}
use Rattle.lert_spec.specs.{declared.numbers.Numbers.Numbers, Edges.{edge, offset, span}, Limits.IsValid}
use Rattle.lert_cone.proofs.{BinLaws.{begun_to, bins_few}, JournalPlaceLaws.{oldest_at_none, oldest_at_some, oldest_read}}
use Rattle.lert_cone.proofs.journal_places.JournalPlaces.oldest.Goals as goal

part_within : (n less w place : ℕ) → n ≤ place → w * ((n - less) / w) ≤ place
part_within n less w place within = omega (arith, within, div-add-mod (n - less) w, mul_comm w ((n - less) / w))

-- level 0's edge lies before the next bin
edge_begun : (s : Numbers) → IsValid s → (n : ℕ) → edge s 0 n ≤ bins_begun s n * span s 0
edge_begun s valid n = part_within n (offset s 0) (span s 0) (bins_begun s n * span s 0) (begun_to s valid n)

before_next : (place edge_is next at : ℕ) → edge_is ≤ place → next ≡ place + 1 → at ≡ edge_is → at ≤ next - 1
before_next place edge_is next at before next_is at_is = omega (arith, before, next_is, at_is)

pub edge-edge-requires-clause-events : goal.edge-edge-requires-clause-events
edge-edge-requires-clause-events c = c.self.invariant.within

pub overflow_sub-bins : goal.overflow_sub-bins
overflow_sub-bins c = omega (arith, c.self.invariant.next_is)

pub overflow_sub-bins-2 : goal.overflow_sub-bins-2
overflow_sub-bins-2 c =
    before_next _ _ c.self.inside.next c.edge-edge.result
    (edge_begun c.self.inside.settings c.self.invariant.valid c.self.inside.passed) c.self.invariant.next_is c.edge-edge.ensures

pub overflow_sub-result : goal.overflow_sub-result
overflow_sub-result c = omega (arith, c.if-bins-eq0.false)

-- a place stands for each bin behind the edge
bins_below : (c : goal.Else-bins-eq0) → (c.self.inside.next - 1 - c.edge-edge.result) / c.span.result - 1 < 17
bins_below c =
    let s = c.self.inside.settings in
    let bins = (c.self.inside.next - 1 - c.edge-edge.result) / c.span.result in
    let bins_are : bins ≡ bins_begun s c.self.inside.passed - steps s 0 c.self.inside.passed =
    oldest_read s c.self.invariant.valid
    (record { settings = s; places = c.self.inside.places; passed = c.self.inside.passed; from = c.self.inside.from })
    c.self.inside.next c.edge-edge.result bins refl c.self.invariant.next_is c.edge-edge.ensures
    (ap (λ w. (c.self.inside.next - 1 - c.edge-edge.result) / w) c.span.ensures.value) in
    omega (arith, bins_are, bins_few s c.self.invariant.valid c.self.inside.passed, c.self.invariant.valid.limits.bins_to)

pub offset_bounds-self-inside-bins : goal.offset_bounds-self-inside-bins
offset_bounds-self-inside-bins c = record { fits = omega (arith, bins_below c) }

pub bounds-self-inside-bins : goal.bounds-self-inside-bins
bounds-self-inside-bins c = bins_below c

pub returns-then-bins-eq0 : goal.returns-then-bins-eq0
returns-then-bins-eq0 c =
    let s = c.self.inside.settings in
    let places : Places = record { settings = s; places = c.self.inside.places; passed = c.self.inside.passed; from = c.self.inside.from } in
    let bins_are = oldest_read s c.self.invariant.valid places c.self.inside.next c.edge-edge.result _ refl c.self.invariant.next_is c.edge-edge.ensures
    (ap (λ w. (c.self.inside.next - 1 - c.edge-edge.result) / w) c.span.ensures.value) in
    oldest_at_none s c.self.invariant.valid places refl (sym bins_are ∙ c.if-bins-eq0.true) ∙ ap oldest_place c.self.view_is

pub returns : goal.returns
returns c =
    let s = c.self.inside.settings in
    let places : Places = record { settings = s; places = c.self.inside.places; passed = c.self.inside.passed; from = c.self.inside.from } in
    let bins = (c.self.inside.next - 1 - c.edge-edge.result) / c.span.result in
    let bins_are : bins ≡ bins_begun s c.self.inside.passed - steps s 0 c.self.inside.passed =
    oldest_read s c.self.invariant.valid places c.self.inside.next c.edge-edge.result bins refl c.self.invariant.next_is c.edge-edge.ensures
    (ap (λ w. (c.self.inside.next - 1 - c.edge-edge.result) / w) c.span.ensures.value) in
    let some : 1 ≤ bins = omega (arith, c.if-bins-eq0.false) in
    let below : bins - 1 < length c.self.inside.places =
    omega (arith, c.self.invariant.counted, bins_are, bins_few s c.self.invariant.valid c.self.inside.passed, c.self.invariant.valid.limits.bins_to) in
    get_or_default c.self.inside.places (bins - 1) (record { gate = 0; first = 0 }) first_place below
    ∙ oldest_at_some s c.self.invariant.valid places bins refl bins_are some
    ∙ ap oldest_place c.self.view_is
