use Rattle.std.proofs.Common.{◌≡◌, ◌+◌, ◌^◌, ◌<◌, ◌≤◌, ◌++◌, ◌∷◌, [], suc, false, length, ap, sym, ◌∙◌, refl, subst, arith, append_assoc, length-append}
use Rattle.lert_spec.specs.{declared.numbers.Numbers.Numbers, Edges.{capacity, tail_bits}, Limits.IsValid, Mix.cone_of}
use Rattle.lert_cone.specs.Tally.{Tallied, IsCounted, due_in}
use Rattle.lert_cone.proofs.{KeyCounted.{not_counted, no_room, key_counted}, NextFlush.{flush_next, next_flushes, next_stays}, TakeLaws.{rows_before, bins_light, to_take}, TallyLaws.next_position}
use Rattle.lert_bay.specs.Kept.{seen_by}
use Rattle.std.specs.Prelude.{ℕ, Result}
use Rattle.lert_levels.specs.{declared.rows.fault.FlushFault.FlushFault, OnDisk.OnDisk, rows.Young.{AreLight, IsNextPosition, Young}}
use Rattle.lert_cone.specs.{Counts.GivesTotals, Due.Dues}
use Rattle.lert_bay.proofs.KeptLaws.{IsLawful}
use Rattle.lert_cone.proofs.tally.Tally.take.Given as given
use Rattle.lert_cone.proofs.tally.Tally.take.Goals as goal

lawful : (g : given.Over) → IsLawful (seen_by g.B.Faulty g.B.Bay)
lawful g = record { as_read = g.met.B.Bay.as_read; since_now = g.met.B.Bay.since_now; only_now = g.met.B.Bay.only_now; since_earlier = g.met.B.Bay.since_earlier }

-- totals given over levels of the cone's version
of_version : (g : given.Over) (levels : OnDisk) {version : ℕ} → levels.version ≡ version → {start due : Dues} {m tail : ℕ} {bay after : g.row.B.Denot} {zero zero_after : Young} {levels_after : OnDisk}
    {result : Result (Unit {0}) FlushFault} → GivesTotals (seen_by g.B.Faulty g.B.Bay) start m tail bay after zero zero_after levels levels_after due result →
    GivesTotals (seen_by g.B.Faulty g.B.Bay) start m tail bay after zero zero_after (record { settings = levels.settings; version = version; rows = levels.rows }) levels_after due result
of_version g levels {version} is {start} {due} {m} {tail} {bay} {after} {zero} {zero_after} {levels_after} {result} gives =
    subst (λ v. GivesTotals (seen_by g.B.Faulty g.B.Bay) start m tail bay after zero zero_after (record { settings = levels.settings; version = v; rows = levels.rows }) levels_after due result)
    is gives

-- level 0 has items of that version
pub give_totals-requires-clause-light : goal.give_totals-requires-clause-light
give_totals-requires-clause-light g c =
    let item = to_take c.self.view_is c.requires.counted c.requires.fits c.self.invariant.levels_settings c.self.invariant.valid c.self.invariant.named c.self.invariant.young_settings
    c.tail_of-tail.ensures.value c.self.invariant.len_is c.requires.some c.requires.light c.add.ensures in
    subst (λ v. AreLight v c.add.new.self.bins) (sym c.self.invariant.version) (bins_light item)

pub overflow_add-m : goal.overflow_add-m
overflow_add-m g c =
    let fits : length (c.self.inside.unread ++ c.self.inside.taken) < capacity c.self.inside.settings =
    subst (λ (v : Tallied). length v.listing.events < capacity v.listing.settings) (sym c.self.view_is) c.requires.fits in
    omega (arith, c.self.invariant.len_is, fits, c.self.invariant.valid.positions_fit)

pub flush_behind-flush-requires-clause-fits : goal.flush_behind-flush-requires-clause-fits
flush_behind-flush-requires-clause-fits g c =
    let fits : length (c.self.inside.unread ++ c.self.inside.taken) < capacity c.self.inside.settings =
    subst (λ (v : Tallied). length v.listing.events < capacity v.listing.settings) (sym c.self.view_is) c.requires.fits in
    omega (arith, c.self.invariant.len_is, fits)

pub flush_behind-flush-requires-clause-flush : goal.flush_behind-flush-requires-clause-flush
flush_behind-flush-requires-clause-flush g c = c.self.invariant.flush_is

pub add-requires-clause-below : goal.add-requires-clause-below
add-requires-clause-below g c = subst (λ (s : Numbers). c.tail_of-tail.result < 2 ^ tail_bits s) (sym c.self.invariant.young_settings) c.tail_of-tail.ensures.below

pub begin-requires : goal.begin-requires
begin-requires g c = record { there = c.self.invariant.there }

pub give_totals-requires-clause-there : goal.give_totals-requires-clause-there
give_totals-requires-clause-there g c = c.begin.ensures.there

pub give_totals-requires-clause-valid : goal.give_totals-requires-clause-valid
give_totals-requires-clause-valid g c = subst IsValid (sym c.self.invariant.levels_settings) c.self.invariant.valid

pub give_totals-requires-clause-first : goal.give_totals-requires-clause-first
give_totals-requires-clause-first g c = omega arith

pub give_totals-requires-clause-last : goal.give_totals-requires-clause-last
give_totals-requires-clause-last g c =
    let fits : length (c.self.inside.unread ++ c.self.inside.taken) < capacity c.self.inside.settings =
    subst (λ (v : Tallied). length v.listing.events < capacity v.listing.settings) (sym c.self.view_is) c.requires.fits in
    subst (λ (s : Numbers). c.self.inside.len + 1 ≤ capacity s) (sym c.self.invariant.levels_settings) (omega (arith, c.self.invariant.len_is, fits))

pub give_totals-requires-clause-settings : goal.give_totals-requires-clause-settings
give_totals-requires-clause-settings g c = ap (λ (y : Young). y.settings) c.add.ensures ∙ c.self.invariant.young_settings ∙ sym c.self.invariant.levels_settings

pub give_totals-requires-clause-to : goal.give_totals-requires-clause-to
give_totals-requires-clause-to g c = ap (λ (y : Young). y.to) c.add.ensures

pub is_full-requires : goal.is_full-requires
is_full-requires g c = record { there = c.give_totals.ensures.there }

pub invariant_of-self : goal.invariant_of-self
invariant_of-self g c = record {
  valid = c.self.invariant.valid;
  named = c.self.invariant.named;
  young_settings = c.give_totals.ensures.gives.young_settings ∙ ap (λ (y : Young). y.settings) c.add.ensures ∙ c.self.invariant.young_settings;
  levels_settings = c.give_totals.ensures.gives.settings ∙ c.self.invariant.levels_settings;
  version = c.give_totals.ensures.gives.version ∙ c.self.invariant.version;
  known = c.self.invariant.known;
  there = c.give_totals.ensures.there;
  len_is = c.self.invariant.len_is;
  flush_is = c.self.invariant.flush_is;
}

pub invariant_of-self-then-is_full : goal.invariant_of-self-then-is_full
invariant_of-self-then-is_full g c = record {
  valid = c.self.invariant.valid;
  named = c.self.invariant.named;
  young_settings = c.give_totals.ensures.gives.young_settings ∙ ap (λ (y : Young). y.settings) c.add.ensures ∙ c.self.invariant.young_settings;
  levels_settings = c.give_totals.ensures.gives.settings ∙ c.self.invariant.levels_settings;
  version = c.give_totals.ensures.gives.version ∙ c.self.invariant.version;
  known = c.self.invariant.known;
  there = c.give_totals.ensures.there;
  len_is = c.self.invariant.len_is;
  flush_is = c.self.invariant.flush_is;
}

pub invariant_of-self-2 : goal.invariant_of-self-2
invariant_of-self-2 g c = record {
  valid = c.self.invariant.valid;
  named = c.self.invariant.named;
  young_settings = c.give_totals.ensures.gives.young_settings ∙ ap (λ (y : Young). y.settings) c.add.ensures ∙ c.self.invariant.young_settings;
  levels_settings = c.give_totals.ensures.gives.settings ∙ c.self.invariant.levels_settings;
  version = c.give_totals.ensures.gives.version ∙ c.self.invariant.version;
  known = c.self.invariant.known;
  there = c.give_totals.ensures.there;
  len_is = omega (
    arith,
    c.self.invariant.len_is,
    length-append c.self.inside.unread c.self.inside.taken,
    ap length c.push.ensures,
    length-append c.self.inside.taken (c.args.item ∷ []),
    length-append c.self.inside.unread c.push.new.self,
  );
  flush_is = flush_next c.self.inside.settings c.self.inside.settings refl c.self.invariant.valid c.self.inside.len c.flush_behind-flush.result c.flush_behind-flush.ensures;
}

pub add-requires-clause-position : goal.add-requires-clause-position
add-requires-clause-position g c =
    let counted = subst (λ (v : Tallied). IsCounted v) (sym c.self.view_is) c.requires.counted in
    let fits : length (c.self.inside.unread ++ c.self.inside.taken) < capacity c.self.inside.settings =
    subst (λ (v : Tallied). length v.listing.events < capacity v.listing.settings) (sym c.self.view_is) c.requires.fits in
    let m_is : c.self.inside.len + 1 ≡ suc (length (c.self.inside.unread ++ c.self.inside.taken)) = omega (arith, c.self.invariant.len_is) in
    subst (IsNextPosition c.self.inside.zero) (sym m_is)
    (next_position c.self.inside.settings c.self.invariant.valid c.self.inside.zero (c.self.inside.unread ++ c.self.inside.taken)
    c.args.item c.self.invariant.young_settings counted.from counted.to counted.bins.is fits)

pub give_totals-requires-clause-rows : goal.give_totals-requires-clause-rows
give_totals-requires-clause-rows g c =
    let item = to_take c.self.view_is c.requires.counted c.requires.fits c.self.invariant.levels_settings c.self.invariant.valid c.self.invariant.named c.self.invariant.young_settings
    c.tail_of-tail.ensures.value c.self.invariant.len_is c.requires.some c.requires.light c.add.ensures in
    rows_before item

pub give_totals-requires-clause-moves : goal.give_totals-requires-clause-moves
give_totals-requires-clause-moves g c = next_flushes c.self.inside.settings c.self.inside.levels.settings c.self.invariant.levels_settings c.self.invariant.valid c.self.inside.len
    c.flush_behind-flush.result c.flush_behind-flush.ensures

pub give_totals-requires-clause-stays : goal.give_totals-requires-clause-stays
give_totals-requires-clause-stays g c = next_stays c.self.inside.settings c.self.inside.levels.settings c.self.invariant.levels_settings c.self.invariant.valid c.self.inside.len
    c.flush_behind-flush.result c.flush_behind-flush.ensures

pub returns-in_err-give_totals : goal.returns-in_err-give_totals
returns-in_err-give_totals g c =
    let item = to_take c.self.view_is c.requires.counted c.requires.fits c.self.invariant.levels_settings c.self.invariant.valid c.self.invariant.named c.self.invariant.young_settings
    c.tail_of-tail.ensures.value c.self.invariant.len_is c.requires.some c.requires.light c.add.ensures in
    rw (← c.self.view_is) (not_counted (lawful g) item c.begin.ensures.begun (due_in c.give_totals.new.due) c.args.bay.now c.give_totals.new.bay c.give_totals.new.zero
    c.give_totals.new.levels c.in_err-give_totals.was (of_version g c.self.inside.levels c.self.invariant.version c.give_totals.ensures.gives) c.from_residual.ensures.1)

pub returns-then-is_full : goal.returns-then-is_full
returns-then-is_full g c =
    let item = to_take c.self.view_is c.requires.counted c.requires.fits c.self.invariant.levels_settings c.self.invariant.valid c.self.invariant.named c.self.invariant.young_settings
    c.tail_of-tail.ensures.value c.self.invariant.len_is c.requires.some c.requires.light c.add.ensures in
    let own : cone_of c.self.inside.settings c.args.item.key ≡ c.self.inside.cone =
    subst (λ (v : Tallied). cone_of v.listing.settings c.args.item.key ≡ v.listing.cone) (sym c.self.view_is) c.requires.own in
    let still : c.self.inside.closed ≡ false = subst (λ (v : Tallied). v.listing.closed ≡ false) (sym c.self.view_is) c.requires.still in
    let gives = of_version g c.self.inside.levels c.self.invariant.version (rw c.in_ok-give_totals.was at c.give_totals.ensures.gives) in
    rw (← c.self.view_is) (no_room (lawful g) item c.begin.ensures.begun (due_in c.give_totals.new.due) c.args.bay.now c.give_totals.new.bay c.give_totals.new.zero
    c.give_totals.new.levels c.requires.below own still gives (sym c.is_full.ensures.value ∙ c.if-is_full.true) (c.is_full.ensures.full c.if-is_full.true))

pub returns : goal.returns
returns g c =
    let item = to_take c.self.view_is c.requires.counted c.requires.fits c.self.invariant.levels_settings c.self.invariant.valid c.self.invariant.named c.self.invariant.young_settings
    c.tail_of-tail.ensures.value c.self.invariant.len_is c.requires.some c.requires.light c.add.ensures in
    let own : cone_of c.self.inside.settings c.args.item.key ≡ c.self.inside.cone =
    subst (λ (v : Tallied). cone_of v.listing.settings c.args.item.key ≡ v.listing.cone) (sym c.self.view_is) c.requires.own in
    let still : c.self.inside.closed ≡ false = subst (λ (v : Tallied). v.listing.closed ≡ false) (sym c.self.view_is) c.requires.still in
    let gives = of_version g c.self.inside.levels c.self.invariant.version (rw c.in_ok-give_totals.was at c.give_totals.ensures.gives) in
    rw (← c.self.view_is) (key_counted (lawful g) item c.begin.ensures.begun (due_in c.give_totals.new.due) c.args.bay.now c.give_totals.new.bay c.give_totals.new.zero
    c.give_totals.new.levels c.requires.below own still gives (ap (λ keys. c.self.inside.unread ++ keys) c.push.ensures ∙ sym
    (append_assoc c.self.inside.unread c.self.inside.taken (c.args.item ∷ [])))
    (sym c.is_full.ensures.value ∙ c.if-is_full.false))

pub give_totals-requires-clause-start : goal.give_totals-requires-clause-start
give_totals-requires-clause-start g c = c.begin.ensures.took
