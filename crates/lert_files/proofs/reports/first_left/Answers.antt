use Rattle.std.proofs.Common.{ℕ, ◌-◌, ◌/◌, ◌≤◌, ◌++◌, ap, ap₂, sym, ◌∙◌, subst, arith}
use Rattle.lert_spec.specs.{declared.numbers.Numbers.Numbers, Edges.capacity, Look.is_listed}
use Rattle.lert_reports.specs.Log.{before_of}
use Rattle.lert_files.specs.Repeated.{reports_from, IsListedThere, AreNewThere}
use Rattle.lert_files.proofs.{LeftLaws.{long_enough, within_capacity}, LeavesLaws.{breaks_behind, behind_new, at_key, among, next_key, place_small}}
use Rattle.lert_files.proofs.reports.first_left.Goals as goal

pub number_in-requires : goal.number_in-requires
number_in-requires g c =
    let left = c.requires.left in
    omega (arith, long_enough c.args.settings.now left.0 left.1 c.args.payload.now c.args.place left.2 c.if-place-lt-HEAD_LEN.false)

pub reports_start-start-requires : goal.reports_start-start-requires
reports_start-start-requires g c =
    let left = c.requires.left in
    subst (λ (n : ℕ). n ≤ capacity c.args.settings.now) (sym c.number_in.ensures)
    (within_capacity c.args.settings.now left.0 left.1 c.args.payload.now c.args.place left.2 c.if-place-lt-HEAD_LEN.false)

pub put_reports-requires-clause-whole : goal.put_reports-requires-clause-whole
put_reports-requires-clause-whole g c =
    let s = c.args.settings.now in
    let left = c.requires.left in
    let at = breaks_behind s c.args.payload.now c.reports_start-start.result c.number_in.result left.0 left.1 c.args.place
    c.reports_start-start.ensures.value c.number_in.ensures c.if-place-start.false left.2 in
    omega (arith, at.reports.there, at.start_is)

pub put_reports-requires-clause-room : goal.put_reports-requires-clause-room
put_reports-requires-clause-room g c =
    let s = c.args.settings.now in
    let left = c.requires.left in
    let at = breaks_behind s c.args.payload.now c.reports_start-start.result c.number_in.result left.0 left.1 c.args.place
    c.reports_start-start.ensures.value c.number_in.ensures c.if-place-start.false left.2 in
    omega (arith, at.reports.few, at.reports.room, left.3, ap (λ (n : Numbers). n.room) c.requires.same)

pub returns-in-Some-clause-first : goal.returns-in-Some-clause-first
returns-in-Some-clause-first g c cone records is listed_is =
    let s = c.args.settings.now in
    let payload = c.args.payload.now in
    let start = c.reports_start-start.result in
    let at = breaks_behind s payload start c.number_in.result cone (before_of records) c.args.place
    c.reports_start-start.ensures.value c.number_in.ensures c.if-place-start.false is in
    let n = (c.args.place - start) / 16 in
    let found = c.in-Some.ensures.found in
    among s payload start at.start_is cone records c.args.place is n c.in-Some.number at.reports found.0
    (subst (λ listed. IsListedThere listed payload start c.in-Some.number) listed_is found.1)
    (subst (λ listed. AreNewThere listed payload start c.in-Some.number) listed_is found.2)

pub returns-in-Some-clause-within : goal.returns-in-Some-clause-within
returns-in-Some-clause-within g c =
    let s = c.args.settings.now in
    let left = c.requires.left in
    let at = breaks_behind s c.args.payload.now c.reports_start-start.result c.number_in.result left.0 left.1 c.args.place
    c.reports_start-start.ensures.value c.number_in.ensures c.if-place-start.false left.2 in
    omega (arith, at.reports.there, at.start_is, c.in-Some.ensures.found.0, c.requires.short)

pub overflow_add-next-2 : goal.overflow_add-next-2
overflow_add-next-2 g c =
    let s = c.args.settings.now in
    let left = c.requires.left in
    let at = breaks_behind s c.args.payload.now c.reports_start-start.result c.number_in.result left.0 left.1 c.args.place
    c.reports_start-start.ensures.value c.number_in.ensures c.if-place-start.false left.2 in
    omega (arith, at.reports.there, at.start_is, c.requires.short)

pub returns-then-place-next-clause-first : goal.returns-then-place-next-clause-first
returns-then-place-next-clause-first g c cone records is listed_is =
    let s = c.args.settings.now in
    let payload = c.args.payload.now in
    let start = c.reports_start-start.result in
    let at = breaks_behind s payload start c.number_in.result cone (before_of records) c.args.place
    c.reports_start-start.ensures.value c.number_in.ensures c.if-place-start.false is in
    let n = (c.args.place - start) / 16 in
    behind_new s payload start at.start_is cone records c.args.place is n at.reports
    (subst (λ listed. AreNewThere listed payload start n) listed_is c.in_default.ensures.found.1)
    (λ here. absurd (c.if-place-next.true here))

pub returns-then-place-next-clause-within : goal.returns-then-place-next-clause-within
returns-then-place-next-clause-within g c =
    let s = c.args.settings.now in
    let left = c.requires.left in
    let at = breaks_behind s c.args.payload.now c.reports_start-start.result c.number_in.result left.0 left.1 c.args.place
    c.reports_start-start.ensures.value c.number_in.ensures c.if-place-start.false left.2 in
    omega (
      arith,
      place_small s c.args.payload.now c.reports_start-start.result at.start_is left.0 left.1 c.args.place ((c.args.place - c.reports_start-start.result) / 16) at.reports,
      c.requires.short,
    )

pub number_in-requires-2 : goal.number_in-requires-2
number_in-requires-2 g c =
    let s = c.args.settings.now in
    let left = c.requires.left in
    let start = c.reports_start-start.result in
    let at = breaks_behind s c.args.payload.now start c.number_in.result left.0 left.1 c.args.place
    c.reports_start-start.ensures.value c.number_in.ensures c.if-place-start.false left.2 in
    let n = (c.args.place - start) / 16 in
    omega (arith, (next_key s c.args.payload.now start at.start_is left.0 left.1 c.args.place n at.reports c.if-place-next.false).long, at.start_is)

pub returns-then-has-clause-first : goal.returns-then-has-clause-first
returns-then-has-clause-first g c cone records is listed_is =
    let s = c.args.settings.now in
    let payload = c.args.payload.now in
    let start = c.reports_start-start.result in
    let at = breaks_behind s payload start c.number_in.result cone (before_of records) c.args.place
    c.reports_start-start.ensures.value c.number_in.ensures c.if-place-start.false is in
    let n = (c.args.place - start) / 16 in
    let found = c.in_default.ensures.found in
    let there : IsListedThere c.args.store.now.reports payload start n = ap₂ is_listed (sym c.number_in-2.ensures) (sym found.0) ∙ (sym c.has.ensures ∙ c.if-has.true) in
    at_key s payload start at.start_is cone records c.args.place is n at.reports
    (subst (λ listed. AreNewThere listed payload start n) listed_is found.1)
    c.if-place-next.false
    (subst (λ listed. IsListedThere listed payload start n) listed_is there)

pub returns-then-has-clause-within : goal.returns-then-has-clause-within
returns-then-has-clause-within g c =
    let s = c.args.settings.now in
    let left = c.requires.left in
    let at = breaks_behind s c.args.payload.now c.reports_start-start.result c.number_in.result left.0 left.1 c.args.place
    c.reports_start-start.ensures.value c.number_in.ensures c.if-place-start.false left.2 in
    omega (arith, at.reports.there, at.start_is, c.requires.short)

pub returns-clause-first : goal.returns-clause-first
returns-clause-first g c cone records is listed_is =
    let s = c.args.settings.now in
    let payload = c.args.payload.now in
    let start = c.reports_start-start.result in
    let at = breaks_behind s payload start c.number_in.result cone (before_of records) c.args.place
    c.reports_start-start.ensures.value c.number_in.ensures c.if-place-start.false is in
    let n = (c.args.place - start) / 16 in
    let found = c.in_default.ensures.found in
    behind_new s payload start at.start_is cone records c.args.place is n at.reports
    (subst (λ listed. AreNewThere listed payload start n) listed_is found.1)
    (λ here. ap₂ is_listed (sym c.number_in-2.ensures) (sym (found.0 ∙ ap (λ listed. listed ++ reports_from payload start n) listed_is)) ∙ (sym c.has.ensures ∙ c.if-has.false))

pub returns-clause-within : goal.returns-clause-within
returns-clause-within g c =
    let s = c.args.settings.now in
    let left = c.requires.left in
    let at = breaks_behind s c.args.payload.now c.reports_start-start.result c.number_in.result left.0 left.1 c.args.place
    c.reports_start-start.ensures.value c.number_in.ensures c.if-place-start.false left.2 in
    omega (
      arith,
      place_small s c.args.payload.now c.reports_start-start.result at.start_is left.0 left.1 c.args.place ((c.args.place - c.reports_start-start.result) / 16) at.reports,
      c.requires.short,
    )
