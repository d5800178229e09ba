use Rattle.std.proofs.Common.{ap, sym, ◌∙◌, subst, arith}
use Rattle.lert_spec.specs.{declared.numbers.Numbers.Numbers, Limits.IsValid}
use Rattle.lert_spec.proofs.LimitLaws.{capacity_to}
use Rattle.lert_top.proofs.cones.print.numbers_of.Goals as goal

pub returns-clause-few_reports : goal.returns-clause-few_reports
returns-clause-few_reports g c =
    let cone = c.args.cone.now.listing in
    let valid = subst IsValid (c.numbers-valid.ensures.value ∙ sym c.requires.settings) c.numbers-valid.ensures.valid in
    let room = ap (λ (s : Numbers). s.room) (c.reports.ensures.settings c.requires.whole) in
    omega (arith, c.len.ensures.room, room, valid.limits.room_to)

pub returns-clause-few_events : goal.returns-clause-few_events
returns-clause-few_events g c =
    let cone = c.args.cone.now.listing in
    let valid = subst IsValid (c.numbers-valid.ensures.value ∙ sym c.requires.settings) c.numbers-valid.ensures.valid in
    omega (arith, c.events.ensures.within, capacity_to cone.settings valid)
