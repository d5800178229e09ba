use Rattle.lert_bay.specs.Kept.{Bays, seen_by}
use Rattle.std.proofs.Common.{◌∙◌, length, ap, arith}
use Rattle.lert_reports.specs.Stored.{Stored}
use Rattle.lert_spec.specs.{declared.numbers.Numbers.Numbers, declared.report.Report.Report}
use Rattle.lert_cone.proofs.{RecordLaws.{record_fits, same_record}}
use Rattle.lert_cone.proofs.keys.write_record.Given as given
use Rattle.lert_cone.proofs.keys.write_record.Goals as goal

abbrev bays : (g : given.Over) → Bays g.row.B.Denot
bays g = seen_by g.B.Faulty g.B.Bay

pub returns-clause-few : goal.returns-clause-few
returns-clause-few g c =
    let reports_are = c.list-reports.ensures.reports ∙ ap (λ (v : Stored). v.reports) c.store.ensures in
    omega (
      arith,
      c.list-reports.ensures.room,
      ap (length {A = Report}) reports_are,
      ap (λ (v : Stored). v.settings.room) c.store.ensures,
      ap (λ (s : Numbers). s.room) c.requires.counted.due_settings,
    )

pub append-requires-clause-named : goal.append-requires-clause-named
append-requires-clause-named g c =
    let reports_are = c.list-reports.ensures.reports ∙ ap (λ (v : Stored). v.reports) c.store.ensures in
    omega (arith, c.requires.can_log.logging.named, ap (length {A = Report}) reports_are)

pub append-requires-clause-fits : goal.append-requires-clause-fits
append-requires-clause-fits g c =
    let reports_are = c.list-reports.ensures.reports ∙ ap (λ (v : Stored). v.reports) c.store.ensures in
    record_fits c.args.tally.now.listing.settings c.args.tally.now.rows c.args.log.now c.directory.result.now c.list-reports.result.now c.args.tally.now.due.reports c.requires.counted.are
    c.requires.can_log.logging.most c.directory.ensures reports_are
    (omega (
      arith,
      c.list-reports.ensures.room,
      ap (length {A = Report}) reports_are,
      ap (λ (v : Stored). v.settings.room) c.store.ensures,
      ap (λ
          (s : Numbers). s.room) c.requires.counted.due_settings,
    ))

pub append-requires-clause-room : goal.append-requires-clause-room
append-requires-clause-room g c = c.requires.can_log.logging.roomy

pub append-requires-clause-closed : goal.append-requires-clause-closed
append-requires-clause-closed g c = λ seen told. (c.requires.can_log.log_shut seen told).closed

pub returns-clause-appends : goal.returns-clause-appends
returns-clause-appends g c =
    let reports_are = c.list-reports.ensures.reports ∙ ap (λ (v : Stored). v.reports) c.store.ensures in
    same_record (bays g) c.args.kind c.len-n0.result _ c.directory.result.now _ c.list-reports.result.now _ c.args.bay.now c.append.new.bay c.args.log.now c.append.new.self c.append.result
    c.len-n0.ensures c.directory.ensures reports_are c.append.ensures
