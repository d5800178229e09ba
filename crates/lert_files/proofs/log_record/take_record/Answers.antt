use Rattle.std.proofs.{Common.{ℕ, ◌≡◌, ◌≢◌, ◌-◌, Some, None, length, take, drop, ap, sym, ◌∙◌, subst, arith}, lemmas.Option.none-some}
use Rattle.std.specs.List.{AllPairs}
use Rattle.lert_spec.specs.{declared.numbers.Numbers.Numbers, declared.report.Report.Report, Limits.IsValid}
use Rattle.lert_reports.specs.{LogRules.record_in, LogText.log_left}
use Rattle.lert_reports.proofs.RecordLaws.{parts_tell}
use Rattle.lert_files.specs.Repeated.{IsListedThere, AreNewThere}
use Rattle.lert_files.proofs.{LeavesLaws.first_again, RepeatLaws.length_from}
use Rattle.lert_files.proofs.StepLaws.{all_new, counted, directory_fits, directory_there, flushes_few, most_directory_fits, read_more, steps_more, IsAfter}
use Rattle.lert_files.proofs.log_record.take_record.Goals as goal

pub put_reports-requires-clause-room : goal.put_reports-requires-clause-room
put_reports-requires-clause-room g c =
    let s = c.args.settings.now in
    let valid = subst IsValid c.numbers.ensures.value c.numbers.ensures.valid in
    let keeps = c.in-Ok.ensures.found.0 in
    let read = c.requires.read in
    omega (
      arith,
      keeps.room,
      length_from c.args.payload.now c.in-Ok.parts.reports_at c.in-Ok.parts.reports,
      counted s c.args.cone valid c.args.progress.now c.args.store.now.reports c.args.directory.now read.0 read.1,
      ap (λ (n : Numbers). n.room) c.requires.same,
    )

pub replace-requires : goal.replace-requires
replace-requires g c =
    let s = c.args.settings.now in
    let payload = c.args.payload.now in
    let parts = c.in-Ok.parts in
    let before = c.args.progress.now.before in
    let one = record_in s payload parts in
    let valid = subst IsValid c.numbers.ensures.value c.numbers.ensures.valid in
    let are = c.in-Ok.ensures.exact.1 in
    let keeps = c.in-Ok.ensures.found.0 in
    let is = c.in-Ok.ensures.found.1 in
    let tell = parts_tell s c.args.cone before one payload parts valid keeps is are in
    let there = directory_there one payload (parts.reports_at - 4 - 25) is (omega (arith, tell.place_is)) in
    let bytes = ap (λ at. take (parts.reports_at - 4 - at) (drop at payload)) are.directory_is ∙ there in
    let short = most_directory_fits s valid in
    omega (arith, ap (length {A = ℕ}) bytes, directory_fits s c.args.cone before one keeps, short)

pub after-requires : goal.after-requires
after-requires g c =
    let valid = subst IsValid c.numbers.ensures.value c.numbers.ensures.valid in
    let read = c.requires.read in
    flushes_few c.args.settings.now c.args.cone valid c.args.progress.now c.args.store.now.reports c.args.directory.now read.0 read.1

pub first_left-requires-clause-left : goal.first_left-requires-clause-left
first_left-requires-clause-left g c =
    let valid = subst IsValid c.numbers.ensures.value c.numbers.ensures.valid in
    let read = c.requires.read in
    let count = counted c.args.settings.now c.args.cone valid c.args.progress.now c.args.store.now.reports c.args.directory.now read.0 read.1 in (
      c.args.cone,
      c.args.progress.now.before,
      c.in-Err.ensures.exact,
      omega (arith, count),
    )

pub returns-in-Some : goal.returns-in-Some
returns-in-Some g c = record {
  taken = λ records has.
      let s = c.args.settings.now in
      let payload = c.args.payload.now in
      let parts = c.in-Ok.parts in
      let are = c.in-Ok.ensures.exact.1 in
      let found = c.in-Some.ensures.found in
      let whole = subst (λ before. log_left s c.args.cone before payload ≡ None) has.before_is c.in-Ok.ensures.exact.0 in
      first_again s payload parts.reports_at are.place_is c.args.cone records c.in-Some.number
      (λ place left. absurd (none-some place (sym whole ∙ left)))
      (omega (arith, found.0, are.reports_are))
      (omega (arith, found.0, are.ends))
      (subst (λ listed. IsListedThere listed payload parts.reports_at c.in-Some.number) has.is_read.reports_are found.1)
      (subst (λ listed. AreNewThere listed payload parts.reports_at c.in-Some.number) has.is_read.reports_are found.2);
  steps = tt;
  within = omega (arith, c.in-Some.ensures.found.0, c.in-Ok.ensures.exact.1.ends, c.requires.short);
  same = c.in-Some.ensures.settings;
}

pub returns-in_default : goal.returns-in_default
returns-in_default g c =
    let s = c.args.settings.now in
    let payload = c.args.payload.now in
    let parts = c.in-Ok.parts in
    let progress = c.args.progress.now in
    let listed = c.args.store.now.reports in
    let one = record_in s payload parts in
    let later : IsAfter progress c.after.result c.put_reports.new.store.reports one = record {
      before_is = c.after.ensures.before;
      offset_is = c.after.ensures.point.0;
      first_is = c.after.ensures.point.1;
      closed_is = c.after.ensures.closed;
    } in
    record {
      taken = λ records has.
          let valid = subst IsValid c.numbers.ensures.value c.numbers.ensures.valid in
          let are = c.in-Ok.ensures.exact.1 in
          let keeps = c.in-Ok.ensures.found.0 in
          let is = c.in-Ok.ensures.found.1 in
          let found = c.in_default.ensures.found in
          let tell = parts_tell s c.args.cone progress.before one payload parts valid keeps is are in
          let there = directory_there one payload (parts.reports_at - 4 - 25) is (omega (arith, tell.place_is)) in
          let bytes = ap (λ at. take (parts.reports_at - 4 - at) (drop at payload)) are.directory_is ∙ there in
          let listed_once = subst (AllPairs (λ (earlier later : Report). earlier.key ≢ later.key)) (sym has.is_read.reports_are) has.is_read.rules.once in
          let once = all_new listed payload parts.reports_at parts.reports listed_once found.1 in (
            one,
            read_more s c.args.cone progress c.after.result listed c.put_reports.new.store.reports c.args.directory.now c.replace.new.self records one has c.requires.still_open
                keeps once later found.0 (c.replace.ensures ∙ bytes),
            is,
          );
      steps = steps_more progress c.after.result c.put_reports.new.store.reports one c.requires.still_open later;
      within = tt;
      same = c.put_reports.ensures.settings;
    }

pub returns-in-Err : goal.returns-in-Err
returns-in-Err g c = record {
  taken = λ records has.
      c.first_left.ensures.first c.args.cone records
      (subst (λ before. log_left c.args.settings.now c.args.cone before c.args.payload.now ≡ Some c.in-Err.place) has.before_is c.in-Err.ensures.exact)
      has.is_read.reports_are;
  steps = tt;
  within = c.first_left.ensures.within;
  same = c.first_left.ensures.settings;
}
