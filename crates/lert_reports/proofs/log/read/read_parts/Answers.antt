use Rattle.std.proofs.{Common.{◌+◌, [], ◌∷◌, None, Some, refl, ap, sym, ◌∙◌}, lemmas.Result.err_from_is_err_and}
use Rattle.lert_reports.specs.LogText.{head_fields, directory_fields, count_field, all_report_fields, end_field, reports_place}
use Rattle.lert_reports.proofs.FieldLaws.{broken, kept, none_left, in_first, in_second, in_third, in_fourth, in_last}
use Rattle.lert_reports.proofs.log.read.read_parts.Goals as goal

pub returns-in_err-head : goal.returns-in_err-head
returns-in_err-head c =
    let p = err_from_is_err_and c.from_residual.result c.from_residual.ensures.1 in
    let s = c.args.settings.now in
    let before = c.args.before.now in
    let payload = c.args.payload.now in
    rw (p.1, p.2)
    (in_first payload (head_fields s before payload) (directory_fields s payload) (count_field s before payload ∷ []) (all_report_fields s c.args.cone before payload)
    (end_field s payload ∷ []) _
    c.in_err-head.ensures)

pub returns-in_err-count_at : goal.returns-in_err-count_at
returns-in_err-count_at c =
    let p = err_from_is_err_and c.from_residual-in_err-count_at.result c.from_residual-in_err-count_at.ensures.1 in
    let s = c.args.settings.now in
    let before = c.args.before.now in
    let payload = c.args.payload.now in
    rw (p.1, p.2)
    (in_second payload (head_fields s before payload) (directory_fields s payload) (count_field s before payload ∷ []) (all_report_fields s c.args.cone before payload)
    (end_field s payload ∷ []) _
    c.in_ok-head.ensures.0 c.in_err-count_at.ensures)

pub returns-in_err-reports : goal.returns-in_err-reports
returns-in_err-reports c =
    let p = err_from_is_err_and c.from_residual-in_err-reports.result c.from_residual-in_err-reports.ensures.1 in
    let s = c.args.settings.now in
    let before = c.args.before.now in
    let payload = c.args.payload.now in
    let bad = c.in_err-reports.ensures in
    rw (p.1, p.2)
    (in_third payload (head_fields s before payload) (directory_fields s payload) (count_field s before payload ∷ []) (all_report_fields s c.args.cone before payload)
    (end_field s payload ∷ []) _
    c.in_ok-head.ensures.0 c.in_ok-count_at.ensures.0 (broken payload (count_field s before payload) [] bad.0 ∙ ap Some (sym bad.1)))

pub returns-in_err-read_reports : goal.returns-in_err-read_reports
returns-in_err-read_reports c =
    let p = err_from_is_err_and c.from_residual-in_err-read_reports.result c.from_residual-in_err-read_reports.ensures.1 in
    let s = c.args.settings.now in
    let before = c.args.before.now in
    let payload = c.args.payload.now in
    rw (p.1, p.2)
    (in_fourth payload (head_fields s before payload) (directory_fields s payload) (count_field s before payload ∷ []) (all_report_fields s c.args.cone before payload)
    (end_field s payload ∷ []) _
    c.in_ok-head.ensures.0 c.in_ok-count_at.ensures.0 (kept payload (count_field s before payload) [] None c.in_ok-reports.ensures.0 (none_left payload)) c.in_err-read_reports.ensures)

pub returns-in_err-read_end : goal.returns-in_err-read_end
returns-in_err-read_end c =
    let p = err_from_is_err_and c.from_residual-in_err-read_end.result c.from_residual-in_err-read_end.ensures.1 in
    let s = c.args.settings.now in
    let before = c.args.before.now in
    let payload = c.args.payload.now in
    let bad = c.in_err-read_end.ensures in
    rw (p.1, p.2)
    (in_last payload (head_fields s before payload) (directory_fields s payload) (count_field s before payload ∷ []) (all_report_fields s c.args.cone before payload) (end_field s payload ∷ [])
    _
    c.in_ok-head.ensures.0 c.in_ok-count_at.ensures.0 (kept payload (count_field s before payload) [] None c.in_ok-reports.ensures.0 (none_left payload)) c.in_ok-read_reports.ensures.0
    (broken payload (end_field s payload) [] bad.0 ∙ ap Some (sym bad.1)))

pub returns : goal.returns
returns c =
    let s = c.args.settings.now in
    let before = c.args.before.now in
    let payload = c.args.payload.now in
    let head = c.in_ok-head.ensures in (
      in_last payload (head_fields s before payload) (directory_fields s payload) (count_field s before payload ∷ []) (all_report_fields s c.args.cone before payload)
          (end_field s payload ∷ []) None
          head.0 c.in_ok-count_at.ensures.0 (kept payload (count_field s before payload) [] None c.in_ok-reports.ensures.0 (none_left payload)) c.in_ok-read_reports.ensures.0
          (kept payload (end_field s payload) [] None c.in_ok-read_end.ensures.0 (none_left payload)),
      record {
        kind_is = head.1;
        n0_is = head.2;
        offset_is = head.3;
        first_is = head.4;
        directory_is = refl;
        place_is = ap (λ n. n + 4) (c.in_ok-count_at.ensures.1 ∙ ap (reports_place s) head.2);
        reports_are = c.in_ok-reports.ensures.1;
        within = head.5;
        ends = c.in_ok-read_end.ensures.1;
      },
    )

-- ---- what each part asks for

pub read_directory-requires : goal.read_directory-requires
read_directory-requires c = let head = c.in_ok-head.ensures in record { n0 = head.2; within = head.5; long = head.6 }

pub read_report_count-requires : goal.read_report_count-requires
read_report_count-requires c =
    let directory = c.in_ok-count_at.ensures in record { n0 = c.in_ok-head.ensures.2; place = directory.1; long = directory.2 }

pub read_reports-requires : goal.read_reports-requires
read_reports-requires c =
    let count = c.in_ok-reports.ensures in
    record { n0 = c.in_ok-head.ensures.2; start = ap (λ n. n + 4) c.in_ok-count_at.ensures.1; reports = count.1; long = count.2 }
