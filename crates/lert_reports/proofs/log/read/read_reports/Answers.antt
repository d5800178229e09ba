use Rattle.std.proofs.{Common.{◌≡◌, ◌+◌, ◌*◌, refl, ap, ◌∙◌, arith}, lemmas.Result.err_from_is_err_and}
use Rattle.lert_reports.specs.LogText.{left_at, number_in, report_fields, report_place, reports_in, reports_place}
use Rattle.lert_reports.proofs.{DirectoryLaws.{report_fields_are, at_before-next}, FieldLaws.{none_left, next_of, found_of}}
use Rattle.lert_reports.proofs.log.read.read_reports.Goals as goal

pub loop-k-init : goal.loop-k-init
loop-k-init c = (none_left c.args.payload.now, refl, omega (arith, c.requires.long))

pub returns-in_err-earlier : goal.returns-in_err-earlier
returns-in_err-earlier c =
    let p = err_from_is_err_and c.from_residual.result c.from_residual.ensures.1 in
    let s = c.args.settings.now in
    let payload = c.args.payload.now in
    let k = c.loop-k.k in
    let place_is : c.args.start + 16 * k ≡ report_place s payload k = ap (λ n. n + 16 * k) (c.requires.start ∙ ap (λ n. reports_place s n + 4) c.requires.n0) in
    let fields = report_fields_are s c.args.cone c.args.before.now payload k (c.args.start + 16 * k) c.loop-k.earlier place_is c.loop-k.invariant.1 in
    rw (p.1, p.2)
    (found_of payload (report_fields s c.args.cone c.args.before.now payload) k (reports_in s payload) 0 k _
    (omega arith) (omega (arith, c.loop-k-test.true, c.requires.reports)) c.loop-k.invariant.0 (ap (left_at payload) fields ∙ c.in_err-earlier.ensures))

pub loop-k-preserved : goal.loop-k-preserved
loop-k-preserved c =
    let s = c.args.settings.now in
    let payload = c.args.payload.now in
    let k = c.loop-k.k in
    let place_is : c.args.start + 16 * k ≡ report_place s payload k = ap (λ n. n + 16 * k) (c.requires.start ∙ ap (λ n. reports_place s n + 4) c.requires.n0) in
    let fields = report_fields_are s c.args.cone c.args.before.now payload k (c.args.start + 16 * k) c.loop-k.earlier place_is c.loop-k.invariant.1 in (
      next_of payload (report_fields s c.args.cone c.args.before.now payload) k 0 k (k + 1)
          (omega arith) (omega arith) c.loop-k.invariant.0 (ap (left_at payload) fields ∙ c.in_ok-earlier.ensures.0),
      c.in_ok-earlier.ensures.1 ∙ (ap (λ n. number_in 8 payload (n + 8)) place_is ∙ at_before-next s c.args.before.now payload k),
      omega (arith, c.in_ok-earlier.ensures.2),
    )
