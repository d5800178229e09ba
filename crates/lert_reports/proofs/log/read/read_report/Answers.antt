use Rattle.std.proofs.{Common.{Some, ap, sym, ◌∙◌, arith}, lemmas.Result.err_from_is_err_and}
use Rattle.lert_reports.specs.LogText.{at_field}
use Rattle.lert_reports.proofs.FieldLaws.{broken, kept, none_left, whole}
use Rattle.lert_reports.proofs.log.read.read_report.Goals as goal

pub returns-in_err-read_key : goal.returns-in_err-read_key
returns-in_err-read_key c =
    let p = err_from_is_err_and c.from_residual.result c.from_residual.ensures.1 in
    let bad = c.in_err-read_key.ensures in
    rw (p.1, p.2) (broken _ _ _ bad.0 ∙ ap Some (sym bad.1))

pub returns-in_err-at : goal.returns-in_err-at
returns-in_err-at c =
    let p = err_from_is_err_and c.from_residual-in_err-at.result c.from_residual-in_err-at.ensures.1 in
    let bad = c.in_err-at.ensures in
    rw (p.1, p.2) (kept _ _ _ _ c.in_ok-read_key.ensures.0 (broken _ _ _ bad.0 ∙ ap Some (sym bad.1)))

pub returns : goal.returns
returns c = (
  kept _ _ _ _ c.in_ok-read_key.ensures.0 (kept _ _ _ _ c.in_ok-at.ensures.0 (none_left _)),
  c.in_ok-at.ensures.1,
  omega (arith, whole c.args.payload.now (at_field c.args.payload.now c.args.place c.args.earlier) c.in_ok-at.ensures.0),
)
