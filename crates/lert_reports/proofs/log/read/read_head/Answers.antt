use Rattle.std.proofs.{Common.{Some, ap, sym, ◌∙◌}, lemmas.Result.err_from_is_err_and}
use Rattle.lert_reports.specs.LogText.{first_field}
use Rattle.lert_reports.proofs.FieldLaws.{broken, kept, none_left, whole}
use Rattle.lert_reports.proofs.log.read.read_head.Goals as goal

pub returns-in_err-kind : goal.returns-in_err-kind
returns-in_err-kind c =
    let p = err_from_is_err_and c.from_residual.result c.from_residual.ensures.1 in
    let bad = c.in_err-kind.ensures in
    rw (p.1, p.2) (broken _ _ _ bad.0 ∙ ap Some (sym bad.1))

pub returns-in_err-n0 : goal.returns-in_err-n0
returns-in_err-n0 c =
    let p = err_from_is_err_and c.from_residual-in_err-n0.result c.from_residual-in_err-n0.ensures.1 in
    let bad = c.in_err-n0.ensures in
    rw (p.1, p.2) (kept _ _ _ _ c.in_ok-kind.ensures.0 (broken _ _ _ bad.0 ∙ ap Some (sym bad.1)))

pub returns-in_err-offset : goal.returns-in_err-offset
returns-in_err-offset c =
    let p = err_from_is_err_and c.from_residual-in_err-offset.result c.from_residual-in_err-offset.ensures.1 in
    let bad = c.in_err-offset.ensures in
    rw (p.1, p.2) (kept _ _ _ _ c.in_ok-kind.ensures.0 (kept _ _ _ _ c.in_ok-n0.ensures.0 (broken _ _ _ bad.0 ∙ ap Some (sym bad.1))))

pub returns-in_err-first : goal.returns-in_err-first
returns-in_err-first c =
    let p = err_from_is_err_and c.from_residual-in_err-first.result c.from_residual-in_err-first.ensures.1 in
    let bad = c.in_err-first.ensures in
    rw (p.1, p.2)
    (kept _ _ _ _ c.in_ok-kind.ensures.0 (kept _ _ _ _ c.in_ok-n0.ensures.0 (kept _ _ _ _ c.in_ok-offset.ensures.0 (broken _ _ _ bad.0 ∙ ap Some (sym bad.1)))))

pub returns : goal.returns
returns c = (
  kept _ _ _ _ c.in_ok-kind.ensures.0 (kept _ _ _ _ c.in_ok-n0.ensures.0 (kept _ _ _ _ c.in_ok-offset.ensures.0 (kept _ _ _ _ c.in_ok-first.ensures.0 (none_left _)))),
  c.in_ok-kind.ensures.1,
  c.in_ok-n0.ensures.1,
  c.in_ok-offset.ensures.1,
  c.in_ok-first.ensures.1,
  c.in_ok-n0.ensures.2,
  whole c.args.payload.now (first_field c.args.settings.now c.args.payload.now) c.in_ok-first.ensures.0,
)
