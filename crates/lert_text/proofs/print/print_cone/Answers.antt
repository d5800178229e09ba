use Rattle.std.proofs.{Common.{◌++◌, length, take, drop, arith, ap, sym, ◌∙◌, subst, append-nil}, lemmas.List.take_all, lemmas.Result.err_from_is_err_and}
use Rattle.std.specs.List.{flat_map}
use Rattle.lert_spec.specs.Lines.{cone_line, report_line}
use Rattle.lert_text.specs.Page.{IsPrinting, IsCut}
use Rattle.lert_text.proofs.Printing.{IsCut-more, reports-more, reports-rest}
use Rattle.lert_text.proofs.print.print_cone.Goals as goal

pub returns-in_err-put-clause-cut : goal.returns-in_err-put-clause-cut
returns-in_err-put-clause-cut g c = λ start text printing.
    let p = err_from_is_err_and c.from_residual.result c.from_residual.ensures.1 in
    rw p.1 (IsCut-more start _ text (cone_line c.args.cone c.args.events (length c.args.reports.now) c.args.closed ++ flat_map report_line c.args.reports.now)
    (c.in_err-put.ensures.cut start text printing))

pub loop-report-init : goal.loop-report-init
loop-report-init g c = record {
  printing = λ start text printing.
      let head = cone_line c.args.cone c.args.events (length c.args.reports.now) c.args.closed in
      let line = c.cone_line-len.ensures.line in
      subst (λ xs. IsPrinting start (g.K.Sink.taken c.put.new.out) c.put.new.self (text ++ xs)) (line ∙ sym (append-nil head)) (c.in_ok-put.ensures.ok start text printing);
  falls = c.put.ensures.cause.never_falls;
  marked = c.put.ensures.mark;
}

pub returns-in_err-put-2-clause-cut : goal.returns-in_err-put-2-clause-cut
returns-in_err-put-2-clause-cut g c = λ start text printing.
    let head = cone_line c.args.cone c.args.events (length c.args.reports.now) c.args.closed in
    let p = err_from_is_err_and c.from_residual-in_err-put-2.result c.from_residual-in_err-put-2.ensures.1 in
    let now = g.K.Sink.taken c.put-in-loop-report.new.out in
    let so_far = text ++ (head ++ flat_map report_line (take c.loop-report.report-index c.args.reports.now)) in
    rw p.1 (subst (λ xs. IsCut start now xs) (reports-rest text head c.args.reports.now c.loop-report.report-index)
    (IsCut-more start now so_far (flat_map report_line (drop c.loop-report.report-index c.args.reports.now))
    (c.in_err-put-2.ensures.cut start so_far (c.loop-report.invariant.printing start text printing))))

pub loop-report-preserved : goal.loop-report-preserved
loop-report-preserved g c = record {
  printing = λ start text printing.
      let head = cone_line c.args.cone c.args.events (length c.args.reports.now) c.args.closed in
      let so_far = text ++ (head ++ flat_map report_line (take c.loop-report.report-index c.args.reports.now)) in
      subst (λ xs. IsPrinting start (g.K.Sink.taken c.put-in-loop-report.new.out) c.put-in-loop-report.new.self xs) (ap (λ xs. so_far ++ xs) c.report_line-len.ensures.line
      ∙ reports-more text head c.args.reports.now c.loop-report.report-index (record { key = 0; at = 0 }) c.loop-report-test.true)
      (c.in_ok-put-2.ensures.ok start so_far (c.loop-report.invariant.printing start text printing));
  falls = omega (arith, c.loop-report.invariant.falls, c.put-in-loop-report.ensures.cause.never_falls);
  marked = c.put-in-loop-report.ensures.mark ∙ c.loop-report.invariant.marked;
}

pub returns-clause-ok : goal.returns-clause-ok
returns-clause-ok g c = λ start text printing.
    let head = cone_line c.args.cone c.args.events (length c.args.reports.now) c.args.closed in
    subst (λ rs. IsPrinting start (g.K.Sink.taken c.loop-report.out) c.loop-report.page (text ++ (head ++ flat_map report_line rs)))
    (take_all c.loop-report.report-index c.args.reports.now c.loop-report-test.false) (c.loop-report.invariant.printing start text printing)
