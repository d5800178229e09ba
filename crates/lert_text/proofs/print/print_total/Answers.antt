use Rattle.std.proofs.{Common.{◌++◌, subst}, lemmas.Result.err_from_is_err_and}
use Rattle.lert_spec.specs.Lines.{total_line}
use Rattle.lert_text.specs.Page.{IsPrinting}
use Rattle.lert_text.proofs.Printing.{IsCut-more}
use Rattle.lert_text.proofs.print.print_total.Goals as goal

pub returns-in_err-put-clause-cut : goal.returns-in_err-put-clause-cut
returns-in_err-put-clause-cut g c = λ start text printing.
    let p = err_from_is_err_and c.from_residual.result c.from_residual.ensures.1 in
    rw p.1 (IsCut-more start _ text (total_line c.args.events c.args.reports) (c.in_err-put.ensures.cut start text printing))

pub returns-in_err-flush-clause-cut : goal.returns-in_err-flush-clause-cut
returns-in_err-flush-clause-cut g c = λ start text printing.
    let p = err_from_is_err_and c.from_residual-in_err-flush.result c.from_residual-in_err-flush.ensures.1 in
    let line = c.total_line-len.ensures.line in
    let put = subst (λ xs. IsPrinting start (g.K.Sink.taken c.put.new.out) c.put.new.self (text ++ xs)) line (c.in_ok-put.ensures.ok start text printing) in
    rw p.1 (c.in_err-flush.ensures.cut start (text ++ total_line c.args.events c.args.reports) put)

pub returns-clause-ok : goal.returns-clause-ok
returns-clause-ok g c = λ start text printing.
    let line = c.total_line-len.ensures.line in
    let put = subst (λ xs. IsPrinting start (g.K.Sink.taken c.put.new.out) c.put.new.self (text ++ xs)) line (c.in_ok-put.ensures.ok start text printing) in
    subst (λ page. IsPrinting start (g.K.Sink.taken c.flush.new.out) page (text ++ total_line c.args.events c.args.reports)) c.in_ok-flush.ensures.empty
    (c.in_ok-flush.ensures.ok start (text ++ total_line c.args.events c.args.reports) put)
