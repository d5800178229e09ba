use Rattle.std.proofs.{Common.{sym, ◌∙◌, subst}, lemmas.Result.err_from_is_err_and}
use Rattle.lert_text.specs.Page.{IsPrinting}
use Rattle.lert_text.proofs.Printing.{IsPrinting-flush, IsCut-flush}
use Rattle.lert_text.proofs.page.Page.flush.Goals as goal

pub returns-clause-ok : goal.returns-clause-ok
returns-clause-ok g c = λ start text printing.
    let here = subst (λ xs. IsPrinting start (g.K.Sink.taken c.args.out.now) xs text) (sym c.self.view_is ∙ sym c.as_slice.ensures.value) printing in
    rw c.clear.ensures.items (IsPrinting-flush start (g.K.Sink.taken c.args.out.now) c.as_slice.result.now text here (g.K.Sink.taken c.write_all.new.out)
    c.in_ok-write_all.ensures.told c.write_all.ensures.untold)

pub returns-in_err-write_all-clause-cut : goal.returns-in_err-write_all-clause-cut
returns-in_err-write_all-clause-cut g c = λ start text printing.
    let here = subst (λ xs. IsPrinting start (g.K.Sink.taken c.args.out.now) xs text) (sym c.self.view_is ∙ sym c.as_slice.ensures.value) printing in
    let p = err_from_is_err_and c.from_residual.result c.from_residual.ensures.1 in
    rw p.1 (IsCut-flush start (g.K.Sink.taken c.args.out.now) c.as_slice.result.now text here (g.K.Sink.taken c.write_all.new.out) c.in_err-write_all.ensures.part c.write_all.ensures.untold)
