use Rattle.lert_text.specs.Drill.{drill_line as drill_text}
use Rattle.lert_text.proofs.Printing.{IsCut-more}
use Rattle.std.proofs.lemmas.Result.{on_err_weaker}
use Rattle.lert_text.proofs.print.print_drill_cone.Goals as goal

pub returns-clause-cut : goal.returns-clause-cut
returns-clause-cut g c = λ start text printing.
    on_err_weaker c.put.result (λ cut. IsCut-more start _ text (drill_text c.args.cone c.args.events c.args.reports c.args.keys) cut) (c.put.ensures.cut start text printing)
