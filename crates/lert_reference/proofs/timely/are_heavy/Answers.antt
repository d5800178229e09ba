use Rattle.std.proofs.{Common.{◌≤◌, length, rules, tests}, lemmas.Iterator.{cases_from_all, YieldsList-from_slice}}
use Rattle.lert_spec.specs.{Counts.{weighed, weight_in}, declared.report.Report.Report}
use Rattle.lert_reference.proofs.Deciding.{Decides-from_all}
use Rattle.lert_reference.proofs.timely.are_heavy.Goals as goal

pub returns : goal.returns
returns c =
    let P : Report → Type 0 = λ report. c.args.threshold ≤ weight_in weighed report.key c.args.events.now 0 (length c.args.events.now) in
    Decides-from_all P c.args.reports.now _
    (cases_from_all _ _ _ P (λ x. ¬ P x) c.all.ensures.ran (YieldsList-from_slice c.args.reports.now cc) (λ x q k. search (rules, tests)) (λ x q k p. search (rules, tests)))
