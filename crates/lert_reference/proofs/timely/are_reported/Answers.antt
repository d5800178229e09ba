use Rattle.std.proofs.{Common.{◌≤◌, length, rules, tests}, lemmas.Iterator.{cases_from_all, YieldsList-from_slice}}
use Rattle.lert_spec.specs.{declared.item.Item.Item, Counts.{weighed, weight_in}, Timely.IsReportedOnTimeIn}
use Rattle.lert_reference.proofs.Deciding.{Decides-from_all}
use Rattle.lert_reference.proofs.timely.are_reported.Goals as goal

pub returns : goal.returns
returns c =
    let events = c.args.events.now in
    let P : Item → Type 0 = λ event. c.args.threshold ≤ weight_in weighed event.key events 0 (length events) →
    IsReportedOnTimeIn weighed c.args.threshold c.args.bins events c.args.reports.now event.key in
    Decides-from_all P events _
    (cases_from_all _ _ _ P (λ x. ¬ P x) c.all.ensures.ran (YieldsList-from_slice events cc) (λ x q k. search (rules, tests)) (λ x q k p. search (rules, tests)))
