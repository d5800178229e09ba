use Rattle.std.proofs.{Common.{rules, tests}, lemmas.Fn.always_returns_same}
use Rattle.lert_reference.proofs.InOrder.{Decides-in_order}
use Rattle.lert_reference.proofs.timely.are_in_order.Goals as goal

pub returns : goal.returns
returns c =
    Decides-in_order c.args.reports.now _
    (c.is_sorted_by_key.ensures.cases (λ report. report.at) (always_returns_same _ _ _ (λ a r q k. search (rules, tests))))
