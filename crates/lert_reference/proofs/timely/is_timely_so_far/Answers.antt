use Rattle.std.proofs.{Common.{◌⊎◌, sym, ◌∙◌}, lemmas.Bool.false≢true}
use Rattle.lert_spec.specs.{Counts.weighed, Timely.{IsReportedOnTimeIn, IsNotYetDueIn}}
use Rattle.lert_reference.proofs.{TimelyTests.{light_isn't_listed, listed_is_heavy, each_heavy}, timely.is_timely_so_far.Goals.{then-are_in_order, else-are_in_order}}
use Rattle.lert_reference.proofs.timely.is_timely_so_far.Goals as goal

pub returns-then-are_heavy : goal.returns-then-are_heavy
returns-then-are_heavy c =
    elim c.if-are_in_order.branch [
      | then-are_in_order w ↦
          let threshold = c.args.threshold in
          let events = c.args.events.now in
          let reports = c.args.reports.now in (
            λ reported. record {
              in_order = c.are_in_order.ensures.0 w.if-are_in_order.true;
              light = light_isn't_listed threshold events reports (w.are_heavy.ensures.0 (sym w.value-is ∙ c.if-are_heavy.true));
              heavy = each_heavy (λ key. IsReportedOnTimeIn weighed threshold c.args.bins events reports key ⊎ IsNotYetDueIn weighed threshold c.args.bins events reports key)
                  threshold events c.requires.some
                  (c.are_reported_so_far.ensures.0 reported);
            },
            λ timely. c.are_reported_so_far.ensures.1 (λ k d within. timely.heavy _),
          )
      | else-are_in_order w ↦ absurd (false≢true (sym w.if-are_in_order.false ∙ sym w.value-is ∙ c.if-are_heavy.true))
    ]

pub returns-else-are_heavy : goal.returns-else-are_heavy
returns-else-are_heavy c = (
  λ e. absurd (false≢true (sym c.if-are_heavy.false ∙ e)),
  λ timely.
      elim c.if-are_in_order.branch [
        | then-are_in_order w ↦ w.value-is ∙ w.are_heavy.ensures.1 (listed_is_heavy c.args.threshold c.args.events.now c.args.reports.now timely.light)
        | else-are_in_order w ↦ w.value-is ∙ c.are_in_order.ensures.1 timely.in_order
      ],
)
