use Rattle.lert_spec.specs.Counts.{weighed}
use Rattle.std.proofs.Common.{◌∙◌, List, ap, sym, subst}
use Rattle.lert_base.specs.Packet.{events_of}
use Rattle.lert_spec.specs.{declared.report.Report.Report, Timely.{IsTimelyIn, IsTimelySoFarIn}}
use Rattle.lert_reports.specs.Stored.{Stored}
use Rattle.lert_cone.specs.Stands.{is_broken, is_finished}
use Rattle.lert_cone.proofs.{StandLaws.{reports_running, reports_finished}, TimeLaws.{timely, timely_so_far}}
use Rattle.lert_cone.proofs.cone.Cone.reports.Goals as goal

pub returns-clause-running : goal.returns-clause-running
returns-clause-running g c = rw (← c.self.view_is) (λ running h stands sound seen told. (ap (λ (v : Stored). v.reports) c.store.ensures ∙ (stands.whole
    (ap is_broken running) sound seen told).in_step.reports_are ∙ reports_running c.self.inside.tally.listing _ (c.self.invariant.closed (ap is_broken running) ∙ ap is_finished running)
    (stands.whole (ap is_broken running) sound seen told).keys))

pub returns-clause-finished : goal.returns-clause-finished
returns-clause-finished g c = rw (← c.self.view_is) (λ finished h stands sound seen told. (ap (λ (v : Stored). v.reports) c.store.ensures ∙ (stands.whole
    (ap is_broken finished) sound seen told).in_step.reports_are ∙ reports_finished c.self.inside.tally.listing _ (c.self.invariant.closed (ap is_broken finished) ∙ ap is_finished finished)
    (stands.whole (ap is_broken finished) sound seen told).keys))

pub returns-clause-in_time : goal.returns-clause-in_time
returns-clause-in_time g c = rw (← c.self.view_is) (λ finished h stands sound seen told.
    subst (λ (reports : List Report). IsTimelyIn weighed c.self.inside.tally.listing.settings.threshold c.self.inside.tally.listing.settings.bins (events_of h) reports) (sym (ap (λ
    (v : Stored). v.reports) c.store.ensures)) (timely (ap is_broken finished) (c.self.invariant.closed (ap is_broken finished) ∙ ap is_finished finished) stands sound seen told))

pub returns-clause-in_time_so_far : goal.returns-clause-in_time_so_far
returns-clause-in_time_so_far g c = rw (← c.self.view_is) (λ running h stands sound seen told.
    subst (λ (reports : List Report). IsTimelySoFarIn weighed c.self.inside.tally.listing.settings.threshold c.self.inside.tally.listing.settings.bins (events_of h) reports) (sym (ap (λ
    (v : Stored). v.reports) c.store.ensures))
    (timely_so_far (ap is_broken running) (c.self.invariant.closed (ap is_broken running) ∙ ap is_finished running) stands sound seen told))
