use Rattle.std.proofs.Common.{◌≡◌, length, ap, sym, ◌∙◌, subst}
use Rattle.lert_spec.specs.{Counts.weighed, Look.{with_due_in, closing_of}, Timely.IsTimelyIn}
use Rattle.lert_spec.proofs.TimeBound.{timely_closing}
use Rattle.lert_reference.proofs.reports.closing.Goals as goal

pub returns-clause-in_time : goal.returns-clause-in_time
returns-clause-in_time c =
    let s = c.args.s.now in
    let events = c.args.events.now in
    let made : c.add_due.new.reports.items ≡ closing_of weighed s events = c.in_ok-add_due.ensures ∙ ap (with_due_in weighed s.threshold events 0 (length events)) c.in_ok-reports.ensures.value in
    subst (IsTimelyIn weighed s.threshold s.bins events) (sym made) (timely_closing weighed s events c.requires.valid c.requires.fits)
