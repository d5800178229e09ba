use Rattle.std.proofs.Common.{sym, subst}
use Rattle.lert_spec.specs.{Counts.weighed, Timely.IsTimelySoFarIn}
use Rattle.lert_spec.proofs.TimeBound.{timely_so_far}
use Rattle.lert_reference.proofs.reports.look.Goals as goal

pub returns-clause-in_time : goal.returns-clause-in_time
returns-clause-in_time c =
    let s = c.args.s.now in
    let events = c.args.events.now in
    subst (IsTimelySoFarIn weighed s.threshold s.bins events) (sym c.in_ok-add_each.ensures) (timely_so_far weighed s events c.requires.valid c.requires.fits)
