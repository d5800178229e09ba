use Rattle.lert_spec.specs.Counts.{weighed}
use Rattle.lert_spec.proofs.TimeBound.{timely_closing, timely_so_far}
use Rattle.lert_spec.proofs.laws.reports_come_in_time.Goals as goal

pub returns-clause-closing : goal.returns-clause-closing
returns-clause-closing c events fits = timely_closing weighed c.args.s.now events c.requires fits

pub returns-clause-so_far : goal.returns-clause-so_far
returns-clause-so_far c events fits = timely_so_far weighed c.args.s.now events c.requires fits
