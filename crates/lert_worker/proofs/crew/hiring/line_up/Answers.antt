use Rattle.lert_worker.proofs.crew.Passing.{in_line}
use Rattle.lert_worker.proofs.crew.hiring.line_up.Goals as goal

pub returns-clause-in_line : goal.returns-clause-in_line
returns-clause-in_line g c = in_line c.args.fleet.now c.args.settings.now c.args.crew.items c.reverse.new.self.items c.reverse.ensures.items c.requires
