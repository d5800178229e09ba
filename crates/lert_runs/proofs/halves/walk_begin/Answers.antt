use Rattle.lert_runs.proofs.BeforeLemmas.{before_all}
use Rattle.lert_runs.proofs.halves.walk_begin.Goals as goal

pub returns-then-run-le-SHORT : goal.returns-then-run-le-SHORT
returns-then-run-le-SHORT c = λ ps text. before_all c.args.width c.args.x ps
