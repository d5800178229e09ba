use Rattle.lert_runs.proofs.BeginLemmas.{rise_uncut, closed_uncut}
use Rattle.lert_runs.proofs.begins.begins.Goals as goal

pub returns-else-width-lt-ONE_DIGIT : goal.returns-else-width-lt-ONE_DIGIT
returns-else-width-lt-ONE_DIGIT c = λ sure. rise_uncut c.args.width c.args.at c.args.run.now c.if-width-lt-ONE_DIGIT.false (c.rises.ensures sure)

pub returns-then-width-lt-ONE_DIGIT : goal.returns-then-width-lt-ONE_DIGIT
returns-then-width-lt-ONE_DIGIT c = λ sure. closed_uncut c.args.width c.args.at c.args.run.now (c.are_closed.ensures sure)
