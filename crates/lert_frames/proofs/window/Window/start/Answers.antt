use Rattle.lert_frames.proofs.WindowLaws.{none_read}
use Rattle.lert_frames.proofs.window.Window.start.Goals as goal

pub returns-clause-read : goal.returns-clause-read
returns-clause-read c file = none_read file c.args.at
