use Rattle.lert_frames.proofs.RunEndLaws.{counted_more}
use Rattle.lert_frames.proofs.run_ends.RunEnds.with.Goals as goal

pub returns-clause-counted : goal.returns-clause-counted
returns-clause-counted c words are = counted_more words c.args.self c.args.word c.from.result c.ranges.word.fits c.from.ensures are
