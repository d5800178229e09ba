use Rattle.lert_slotbits.proofs.WordLemmas.{joined_is}
use Rattle.lert_slotbits.proofs.words.joined.Goals as goal

pub returns : goal.returns
returns c = joined_is c.args.high c.args.width c.args.low c.requires.width c.requires.low c.requires.high
