use Rattle.lert_slotbits.proofs.WordLemmas.{lowest_is}
use Rattle.lert_slotbits.proofs.words.lowest.Goals as goal

pub returns : goal.returns
returns c = lowest_is c.args.word c.args.width c.requires
