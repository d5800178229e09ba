use Rattle.lert_blocks.proofs.EndLaws.{bits_of_word, bits_of_next}
use Rattle.lert_blocks.proofs.step.bits_from.Goals as goal

pub returns-clause-word : goal.returns-clause-word
returns-clause-word c = λ i h. bits_of_word c.args.word c.args.next c.args.at i c.requires h

pub returns-clause-next : goal.returns-clause-next
returns-clause-next c = λ i h behind. bits_of_next c.args.word c.args.next c.args.at i c.requires c.ranges.word.fits h behind
