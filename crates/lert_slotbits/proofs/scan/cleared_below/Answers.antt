use Rattle.lert_slotbits.proofs.ScanLemmas.{cleared_low, cleared_high}
use Rattle.lert_slotbits.proofs.scan.cleared_below.Goals as goal

pub returns-clause-below : goal.returns-clause-below
returns-clause-below c = λ i less. cleared_low c.args.word c.args.at i c.requires c.ranges.word.fits less

pub returns-clause-from : goal.returns-clause-from
returns-clause-from c = λ i more within. cleared_high c.args.word c.args.at i c.requires c.ranges.word.fits more
