use Rattle.lert_slotbits.proofs.RowLemmas.{row-set}
use Rattle.lert_slotbits.proofs.row.put_bit.Goals as goal

pub returns : goal.returns
returns c = row-set c.args.words.now c.args.i c.with_bit.result c.args.on c.requires c.with_bit.ensures.here c.with_bit.ensures.others
