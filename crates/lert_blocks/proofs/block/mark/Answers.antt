use Rattle.std.proofs.Common.{true}
use Rattle.lert_slotbits.proofs.RowLemmas.{row-set}
use Rattle.lert_blocks.proofs.block.mark.Goals as goal

pub returns : goal.returns
returns c = row-set c.args.words.now c.args.i c.with_bit.result true c.requires c.with_bit.ensures.here (λ k within apart. c.with_bit.ensures.others k apart)
