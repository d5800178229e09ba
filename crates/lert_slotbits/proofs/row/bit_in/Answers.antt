use Rattle.std.proofs.Common.{sym, ◌∙◌, ap, ◌==◌}
use Rattle.lert_slotbits.proofs.RowLemmas.{bit_of_row}
use Rattle.lert_slotbits.proofs.row.bit_in.Goals as goal

pub returns : goal.returns
returns c = ap (λ n. n == 1) c.bit_of.ensures.value ∙ sym (bit_of_row c.args.words.now c.args.i c.requires)
