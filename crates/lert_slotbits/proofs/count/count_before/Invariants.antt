use Rattle.std.proofs.Common.{◌≡◌, ◌*◌, ◌≤◌, take}
use Rattle.lert_slotbits.specs.Bits.{row_of, trues}
use Rattle.lert_slotbits.proofs.count.count_before.Given as goal

abbrev pub invariant-loop-word : goal.invariant-loop-word
invariant-loop-word l = (l.count ≡ trues (take (64 * l.word-index) (row_of l.words))) × (l.count ≤ 64 * l.word-index)
