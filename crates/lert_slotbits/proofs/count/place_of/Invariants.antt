use Rattle.std.proofs.Common.{◌≡◌, ◌+◌, ◌*◌, take}
use Rattle.lert_slotbits.specs.Bits.{row_of, trues}
use Rattle.lert_slotbits.proofs.count.place_of.Given as goal

abbrev pub invariant-loop-index : goal.invariant-loop-index
invariant-loop-index l = l.left + trues (take (64 * l.index) (row_of l.words)) ≡ l.k
