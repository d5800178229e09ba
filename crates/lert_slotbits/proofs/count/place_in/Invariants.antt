use Rattle.std.proofs.Common.{◌≡◌, ◌+◌, take}
use Rattle.lert_slotbits.specs.Bits.{word_bits, trues}
use Rattle.lert_slotbits.proofs.count.place_in.Given as goal

abbrev pub invariant-loop-at : goal.invariant-loop-at
invariant-loop-at l = l.left + trues (take l.at (word_bits l.word)) ≡ l.k
