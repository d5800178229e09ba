use Rattle.std.specs.Int.{w64}
use Rattle.std.proofs.lemmas.Nat.Bits.{bit_at_not}
use Rattle.lert_slotbits.proofs.scan.marked.Goals as goal

pub returns-else-on : goal.returns-else-on
returns-else-on c = λ i within. rw c.if-on.false (bit_at_not w64 c.args.word i c.ranges.word.fits within)
