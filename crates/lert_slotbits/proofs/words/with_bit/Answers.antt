use Rattle.std.specs.Int.{w64}
use Rattle.std.proofs.lemmas.Nat.Bits.{bit_at_set_same, bit_at_set_other, bit_at_clear_same, bit_at_clear_other}
use Rattle.lert_slotbits.proofs.words.with_bit.Goals as goal

pub returns-then-on-clause-here : goal.returns-then-on-clause-here
returns-then-on-clause-here c = rw c.if-on.true (bit_at_set_same w64 c.args.word c.args.at c.requires)

pub returns-then-on-clause-others : goal.returns-then-on-clause-others
returns-then-on-clause-others c = λ i within apart. bit_at_set_other w64 c.args.word c.args.at c.requires i apart

pub returns-else-on-clause-here : goal.returns-else-on-clause-here
returns-else-on-clause-here c = rw c.if-on.false (bit_at_clear_same w64 c.args.word c.args.at c.requires)

pub returns-else-on-clause-others : goal.returns-else-on-clause-others
returns-else-on-clause-others c = λ i within apart. bit_at_clear_other w64 c.args.word c.args.at c.requires i within apart
