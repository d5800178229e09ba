use Rattle.std.proofs.Common.{◌≡◌, arith, ◌∙◌, refl}
use Rattle.std.specs.Int.{bit_at}
use Rattle.lert_slotbits.specs.Bits.{word_bits}
use Rattle.lert_slotbits.proofs.{RowLemmas.{bit_of_word, length_word_bits}, CountLemmas.{bit_yes, bit_no, trues_all}, count.place_in.Goals.{then-bit_of-eq1+else-left-eq0, else-bit_of-eq1}}
use Rattle.lert_slotbits.proofs.count.place_in.Goals as goal

pub returns-then-left-eq0-clause-set : goal.returns-then-left-eq0-clause-set
returns-then-left-eq0-clause-set c = bit_of_word c.args.word c.loop-at.at c.loop-at-test.true
    ∙ (let one : bit_at c.args.word c.loop-at.at ≡ 1 = omega (arith, c.bit_of.ensures.value) in rw one refl)

pub loop-at-preserved : goal.loop-at-preserved
loop-at-preserved c =
    elim c.if-bit_of-eq1.branch [
      | then-bit_of-eq1+else-left-eq0 w ↦
          (let more = bit_yes c.args.word c.loop-at.at c.loop-at-test.true (omega (arith, c.bit_of.ensures.value, w.if-bit_of-eq1.true)) in
          omega (arith, c.loop-at.invariant, w.left-is, w.if-left-eq0.false))
      | else-bit_of-eq1 w ↦
          (let more = bit_no c.args.word c.loop-at.at c.loop-at-test.true (omega (arith, c.bit_of.ensures.value, c.bit_of.ensures.below, w.if-bit_of-eq1.false)) in
          omega (arith, c.loop-at.invariant, w.left-is))
    ]

pub unreachable-requires : goal.unreachable-requires
unreachable-requires c =
    let all = trues_all c.loop-at.at (word_bits c.args.word) (let long = length_word_bits c.args.word in omega arith) in
    omega (arith, c.loop-at.invariant, c.requires)
