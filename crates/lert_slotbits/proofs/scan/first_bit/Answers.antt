use Rattle.std.proofs.{Common.{arith, ◌+◌}, lemmas.Nat.Bits.bit_at-trailing_zeros}
use Rattle.std.specs.Int.{w64}
use Rattle.lert_slotbits.proofs.ScanLemmas.{marks_of, marks_first, passed_word, first_of}
use Rattle.lert_slotbits.proofs.scan.first_bit.Goals as goal

pub loop-word-init : goal.loop-word-init
loop-word-init c = record {
  within = omega arith;
  reached = omega arith;
  fits = c.cleared_below-word.type_inv;
  passed = λ k h less same. absurd (omega arith);
  marks = marks_first c.args.on c.args.words.now c.args.from c.marked.result c.cleared_below-word.result (omega arith) c.marked.ensures c.cleared_below-word.ensures.below
      c.cleared_below-word.ensures.from;
}

pub returns-then-index-words : goal.returns-then-index-words
returns-then-index-words c = λ k h less same.
    passed_word c.args.on c.args.words.now c.args.from c.loop-word.index c.loop-word.word c.loop-word-test.true c.loop-word.invariant.marks c.loop-word.invariant.passed k h (omega arith) same

pub loop-word-preserved : goal.loop-word-preserved
loop-word-preserved c = record {
  within = omega arith;
  reached = omega arith;
  fits = c.marked-word.type_inv;
  passed = passed_word c.args.on c.args.words.now c.args.from c.loop-word.index c.loop-word.word c.loop-word-test.true c.loop-word.invariant.marks c.loop-word.invariant.passed;
  marks = marks_of c.args.on c.args.words.now c.args.from (c.loop-word.index + 1) c.marked-word.result (omega arith) (omega arith) c.marked-word.ensures;
}

pub returns : goal.returns
returns c =
    first_of c.args.on c.args.words.now c.args.from c.loop-word.index c.loop-word.word c.from.result c.loop-word.invariant.within c.loop-word-test.false c.loop-word.invariant.fits
    c.loop-word.invariant.marks c.loop-word.invariant.passed
    (rw c.from.ensures (bit_at-trailing_zeros w64 c.loop-word.word (omega arith) c.loop-word.invariant.fits))
