use Rattle.std.proofs.Common.{◌≡◌, ◌<◌, length, get_or, arith, refl, inl, inr}
use Rattle.lert_counter.proofs.{ScanLemmas.{ends_at_x, goes_on, bounded, reads_digit, spells_all, takes_digit, written-positive}, SpelledLemmas.{spelled_more, spelled_all}}
use Rattle.lert_counter.proofs.read.scan_digits.Goals as goal

pub returns-then-slot-x-clause-read : goal.returns-then-slot-x-clause-read
returns-then-slot-x-clause-read c =
    let i = c.loop-len.invariant in
    spelled_all c.args.base c.args.x c.loop-len.len c.args.slots.now c.loop-len.number i.spelled i.few i.small (omega arith) c.if-slot-x.true

pub returns-then-slot-x-clause-there : goal.returns-then-slot-x-clause-there
returns-then-slot-x-clause-there c = λ ds back short text small.
    let so_far = c.loop-len.invariant.so_far ds back short text small in
    let all : c.loop-len.len ≡ length ds = ends_at_x c.args.x c.args.base c.loop-len.len c.loop-len.number ds back c.args.slots.now text so_far.0 c.if-slot-x.true in
    let number = spells_all c.args.x c.args.base c.loop-len.len c.loop-len.number ds back c.args.slots.now text so_far.0 all so_far.1 in
    rw (number, all) refl

pub returns-then-slot-eq0-clause-there : goal.returns-then-slot-eq0-clause-there
returns-then-slot-eq0-clause-there c = λ ds back short text small.
    let so_far = c.loop-len.invariant.so_far ds back short text small in
    let less : c.loop-len.len < length ds = goes_on c.args.x c.args.base c.loop-len.len c.loop-len.number ds back c.args.slots.now text so_far.0 c.if-slot-x.false in
    let digit = reads_digit c.args.x c.args.base c.loop-len.len c.loop-len.number ds back c.args.slots.now text so_far.0 c.if-slot-x.false in
    let positive = written-positive c.args.x (get_or ds c.loop-len.len 0) in
    elim c.then-slot-eq0.either [ inl zero ↦ absurd (omega arith) | inr seventh ↦ absurd (omega (arith, seventh.1)) ]

pub returns-in_err-checked_mul-clause-there : goal.returns-in_err-checked_mul-clause-there
returns-in_err-checked_mul-clause-there c = λ ds back short text small.
    let so_far = c.loop-len.invariant.so_far ds back short text small in
    let fits = bounded c.args.x c.args.base c.loop-len.len c.loop-len.number ds back c.args.slots.now text so_far.0 c.if-slot-x.false (omega arith) so_far.1 in
    absurd (c.in_err-checked_mul.ensures (omega arith))

pub returns-in_err-number-clause-there : goal.returns-in_err-number-clause-there
returns-in_err-number-clause-there c = λ ds back short text small.
    let so_far = c.loop-len.invariant.so_far ds back short text small in
    let fits = bounded c.args.x c.args.base c.loop-len.len c.loop-len.number ds back c.args.slots.now text so_far.0 c.if-slot-x.false (omega arith) so_far.1 in
    let digit = c.digit_of.ensures.digit _ (reads_digit c.args.x c.args.base c.loop-len.len c.loop-len.number ds back c.args.slots.now text so_far.0 c.if-slot-x.false) in
    absurd (c.in_err-number.ensures (omega (arith, c.in_ok-checked_mul.ensures)))

pub returns-then-number-gt-GREATEST_COUNT-clause-there :
    goal.returns-then-number-gt-GREATEST_COUNT-clause-there
returns-then-number-gt-GREATEST_COUNT-clause-there c = λ ds back short text small.
    let so_far = c.loop-len.invariant.so_far ds back short text small in
    let fits = bounded c.args.x c.args.base c.loop-len.len c.loop-len.number ds back c.args.slots.now text so_far.0 c.if-slot-x.false (omega arith) so_far.1 in
    let digit = c.digit_of.ensures.digit _ (reads_digit c.args.x c.args.base c.loop-len.len c.loop-len.number ds back c.args.slots.now text so_far.0 c.if-slot-x.false) in
    absurd (omega (arith, c.in_ok-number.ensures, c.in_ok-checked_mul.ensures))

pub loop-len-preserved : goal.loop-len-preserved
loop-len-preserved c = record {
  small = omega arith;
  few = (let i = c.loop-len.invariant in omega arith);
  spelled = (let i = c.loop-len.invariant in
      spelled_more c.args.base c.args.x c.loop-len.len c.args.slots.now c.loop-len.number c.digit_of.result _ i.spelled (omega arith) c.digit_of.ensures.slot
      (omega (arith, c.in_ok-number.ensures, c.in_ok-checked_mul.ensures)));
  so_far = λ ds back short text small.
      let so_far = c.loop-len.invariant.so_far ds back short text small in
      let less : c.loop-len.len < length ds = goes_on c.args.x c.args.base c.loop-len.len c.loop-len.number ds back c.args.slots.now text so_far.0 c.if-slot-x.false in
      let step = takes_digit c.args.x c.args.base c.loop-len.len c.loop-len.number ds back c.args.slots.now text so_far.0 (omega arith) so_far.1 less in
      let digit = c.digit_of.ensures.digit _ (reads_digit c.args.x c.args.base c.loop-len.len c.loop-len.number ds back c.args.slots.now text so_far.0 c.if-slot-x.false) in
      (omega arith, omega (arith, c.in_ok-number.ensures, c.in_ok-checked_mul.ensures));
}
