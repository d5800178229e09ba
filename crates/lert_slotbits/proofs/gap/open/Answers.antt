use Rattle.std.proofs.{Common.{◌≡◌, ◌+◌, ◌/◌, ◌-◌, ◌%◌, arith, ap, ◌∙◌, get_or, refl}, lemmas.List.get_or-set_other}
use Rattle.std.specs.Int.{bit_at}
use Rattle.lert_slotbits.proofs.GapLemmas.{IsMovedPart, gap_starts, gap_goes_on, gap_ends, gap_within}
use Rattle.lert_slotbits.proofs.gap.open.Goals as goal

pub loop-index-init : goal.loop-index-init
loop-index-init c = record {
  done = gap_starts c.args.words.now c.args.from c.args.to c.requires.order c.requires.within;
  todo = λ j h. refl;
  first = λ _. refl;
  carried = λ h. absurd (omega arith);
  carry = omega arith;
}

pub loop-index-preserved : goal.loop-index-preserved
loop-index-preserved c =
    let old = c.args.words.now in
    let now = c.loop-index.words in
    let index = c.loop-index.index in
    let word : get_or now index 0 ≡ get_or old index 0 = c.loop-index.invariant.todo index (omega arith) in
    let part : IsMovedPart (get_or old index 0) c.moved_part.result index c.args.from c.args.to c.loop-index.carry = rw (← word) (record {
      below = c.moved_part.ensures.below;
      at_first = c.moved_part.ensures.at_first;
      carried = c.moved_part.ensures.carried;
      inside = c.moved_part.ensures.inside;
      above = c.moved_part.ensures.above;
    }) in
    let index_is : index + 1 - 1 ≡ index = omega arith in
    record {
      done = gap_goes_on old c.args.from c.args.to c.requires.order c.requires.within now index c.moved_part.result c.loop-index.carry c.loop-index.auto.words (omega arith) (omega arith)
          (omega arith)
          c.loop-index.invariant.first c.loop-index.invariant.carried part c.loop-index.invariant.done;
      todo = λ j h. get_or-set_other now index j c.moved_part.result 0 (omega arith) ∙ c.loop-index.invariant.todo j (omega arith);
      first = λ e. absurd (omega arith);
      carried = λ _. rw index_is (c.bit_of-carry.ensures.value ∙ ap (λ w. bit_at w 63) word);
      carry = c.bit_of-carry.ensures.below;
    }

pub returns : goal.returns
returns c =
    let end : c.loop-index.index ≡ c.args.to / 64 + 1 = omega arith in
    gap_ends c.args.words.now c.args.from c.args.to c.requires.order c.requires.within c.loop-index.words c.loop-index.auto.words
    (λ i h. c.loop-index.invariant.done i (omega arith)) (λ j h. c.loop-index.invariant.todo j (omega arith))

pub returns-then-first-to : goal.returns-then-first-to
returns-then-first-to c =
    let from = c.args.from in
    let to = c.args.to in
    let same : from / 64 ≡ to / 64 = c.if-first-to.true in
    let moved = c.moved_up.ensures in
    gap_within c.args.words.now from to c.requires.order c.requires.within same c.moved_up.result (record {
      below = λ i h low. moved.below i (omega arith);
      at_first = λ i h here. (let place : i ≡ from % 64 = omega arith in ap (λ k. bit_at c.moved_up.result k) place ∙ moved.first);
      carried = λ h. absurd (omega arith);
      inside = λ i h some low high. moved.inside i (omega arith) (omega arith);
      above = λ i h high. moved.above i (omega arith) h;
    })
