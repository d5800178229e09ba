use Rattle.std.proofs.{Common.{◌^◌, length, get_or, arith, sym, inl, inr}, lemmas.Bool.cases_lt, Math.Nat.div-eq_of_lt}
use Rattle.lert_blocks.proofs.SlotLaws.{first_bad_is, first_bad_none}
use Rattle.lert_blocks.proofs.step.first_wrong.Goals as goal

pub returns-then-slot-width-ne0 : goal.returns-then-slot-width-ne0
returns-then-slot-width-ne0 c =
    let slots = c.args.slots.now in
    let place = c.loop-place.place in
    sym (first_bad_is c.args.width c.args.count slots place c.loop-place.invariant (omega arith) (omega arith)
    (λ _. elim (cases_lt (get_or slots place 0) (2 ^ c.args.width)) [ inl less ↦ absurd (c.if-slot-width-ne0.true (div-eq_of_lt less)) | inr wide ↦ wide ]))

pub returns-then-slots-count : goal.returns-then-slots-count
returns-then-slots-count c =
    sym (first_bad_is c.args.width c.args.count c.args.slots.now (length c.args.slots.now) (λ k h. c.loop-place.invariant k (omega arith)) (omega arith) (omega arith)
    (λ h. absurd (omega arith)))

pub returns-else-slots-count : goal.returns-else-slots-count
returns-else-slots-count c =
    sym (first_bad_none c.args.width c.args.count c.args.slots.now (λ k h. c.loop-place.invariant k (omega arith)) (omega arith))
