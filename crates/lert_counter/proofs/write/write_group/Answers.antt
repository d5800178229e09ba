use Rattle.std.proofs.{Common.{arith, ◌∙◌, sym, ap, ◌≡◌}, lemmas.List.length-set}
use Rattle.lert_counter.specs.Group.{counter}
use Rattle.lert_counter.proofs.{CounterLemmas.{length_from_front, front-one, front-two, front-three, group-counter}, SlotLemmas.slots_below}
use Rattle.lert_counter.proofs.write.write_group.Goals as goal

pub returns-then-count-eq1-clause-front : goal.returns-then-count-eq1-clause-front
returns-then-count-eq1-clause-front c =
    front-one c.args.width c.args.x c.args.count c.args.into.now (omega arith) c.if-count-eq1.true

pub returns-then-count-eq1-clause-len : goal.returns-then-count-eq1-clause-len
returns-then-count-eq1-clause-len c =
    length_from_front 1 _ _ (simp length-set (omega arith)) (front-one c.args.width c.args.x c.args.count c.args.into.now (omega arith) c.if-count-eq1.true)

pub returns-then-count-eq2-clause-front : goal.returns-then-count-eq2-clause-front
returns-then-count-eq2-clause-front c =
    front-two c.args.width c.args.x c.args.count c.args.into.now (omega arith) c.if-count-eq2.true

pub returns-then-count-eq2-clause-len : goal.returns-then-count-eq2-clause-len
returns-then-count-eq2-clause-len c =
    length_from_front 2 _ _ (simp length-set (omega arith)) (front-two c.args.width c.args.x c.args.count c.args.into.now (omega arith) c.if-count-eq2.true)

pub returns-then-x-gt0-clause-front : goal.returns-then-x-gt0-clause-front
returns-then-x-gt0-clause-front c =
    c.write_counter.ensures.front ∙ sym (group-counter c.args.width c.args.x c.args.count (omega arith) (λ z. absurd (omega arith)))

pub returns-then-x-gt0-clause-len : goal.returns-then-x-gt0-clause-len
returns-then-x-gt0-clause-len c =
    length_from_front c.write_counter.result c.write_counter.new.into _ (omega arith)
    (c.write_counter.ensures.front ∙ sym (group-counter c.args.width c.args.x c.args.count (omega arith) (λ z. absurd (omega arith))))

pub returns-then-count-eq3-clause-front : goal.returns-then-count-eq3-clause-front
returns-then-count-eq3-clause-front c =
    front-three c.args.width c.args.x c.args.count c.args.into.now (omega arith) c.if-count-eq3.true (omega arith)

pub returns-then-count-eq3-clause-len : goal.returns-then-count-eq3-clause-len
returns-then-count-eq3-clause-len c =
    length_from_front 3 _ _ (simp length-set (omega arith)) (front-three c.args.width c.args.x c.args.count c.args.into.now (omega arith) c.if-count-eq3.true (omega arith))

pub returns-clause-front : goal.returns-clause-front
returns-clause-front c =
    let zero : c.args.x ≡ 0 = omega arith in
    c.write_zero_counter.ensures.front ∙ ap (λ x. counter c.args.width x c.args.count) (sym zero)
    ∙ sym (group-counter c.args.width c.args.x c.args.count (omega arith) (λ z. omega arith))

pub returns-clause-len : goal.returns-clause-len
returns-clause-len c =
    let zero : c.args.x ≡ 0 = omega arith in
    length_from_front c.write_zero_counter.result c.write_zero_counter.new.into _ (omega arith)
    (c.write_zero_counter.ensures.front ∙ ap (λ x. counter c.args.width x c.args.count) (sym zero)
    ∙ sym (group-counter c.args.width c.args.x c.args.count (omega arith) (λ z. omega arith)))

pub returns-then-count-eq1-clause-below : goal.returns-then-count-eq1-clause-below
returns-then-count-eq1-clause-below c = slots_below c.args.width c.args.x c.args.count c.requires.narrow c.requires.count

pub returns-then-count-eq2-clause-below : goal.returns-then-count-eq2-clause-below
returns-then-count-eq2-clause-below c = slots_below c.args.width c.args.x c.args.count c.requires.narrow c.requires.count

pub returns-then-x-gt0-clause-below : goal.returns-then-x-gt0-clause-below
returns-then-x-gt0-clause-below c = slots_below c.args.width c.args.x c.args.count c.requires.narrow c.requires.count

pub returns-then-count-eq3-clause-below : goal.returns-then-count-eq3-clause-below
returns-then-count-eq3-clause-below c = slots_below c.args.width c.args.x c.args.count c.requires.narrow c.requires.count

pub returns-clause-below : goal.returns-clause-below
returns-clause-below c = slots_below c.args.width c.args.x c.args.count c.requires.narrow c.requires.count
