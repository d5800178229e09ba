use Rattle.std.proofs.{Common.{arith, lit<, ◌∙◌, sym, ◌≡◌, ℕ, ◌+◌, ◌^◌, ◌<◌, ◌≤◌, length, set, take, map, ◌++◌, ◌-◌, ap, get_or}, lemmas.List.length-set}
use Rattle.lert_counter.specs.Group.{digits, written, digit_base}
use Rattle.lert_counter.proofs.{CounterLemmas.{counter-guarded, counter-bare, front_above, front_guarded}, write.write_counter.Goals.{then-slot_of-x, else-slot_of-x}}
use Rattle.lert_counter.proofs.write.write_counter.Goals as goal

pub returns-clause-front : goal.returns-clause-front
returns-clause-front c =
    let old = c.args.into.now in
    let mid = c.put_digits-end.new.into in
    let ds = digits 5 (digit_base c.args.width c.args.x) (c.args.count - 3) in
    let front : take c.put_digits-end.result mid ≡ take c.if-slot_of-x.start c.if-slot_of-x.into ++ map (written c.args.x) ds =
    rw (← c.base_beside-base.ensures.value) c.put_digits-end.ensures.front in
    let long = c.put_digits-end.auto.into ∙ c.if-slot_of-x.auto.into ∙ length-set old 0 c.args.x in
    let leading : c.slot_of.result ≡ written c.args.x (get_or ds 0 0) =
    c.slot_of.ensures ∙ ap (written c.args.x) (c.leading_digit-leading.ensures.value ∙ ap (λ b. get_or (digits 5 b (c.args.count - 3)) 0 0) c.base_beside-base.ensures.value) in
    elim c.if-slot_of-x.branch [
      | then-slot_of-x w ↦
          front_guarded c.args.x c.put_digits-end.result old mid _ (omega arith) (omega arith) (rw (w.start-is, w.into-is) at front)
          ∙ sym (counter-guarded c.args.width c.args.x c.args.count (omega arith) (omega (arith, w.if-slot_of-x.true)))
      | else-slot_of-x w ↦
          front_above c.args.x c.put_digits-end.result old mid _ (omega arith) (omega arith) (rw (w.start-is, w.into-is) at front)
          ∙ sym (counter-bare c.args.width c.args.x c.args.count (omega arith) (omega (arith, w.if-slot_of-x.false)))
    ]

-- ---- the places, over plain numbers, since the search would go through all that is known

room_for : (start at now laid before : ℕ) → start ≡ at → at < 3 → now ≡ laid → laid ≡ before → 9 ≤ before → start + 5 < now
room_for start at now laid before is low same kept room = omega arith

to_nine : (end start at : ℕ) → end ≤ start + 5 + 1 → start ≡ at → at < 3 → end + 1 ≤ 9
to_nine end start at within is low = omega arith

small : (end : ℕ) → end + 1 ≤ 9 → end + 1 < 2 ^ 64
small end few = omega arith

positive : (base : ℕ) → 254 ≤ base → 0 < base
positive base least = omega arith

number_fits : (count : ℕ) → count ≤ 2 ^ 47 → count - 3 + 2 < 2 ^ 64
number_fits count most = omega arith

pub put_digits-end-requires-clause-base : goal.put_digits-end-requires-clause-base
put_digits-end-requires-clause-base c = positive c.base_beside-base.result c.base_beside-base.ensures.least

pub put_digits-end-requires-clause-number : goal.put_digits-end-requires-clause-number
put_digits-end-requires-clause-number c = number_fits c.args.count c.requires.count.1

pub put_digits-end-requires-clause-room : goal.put_digits-end-requires-clause-room
put_digits-end-requires-clause-room c =
    let old = c.args.into.now in
    let start = c.if-slot_of-x.start in
    let now = c.if-slot_of-x.into in
    let same = length-set old 0 c.args.x in
    elim c.if-slot_of-x.branch [
      | then-slot_of-x w ↦ room_for start _ (length now) (length (set old 0 c.args.x)) (length old) w.start-is (lit< tt) c.if-slot_of-x.auto.into same c.requires.room
      | else-slot_of-x w ↦ room_for start _ (length now) (length (set old 0 c.args.x)) (length old) w.start-is (lit< tt) c.if-slot_of-x.auto.into same c.requires.room
    ]

pub returns-clause-within : goal.returns-clause-within
returns-clause-within c =
    elim c.if-slot_of-x.branch [
      | then-slot_of-x w ↦ to_nine c.put_digits-end.result c.if-slot_of-x.start _ c.put_digits-end.ensures.within w.start-is (lit< tt)
      | else-slot_of-x w ↦ to_nine c.put_digits-end.result c.if-slot_of-x.start _ c.put_digits-end.ensures.within w.start-is (lit< tt)
    ]

pub overflow_add-result : goal.overflow_add-result
overflow_add-result c =
    elim c.if-slot_of-x.branch [
      | then-slot_of-x w ↦ record { fits = small c.put_digits-end.result (to_nine c.put_digits-end.result c.if-slot_of-x.start _ c.put_digits-end.ensures.within w.start-is (lit< tt)) }
      | else-slot_of-x w ↦ record { fits = small c.put_digits-end.result (to_nine c.put_digits-end.result c.if-slot_of-x.start _ c.put_digits-end.ensures.within w.start-is (lit< tt)) }
    ]
