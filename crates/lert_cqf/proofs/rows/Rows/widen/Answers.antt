use Rattle.std.proofs.Common.{◌≡◌, arith, sym, ◌∙◌, refl, get_or}
use Rattle.lert_cqf.proofs.OpeningLemmas.{free_place, free_first, spill_room, opened, last_small, place_reached, widened_first}
use Rattle.lert_cqf.proofs.rows.Rows.widen.Goals as goal

pub loop-count-init : goal.loop-count-init
loop-count-init c = record {
  widened = λ n homes o. widened_first n homes c.args.home c.args.place c.args.last c.args.extra _ _ _ _ o;
  occupied = refl;
}

pub overflow_add-last : goal.overflow_add-last
overflow_add-last c =
    let o = c.requires.2 in
    let w = c.loop-count.invariant.widened c.requires.0 c.requires.1 o in
    let small = last_small c.requires.0 c.requires.1 c.args.home c.args.place c.args.last c.args.extra c.loop-count.count _ _ _ _ o _ _ _ _ w c.loop-count-test.true in
    omega (arith, (o.lengths).short)

pub open_slot-requires-clause-home : goal.open_slot-requires-clause-home
open_slot-requires-clause-home c =
    let o = c.requires.2 in
    let w = c.loop-count.invariant.widened c.requires.0 c.requires.1 o in
    place_reached c.requires.0 c.requires.1 c.args.home c.args.place c.args.last c.args.extra c.loop-count.count _ _ _ _ o _ _ _ _ w c.loop-count-test.true

pub open_slot-requires-clause-homes : goal.open_slot-requires-clause-homes
open_slot-requires-clause-homes c =
    let o = c.requires.2 in
    let w = c.loop-count.invariant.widened c.requires.0 c.requires.1 o in
    omega (arith, (w.lengths).spill_long, (o.around).within)

pub open_slot-requires-clause-slots_long : goal.open_slot-requires-clause-slots_long
open_slot-requires-clause-slots_long c =
    let o = c.requires.2 in
    let w = c.loop-count.invariant.widened c.requires.0 c.requires.1 o in
    (w.lengths).slots_long ∙ sym (w.lengths).used_long

pub open_slot-requires-clause-ends_long : goal.open_slot-requires-clause-ends_long
open_slot-requires-clause-ends_long c =
    let o = c.requires.2 in
    let w = c.loop-count.invariant.widened c.requires.0 c.requires.1 o in
    (w.lengths).ends_long ∙ sym (w.lengths).used_long

pub open_slot-requires-clause-free : goal.open_slot-requires-clause-free
open_slot-requires-clause-free c =
    let o = c.requires.2 in
    let w = c.loop-count.invariant.widened c.requires.0 c.requires.1 o in (
      free_place c.requires.0 c.requires.1 c.args.home c.args.place c.args.last c.args.extra c.loop-count.count _ _ _ _ o _ _ _ _ w c.loop-count-test.true,
      free_first c.requires.0 c.requires.1 c.args.home c.args.place c.args.last c.args.extra c.loop-count.count _ _ _ _ o _ _ _ _ w c.loop-count-test.true,
    )

pub open_slot-requires-clause-room : goal.open_slot-requires-clause-room
open_slot-requires-clause-room c =
    let o = c.requires.2 in
    let w = c.loop-count.invariant.widened c.requires.0 c.requires.1 o in
    spill_room c.requires.0 c.requires.1 c.args.home c.args.place c.args.last c.args.extra c.loop-count.count _ _ _ _ o _ _ _ _ w c.loop-count-test.true

pub loop-count-preserved : goal.loop-count-preserved
loop-count-preserved c = record {
  widened = λ n homes o.
      let w = c.loop-count.invariant.widened n homes o in
      let free = free_place n homes c.args.home c.args.place c.args.last c.args.extra c.loop-count.count _ _ _ _ o _ _ _ _ w c.loop-count-test.true in
      let first = free_first n homes c.args.home c.args.place c.args.last c.args.extra c.loop-count.count _ _ _ _ o _ _ _ _ w c.loop-count-test.true in
      let mark = c.min.ensures in
      opened n homes c.args.home c.args.place c.args.last c.args.extra c.loop-count.count _ _ _ _ o _ _ _ _ w c.loop-count-test.true
      (get_or c.loop-count.self.slots.items free 0) _ _ _ _
      (c.open_slot.ensures.slots free first) (rw (← mark) (c.open_slot.ensures.run_ends free first)) (c.open_slot.ensures.used free first) (c.open_slot.ensures.spill free first);
  occupied = c.open_slot.ensures.occupied ∙ c.loop-count.invariant.occupied;
}

pub returns-clause-widened : goal.returns-clause-widened
returns-clause-widened c = λ n homes o.
    let end : c.loop-count.count ≡ c.args.extra = omega arith in
    rw (← end) (c.loop-count.invariant.widened n homes o)
