use Rattle.std.proofs.Common.{arith, sym, ◌∙◌, get_or, length, ap, List, Bool, false, true, set}
use Rattle.lert_slotbits.specs.Bits.{IsFirst}
use Rattle.lert_cqf.proofs.{OpeningLemmas.length_filled, GrowingLemmas.{begin_free, begin_room, begin_start, begin_low, begin_first, begin_spill, begun}}
use Rattle.lert_cqf.proofs.rows.Rows.begin_run.Goals as goal

pub start-place-requires-clause-fits : goal.start-place-requires-clause-fits
start-place-requires-clause-fits c =
    let b = c.requires.beginning.2 in
    let start = begin_start c.requires.beginning.0 c.requires.beginning.1 c.args.width c.args.home c.args.x c.args.count _ _ _ _ b in
    let low = begin_low c.requires.beginning.0 c.requires.beginning.1 c.args.width c.args.home c.args.x c.args.count _ _ _ _ b in
    let room = begin_room c.requires.beginning.0 c.requires.beginning.1 c.args.width c.args.home c.args.x c.args.count _ _ _ _ b in
    omega (arith, ((b.stand).lengths).short)

pub start-place-requires-clause-within : goal.start-place-requires-clause-within
start-place-requires-clause-within c =
    let b = c.requires.beginning.2 in
    omega (arith, ((b.stand).lengths).spill_long, (b.around).within)

pub open_slot-requires-clause-homes : goal.open_slot-requires-clause-homes
open_slot-requires-clause-homes c =
    let b = c.requires.beginning.2 in
    omega (arith, ((b.stand).lengths).spill_long, (b.around).within)

pub open_slot-requires-clause-slots_long : goal.open_slot-requires-clause-slots_long
open_slot-requires-clause-slots_long c =
    let b = c.requires.beginning.2 in ((b.stand).lengths).slots_long ∙ sym ((b.stand).lengths).used_long

pub open_slot-requires-clause-ends_long : goal.open_slot-requires-clause-ends_long
open_slot-requires-clause-ends_long c =
    let b = c.requires.beginning.2 in ((b.stand).lengths).ends_long ∙ sym ((b.stand).lengths).used_long

pub open_slot-requires-clause-free : goal.open_slot-requires-clause-free
open_slot-requires-clause-free c =
    let b = c.requires.beginning.2 in
    let place = c.start-place.ensures ∙ begin_start c.requires.beginning.0 c.requires.beginning.1 c.args.width c.args.home c.args.x c.args.count _ _ _ _ b in (
      begin_free c.requires.beginning.0 c.requires.beginning.1 c.args.width c.args.home c.args.x c.args.count _ _ _ _ b,
      rw place (begin_first c.requires.beginning.0 c.requires.beginning.1 c.args.width c.args.home c.args.x c.args.count _ _ _ _ b),
    )

pub open_slot-requires-clause-room : goal.open_slot-requires-clause-room
open_slot-requires-clause-room c =
    let b = c.requires.beginning.2 in
    begin_spill c.requires.beginning.0 c.requires.beginning.1 c.args.width c.args.home c.args.x c.args.count _ _ _ _ b

pub set-requires : goal.set-requires
set-requires c =
    let b = c.requires.beginning.2 in
    let n = c.requires.beginning.0 in
    let homes = c.requires.beginning.1 in
    let free = begin_free n homes c.args.width c.args.home c.args.x c.args.count _ _ _ _ b in
    let place = c.start-place.ensures ∙ begin_start n homes c.args.width c.args.home c.args.x c.args.count _ _ _ _ b in
    let first : IsFirst false c.args.self.now.used c.start-place.result free = rw place (begin_first n homes c.args.width c.args.home c.args.x c.args.count _ _ _ _ b) in
    let low = begin_low n homes c.args.width c.args.home c.args.x c.args.count _ _ _ _ b in
    let room = begin_room n homes c.args.width c.args.home c.args.x c.args.count _ _ _ _ b in
    let ends = c.open_slot.ensures.run_ends free first in
    let long = ((b.stand).lengths).ends_long in
    let same = ap (λ (t : List Bool). length t) ends ∙ length_filled c.args.self.now.run_ends c.start-place.result free false (omega arith) (omega arith) in
    omega arith

pub returns-clause-begun : goal.returns-clause-begun
returns-clause-begun c = λ n homes b.
    let free = begin_free n homes c.args.width c.args.home c.args.x c.args.count _ _ _ _ b in
    let place = c.start-place.ensures ∙ begin_start n homes c.args.width c.args.home c.args.x c.args.count _ _ _ _ b in
    let first : IsFirst false c.args.self.now.used c.start-place.result free = rw place (begin_first n homes c.args.width c.args.home c.args.x c.args.count _ _ _ _ b) in
    begun n homes c.args.width c.args.home c.args.x c.args.count _ _ _ _ b (get_or c.args.self.now.slots.items free 0) _ _ _ _
    (rw place at (c.open_slot.ensures.slots free first))
    (rw place at (c.set.ensures ∙ ap (λ (t : List Bool). set t c.start-place.result true) (c.open_slot.ensures.run_ends free first)))
    (c.open_slot.ensures.used free first) (c.open_slot.ensures.spill free first)
