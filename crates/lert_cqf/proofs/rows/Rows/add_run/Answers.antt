use Rattle.std.proofs.{Common.{◌+◌, ◌-◌, ◌++◌, ℕ, arith, ◌∙◌, refl, length, ap, List, ◌∷◌, [], take, drop, length-append}, lemmas.List.with_items_is}
use Rattle.lert_counter.proofs.GroupLemmas.{length_group-positive}
use Rattle.lert_cqf.proofs.{BegunLemmas.text_within, GrowingLemmas.{begin_room, begin_start, begin_low, begin_opening, begin_written}}
use Rattle.lert_cqf.proofs.rows.Rows.add_run.Goals as goal

pub start-start-requires-clause-fits : goal.start-start-requires-clause-fits
start-start-requires-clause-fits c =
    let b = c.requires.beginning.2 in
    let n = c.requires.beginning.0 in
    let homes = c.requires.beginning.1 in
    let start = begin_start n homes c.args.width c.args.home c.args.x c.args.count _ _ _ _ b in
    let low = begin_low n homes c.args.width c.args.home c.args.x c.args.count _ _ _ _ b in
    let room = begin_room n homes c.args.width c.args.home c.args.x c.args.count _ _ _ _ b in
    omega (arith, ((b.stand).lengths).short)

pub start-start-requires-clause-within : goal.start-start-requires-clause-within
start-start-requires-clause-within c =
    let b = c.requires.beginning.2 in
    omega (arith, ((b.stand).lengths).spill_long, (b.around).within)

pub overflow_add-start : goal.overflow_add-start
overflow_add-start c =
    let b = c.requires.beginning.2 in
    let n = c.requires.beginning.0 in
    let homes = c.requires.beginning.1 in
    let start = c.start-start.ensures ∙ begin_start n homes c.args.width c.args.home c.args.x c.args.count _ _ _ _ b in
    let low = begin_low n homes c.args.width c.args.home c.args.x c.args.count _ _ _ _ b in
    let room = begin_room n homes c.args.width c.args.home c.args.x c.args.count _ _ _ _ b in
    omega (arith, ((b.stand).lengths).short)

pub overflow_sub-len : goal.overflow_sub-len
overflow_sub-len c =
    let b = c.requires.beginning.2 in
    omega (arith, c.write_group-len.ensures.len, length_group-positive c.args.width c.args.x c.args.count (b.fits).0)

pub widen-requires : goal.widen-requires
widen-requires c =
    let b = c.requires.beginning.2 in
    let n = c.requires.beginning.0 in
    let homes = c.requires.beginning.1 in
    let start = c.start-start.ensures ∙ begin_start n homes c.args.width c.args.home c.args.x c.args.count _ _ _ _ b in
    let extra = ap (λ k. k - 1) c.write_group-len.ensures.len in (
      n,
      homes,
      begin_opening n homes c.args.width c.args.home c.args.x c.args.count _ _ _ _ b (c.start-start.result + 1) c.start-start.result (c.write_group-len.result - 1)
          (ap (λ k. k + 1) start) start extra _ _ _ _ (c.begin_run.ensures.begun n homes b),
    )

pub overwrite-requires : goal.overwrite-requires
overwrite-requires c =
    let b = c.requires.beginning.2 in
    let n = c.requires.beginning.0 in
    let homes = c.requires.beginning.1 in
    let start = c.start-start.ensures ∙ begin_start n homes c.args.width c.args.home c.args.x c.args.count _ _ _ _ b in
    let extra = ap (λ k. k - 1) c.write_group-len.ensures.len in
    let h = c.begin_run.ensures.begun n homes b in
    let o = begin_opening n homes c.args.width c.args.home c.args.x c.args.count _ _ _ _ b (c.start-start.result + 1) c.start-start.result (c.write_group-len.result - 1)
    (ap (λ k. k + 1) start) start extra _ _ _ _ h in
    let w = c.widen.ensures.widened n homes o in
    let inside = text_within n c.args.home _ _ b.before b.after (w.spread).slots_are in
    let text = ap (λ (t : List ℕ). length t) c.write_group-len.ensures.front in
    let some = length_group-positive c.args.width c.args.x c.args.count (b.fits).0 in
    let long = ap (λ (t : List ℕ). length t) c.deref_mut.ensures.value in
    omega (arith, length-append (h.value ∷ []) (w.added ++ []), length-append w.added [], w.added_long, extra)

pub returns-clause-stand : goal.returns-clause-stand
returns-clause-stand c = λ n homes b.
    let start = c.start-start.ensures ∙ begin_start n homes c.args.width c.args.home c.args.x c.args.count _ _ _ _ b in
    let extra = ap (λ k. k - 1) c.write_group-len.ensures.len in
    let h = c.begin_run.ensures.begun n homes b in
    let o = begin_opening n homes c.args.width c.args.home c.args.x c.args.count _ _ _ _ b (c.start-start.result + 1) c.start-start.result (c.write_group-len.result - 1)
    (ap (λ k. k + 1) start) start extra _ _ _ _ h in
    let w = c.widen.ensures.widened n homes o in
    begin_written n homes c.args.width c.args.home c.args.x c.args.count _ _ _ _ b _ _ _ _ h (c.write_group-len.result - 1) extra _ _ _ _ _ w
    (with_items_is c.widen.new.self.slots c.overwrite.new.slots (c.overwrite.auto.slots ∙ c.deref_mut.ensures.len)
    ∙ c.overwrite.ensures
    ∙ ap (λ (t : List ℕ). take c.start-start.result t ++ (take c.write_group-len.result c.write_group-len.new.into
    ++ drop (c.start-start.result + length (take c.write_group-len.result c.write_group-len.new.into)) t)) c.deref_mut.ensures.value
    ∙ rw (c.write_group-len.ensures.front, start) refl)
