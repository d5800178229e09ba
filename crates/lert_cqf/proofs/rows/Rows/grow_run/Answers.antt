use Rattle.std.proofs.{Common.{◌+◌, ◌-◌, ◌++◌, ℕ, arith, ◌∙◌, length, ap, List, take, drop, length-append}, lemmas.List.{with_items_is, length-take, length-drop}}
use Rattle.lert_cqf.proofs.{BegunLemmas.text_within, GrowingLemmas.{grow_stands, grow_bounds, grow_of, grow_opening, grow_written, run, run_part}}
use Rattle.lert_cqf.proofs.rows.Rows.grow_run.Goals as goal

pub part-requires-clause-order : goal.part-requires-clause-order
part-requires-clause-order c =
    let g = c.requires.growing.2 in
    let bounds = grow_bounds c.requires.growing.0 c.requires.growing.1 c.args.width c.args.home c.args.x c.args.count _ _ _ _ g in
    omega (arith, bounds.order, c.start-begin.ensures, c.start-end.ensures)

pub part-requires-clause-within : goal.part-requires-clause-within
part-requires-clause-within c =
    let g = c.requires.growing.2 in
    let bounds = grow_bounds c.requires.growing.0 c.requires.growing.1 c.args.width c.args.home c.args.x c.args.count _ _ _ _ g in
    omega (arith, bounds.end, c.start-end.ensures)

pub grown-requires-clause-run_text : goal.grown-requires-clause-run_text
grown-requires-clause-run_text c =
    let g = c.requires.growing.2 in
    let bounds = grow_bounds c.requires.growing.0 c.requires.growing.1 c.args.width c.args.home c.args.x c.args.count _ _ _ _ g in
    (g.pairs, record { ascend = g.ascend; text = run_part c.args.home _ _ _ _ _ c.part.ensures c.start-begin.ensures c.start-end.ensures ∙ bounds.slice }, g.fits)

pub start-begin-requires-clause-within : goal.start-begin-requires-clause-within
start-begin-requires-clause-within c =
    let g = c.requires.growing.2 in
    let bounds = grow_bounds c.requires.growing.0 c.requires.growing.1 c.args.width c.args.home c.args.x c.args.count _ _ _ _ g in
    omega (arith, bounds.within)

pub start-begin-requires-clause-fits : goal.start-begin-requires-clause-fits
start-begin-requires-clause-fits c =
    let g = c.requires.growing.2 in
    let bounds = grow_bounds c.requires.growing.0 c.requires.growing.1 c.args.width c.args.home c.args.x c.args.count _ _ _ _ g in
    omega (arith, bounds.order, bounds.end, bounds.short)

pub overflow_add-at : goal.overflow_add-at
overflow_add-at c =
    let g = c.requires.growing.2 in
    let bounds = grow_bounds c.requires.growing.0 c.requires.growing.1 c.args.width c.args.home c.args.x c.args.count _ _ _ _ g in
    let is = grow_of c.requires.growing.0 c.requires.growing.1 c.args.width c.args.home c.args.x c.args.count _ _ _ _ g c.part.result.now c.grown.new.into
    (run_part c.args.home _ _ _ _ _ c.part.ensures c.start-begin.ensures c.start-end.ensures ∙ bounds.slice)
    (c.grown.ensures.grown c.requires.positive) in
    omega (arith, c.start-begin.ensures, bounds.joined, bounds.end, bounds.short, is.within)

pub start-end-requires-clause-within : goal.start-end-requires-clause-within
start-end-requires-clause-within c =
    let g = c.requires.growing.2 in
    let bounds = grow_bounds c.requires.growing.0 c.requires.growing.1 c.args.width c.args.home c.args.x c.args.count _ _ _ _ g in
    bounds.within

pub start-end-requires-clause-fits : goal.start-end-requires-clause-fits
start-end-requires-clause-fits c =
    let g = c.requires.growing.2 in
    let bounds = grow_bounds c.requires.growing.0 c.requires.growing.1 c.args.width c.args.home c.args.x c.args.count _ _ _ _ g in
    omega (arith, bounds.end, bounds.short)

pub overflow_sub-end : goal.overflow_sub-end
overflow_sub-end c =
    let g = c.requires.growing.2 in
    let bounds = grow_bounds c.requires.growing.0 c.requires.growing.1 c.args.width c.args.home c.args.x c.args.count _ _ _ _ g in
    omega (arith, c.start-end.ensures)

pub overflow_add-at-2 : goal.overflow_add-at-2
overflow_add-at-2 c =
    let g = c.requires.growing.2 in
    let bounds = grow_bounds c.requires.growing.0 c.requires.growing.1 c.args.width c.args.home c.args.x c.args.count _ _ _ _ g in
    let is = grow_of c.requires.growing.0 c.requires.growing.1 c.args.width c.args.home c.args.x c.args.count _ _ _ _ g c.part.result.now c.grown.new.into
    (run_part c.args.home _ _ _ _ _ c.part.ensures c.start-begin.ensures c.start-end.ensures ∙ bounds.slice)
    (c.grown.ensures.grown c.requires.positive) in
    omega (arith, c.start-begin.ensures, bounds.joined, bounds.end, bounds.short, is.within)

pub overflow_sub-growth : goal.overflow_sub-growth
overflow_sub-growth c =
    let g = c.requires.growing.2 in
    let bounds = grow_bounds c.requires.growing.0 c.requires.growing.1 c.args.width c.args.home c.args.x c.args.count _ _ _ _ g in
    let is = grow_of c.requires.growing.0 c.requires.growing.1 c.args.width c.args.home c.args.x c.args.count _ _ _ _ g c.part.result.now c.grown.new.into
    (run_part c.args.home _ _ _ _ _ c.part.ensures c.start-begin.ensures c.start-end.ensures ∙ bounds.slice)
    (c.grown.ensures.grown c.requires.positive) in
    is.longer

pub widen-requires : goal.widen-requires
widen-requires c =
    let g = c.requires.growing.2 in
    let bounds = grow_bounds c.requires.growing.0 c.requires.growing.1 c.args.width c.args.home c.args.x c.args.count _ _ _ _ g in
    let is = grow_of c.requires.growing.0 c.requires.growing.1 c.args.width c.args.home c.args.x c.args.count _ _ _ _ g c.part.result.now c.grown.new.into
    (run_part c.args.home _ _ _ _ _ c.part.ensures c.start-begin.ensures c.start-end.ensures ∙ bounds.slice)
    (c.grown.ensures.grown c.requires.positive) in (
      c.requires.growing.0,
      c.requires.growing.1,
      grow_opening c.requires.growing.0 c.requires.growing.1 c.args.width c.args.home c.args.x c.args.count _ _ _ _ g c.grown.new.into is
          (c.start-begin.result + c.grown.new.into.start + c.grown.new.into.old) (c.start-end.result - 1)
          (ap (λ k. k + c.grown.new.into.start + c.grown.new.into.old) c.start-begin.ensures) (omega (arith, c.start-end.ensures)),
    )

pub shared_ref_as_front-overwrite : goal.shared_ref_as_front-overwrite
shared_ref_as_front-overwrite c =
    let g = c.requires.growing.2 in
    let bounds = grow_bounds c.requires.growing.0 c.requires.growing.1 c.args.width c.args.home c.args.x c.args.count _ _ _ _ g in
    let is = grow_of c.requires.growing.0 c.requires.growing.1 c.args.width c.args.home c.args.x c.args.count _ _ _ _ g c.part.result.now c.grown.new.into
    (run_part c.args.home _ _ _ _ _ c.part.ensures c.start-begin.ensures c.start-end.ensures ∙ bounds.slice)
    (c.grown.ensures.grown c.requires.positive) in
    is.short

pub overwrite-requires : goal.overwrite-requires
overwrite-requires c =
    let g = c.requires.growing.2 in
    let bounds = grow_bounds c.requires.growing.0 c.requires.growing.1 c.args.width c.args.home c.args.x c.args.count _ _ _ _ g in
    let is = grow_of c.requires.growing.0 c.requires.growing.1 c.args.width c.args.home c.args.x c.args.count _ _ _ _ g c.part.result.now c.grown.new.into
    (run_part c.args.home _ _ _ _ _ c.part.ensures c.start-begin.ensures c.start-end.ensures ∙ bounds.slice)
    (c.grown.ensures.grown c.requires.positive) in
    let n = c.requires.growing.0 in
    let homes = c.requires.growing.1 in
    let o = grow_opening n homes c.args.width c.args.home c.args.x c.args.count _ _ _ _ g c.grown.new.into is
    (c.start-begin.result + c.grown.new.into.start + c.grown.new.into.old) (c.start-end.result - 1)
    (ap (λ k. k + c.grown.new.into.start + c.grown.new.into.old) c.start-begin.ensures) (omega (arith, c.start-end.ensures)) in
    let w = c.widen.ensures.widened n homes o in
    let slots_long = (w.lengths).slots_long in
    let long = ap (λ (t : List ℕ). length t) c.deref_mut.ensures.value in
    let text = length-take c.grown.new.into.len c.grown.new.into.text in
    let stands = (grow_stands n homes c.args.width c.args.home c.args.x c.args.count _ _ _ _ g).start_is in
    let text_run = run n homes c.args.width c.args.home c.args.x c.args.count _ _ _ _ g in
    let inside = text_within n c.args.home _ _ g.before g.after (w.spread).slots_are in
    omega (
      arith,
      c.start-begin.ensures,
      is.within,
      is.longer,
      w.added_long,
      length-append (take (c.grown.new.into.start + c.grown.new.into.old) text_run) (w.added ++ drop (c.grown.new.into.start + c.grown.new.into.old) text_run),
      length-append w.added (drop (c.grown.new.into.start + c.grown.new.into.old) text_run),
      length-take (c.grown.new.into.start + c.grown.new.into.old) text_run,
      length-drop (c.grown.new.into.start + c.grown.new.into.old) text_run,
    )

pub returns-clause-stand : goal.returns-clause-stand
returns-clause-stand c = λ n homes g.
    let bounds = grow_bounds n homes c.args.width c.args.home c.args.x c.args.count _ _ _ _ g in
    let is = grow_of n homes c.args.width c.args.home c.args.x c.args.count _ _ _ _ g c.part.result.now c.grown.new.into
    (run_part c.args.home _ _ _ _ _ c.part.ensures c.start-begin.ensures c.start-end.ensures ∙ bounds.slice)
    (c.grown.ensures.grown c.requires.positive) in
    let o = grow_opening n homes c.args.width c.args.home c.args.x c.args.count _ _ _ _ g c.grown.new.into is
    (c.start-begin.result + c.grown.new.into.start + c.grown.new.into.old) (c.start-end.result - 1)
    (ap (λ k. k + c.grown.new.into.start + c.grown.new.into.old) c.start-begin.ensures) (omega (arith, c.start-end.ensures)) in
    let w = c.widen.ensures.widened n homes o in
    grow_written n homes c.args.width c.args.home c.args.x c.args.count _ _ _ _ g c.grown.new.into is _ _ _ _ _ w (c.start-begin.result + c.grown.new.into.start)
    (ap (λ k. k + c.grown.new.into.start) c.start-begin.ensures)
    (with_items_is c.widen.new.self.slots c.overwrite.new.slots (c.overwrite.auto.slots ∙ c.deref_mut.ensures.len)
    ∙ c.overwrite.ensures
    ∙ ap (λ (t : List ℕ). take (c.start-begin.result + c.grown.new.into.start) t
    ++ (take c.grown.new.into.len c.grown.new.into.text ++ drop (c.start-begin.result + c.grown.new.into.start + length (take c.grown.new.into.len c.grown.new.into.text))
    t)) c.deref_mut.ensures.value)
