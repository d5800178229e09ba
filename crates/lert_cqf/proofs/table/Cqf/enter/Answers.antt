use Rattle.std.proofs.Common.{◌≡◌, ◌+◌, ◌<◌, [], drop, arith, refl, sym, subst}
use Rattle.lert_cqf.specs.{Contents.Contents, Standing.{Stands, IsInRun}}
use Rattle.lert_cqf.proofs.{TableLemmas.occupied_long, StandingLemmas.{between, none_left, next_run, run_stands, entered}}
use Rattle.lert_cqf.proofs.table.Cqf.enter.Goals as goal

pub next_true-requires : goal.next_true-requires
next_true-requires c =
    let b = between _ _ _ _ _ _ _ _ _ _ c.self.invariant.0 c.args.cursor.now (subst (λ (t : Contents). Stands t c.args.cursor.now) (sym c.self.view_is) c.requires) c.if-cursor.false in
    let long = occupied_long _ _ _ _ _ _ _ _ _ _ c.self.invariant.0 in
    let within = b.next_within in
    omega arith

pub returns-in_default-clause-over : goal.returns-in_default-clause-over
returns-in_default-clause-over c = λ no.
    let b = between _ _ _ _ _ _ _ _ _ _ c.self.invariant.0 c.args.cursor.now (subst (λ (t : Contents). Stands t c.args.cursor.now) (sym c.self.view_is) c.requires) c.if-cursor.false in
    (refl, subst (λ (t : Contents). drop c.args.cursor.now.given t.pieces ≡ []) c.self.view_is (none_left _ _ _ _ _ _ _ _ _ _ c.self.invariant.0 c.args.cursor.now b c.in_default.ensures))

pub overflow_add-cursor : goal.overflow_add-cursor
overflow_add-cursor c =
    let first = c.in-Some.ensures in
    let b = between _ _ _ _ _ _ _ _ _ _ c.self.invariant.0 c.args.cursor.now (subst (λ (t : Contents). Stands t c.args.cursor.now) (sym c.self.view_is) c.requires) c.if-cursor.false in
    let n = next_run _ _ _ _ _ _ _ _ _ _ c.self.invariant.0 c.args.cursor.now c.in-Some.home b first in
    let s = run_stands _ _ _ _ _ _ _ _ _ _ c.self.invariant.0 c.args.cursor.now c.in-Some.home n in
    let lengths = ((c.self.invariant.0).stand).lengths in
    let end = s.end_is in
    let start = s.start_is in
    let inside = s.within in
    omega (arith, lengths.short, lengths.slots_long)

pub start-cursor-requires-clause-within : goal.start-cursor-requires-clause-within
start-cursor-requires-clause-within c =
    let first = c.in-Some.ensures in
    let long = occupied_long _ _ _ _ _ _ _ _ _ _ c.self.invariant.0 in
    let lengths = ((c.self.invariant.0).stand).lengths in
    let within = first.within in
    let spill = lengths.spill_long in
    omega arith

pub start-cursor-requires-clause-fits : goal.start-cursor-requires-clause-fits
start-cursor-requires-clause-fits c =
    let first = c.in-Some.ensures in
    let b = between _ _ _ _ _ _ _ _ _ _ c.self.invariant.0 c.args.cursor.now (subst (λ (t : Contents). Stands t c.args.cursor.now) (sym c.self.view_is) c.requires) c.if-cursor.false in
    let n = next_run _ _ _ _ _ _ _ _ _ _ c.self.invariant.0 c.args.cursor.now c.in-Some.home b first in
    let s = run_stands _ _ _ _ _ _ _ _ _ _ c.self.invariant.0 c.args.cursor.now c.in-Some.home n in
    let lengths = ((c.self.invariant.0).stand).lengths in
    let end = s.end_is in
    let start = s.start_is in
    let inside = s.within in
    omega (arith, lengths.short, lengths.slots_long)

pub overflow_add-home : goal.overflow_add-home
overflow_add-home c =
    let first = c.in-Some.ensures in
    let b = between _ _ _ _ _ _ _ _ _ _ c.self.invariant.0 c.args.cursor.now (subst (λ (t : Contents). Stands t c.args.cursor.now) (sym c.self.view_is) c.requires) c.if-cursor.false in
    let n = next_run _ _ _ _ _ _ _ _ _ _ c.self.invariant.0 c.args.cursor.now c.in-Some.home b first in
    let s = run_stands _ _ _ _ _ _ _ _ _ _ c.self.invariant.0 c.args.cursor.now c.in-Some.home n in
    let lengths = ((c.self.invariant.0).stand).lengths in
    let end = s.end_is in
    let start = s.start_is in
    let inside = s.within in
    omega (arith, lengths.short, lengths.slots_long)

pub start-cursor-requires-2-clause-within : goal.start-cursor-requires-2-clause-within
start-cursor-requires-2-clause-within c =
    let first = c.in-Some.ensures in
    let long = occupied_long _ _ _ _ _ _ _ _ _ _ c.self.invariant.0 in
    let lengths = ((c.self.invariant.0).stand).lengths in
    let within = first.within in
    let spill = lengths.spill_long in
    omega arith

pub start-cursor-requires-2-clause-fits : goal.start-cursor-requires-2-clause-fits
start-cursor-requires-2-clause-fits c =
    let first = c.in-Some.ensures in
    let b = between _ _ _ _ _ _ _ _ _ _ c.self.invariant.0 c.args.cursor.now (subst (λ (t : Contents). Stands t c.args.cursor.now) (sym c.self.view_is) c.requires) c.if-cursor.false in
    let n = next_run _ _ _ _ _ _ _ _ _ _ c.self.invariant.0 c.args.cursor.now c.in-Some.home b first in
    let s = run_stands _ _ _ _ _ _ _ _ _ _ c.self.invariant.0 c.args.cursor.now c.in-Some.home n in
    let lengths = ((c.self.invariant.0).stand).lengths in
    let end = s.end_is in
    let start = s.start_is in
    let inside = s.within in
    omega (arith, lengths.short, lengths.slots_long)

pub returns-clause-entered : goal.returns-clause-entered
returns-clause-entered c = λ yes.
    let first = c.in-Some.ensures in
    let b = between _ _ _ _ _ _ _ _ _ _ c.self.invariant.0 c.args.cursor.now (subst (λ (t : Contents). Stands t c.args.cursor.now) (sym c.self.view_is) c.requires) c.if-cursor.false in
    let n = next_run _ _ _ _ _ _ _ _ _ _ c.self.invariant.0 c.args.cursor.now c.in-Some.home b first in
    subst (λ (t : Contents). IsInRun t (record { next = c.in-Some.home + 1; at = c.start-cursor.result; end = c.start-cursor-2.result; given = c.args.cursor.now.given })
    × (c.start-cursor.result < c.start-cursor-2.result))
    c.self.view_is
    (entered _ _ _ _ _ _ _ _ _ _ c.self.invariant.0 c.args.cursor.now c.in-Some.home n c.start-cursor.result c.start-cursor-2.result c.start-cursor.ensures c.start-cursor-2.ensures)
