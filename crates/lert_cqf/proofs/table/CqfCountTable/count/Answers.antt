use Rattle.std.proofs.{Common.{◌≡◌, ◌+◌, ◌-◌, ◌/◌, ◌%◌, ◌^◌, take, drop, get_or, arith, sym, ap, ◌∙◌}, lemmas.Nat.{mod_below, pow_pos}}
use Rattle.lert_spec.specs.Table.{count_of}
use Rattle.lert_cqf.specs.Contents.{Contents, built}
use Rattle.lert_cqf.proofs.{TableLemmas.{occupied_long, beyond, hold_bounds, count_absent, count_present}, ShortLemmas.{reaches, long_run, short_count}, BelowLemmas.held_below}
use Rattle.lert_cqf.proofs.table.CqfCountTable.count.Goals as goal

pub returns-then-home-len : goal.returns-then-home-len
returns-then-home-len c =
    let long = occupied_long _ _ _ _ _ _ _ _ _ _ c.self.invariant.0 in
    let q_is = c.parts-home.ensures.quotient ∙ ap (λ (t : Contents). c.args.tail / 2 ^ t.width) (sym c.self.view_is) in
    let l = beyond _ _ _ _ _ _ _ _ _ _ c.self.invariant.0 c.parts-home.result.0 (let out = c.if-home-len.true in let len = c.len.ensures in omega arith) in
    count_absent _ _ _ _ _ _ _ _ _ _ c.self.invariant.0 c.args.tail c.parts-home.result.0 q_is l ∙ ap (λ (t : Contents). count_of t.pieces c.args.tail) c.self.view_is

pub start-at-requires-clause-within : goal.start-at-requires-clause-within
start-at-requires-clause-within c =
    let long = occupied_long _ _ _ _ _ _ _ _ _ _ c.self.invariant.0 in
    let r = reaches _ _ _ _ _ _ _ _ _ _ c.self.invariant.0 c.parts-home.result.0 (let low = c.if-home-len.false in let len = c.len.ensures in omega arith) in
    omega (arith, r.within)

pub start-at-requires-clause-fits : goal.start-at-requires-clause-fits
start-at-requires-clause-fits c =
    let long = occupied_long _ _ _ _ _ _ _ _ _ _ c.self.invariant.0 in
    let r = reaches _ _ _ _ _ _ _ _ _ _ c.self.invariant.0 c.parts-home.result.0 (let low = c.if-home-len.false in let len = c.len.ensures in omega arith) in
    omega (arith, r.begins, r.short)

pub start-end-requires-clause-within : goal.start-end-requires-clause-within
start-end-requires-clause-within c =
    let long = occupied_long _ _ _ _ _ _ _ _ _ _ c.self.invariant.0 in
    (reaches _ _ _ _ _ _ _ _ _ _ c.self.invariant.0 c.parts-home.result.0 (let low = c.if-home-len.false in let len = c.len.ensures in omega arith)).within

pub start-end-requires-clause-fits : goal.start-end-requires-clause-fits
start-end-requires-clause-fits c =
    let long = occupied_long _ _ _ _ _ _ _ _ _ _ c.self.invariant.0 in
    let r = reaches _ _ _ _ _ _ _ _ _ _ c.self.invariant.0 c.parts-home.result.0 (let low = c.if-home-len.false in let len = c.len.ensures in omega arith) in
    omega (arith, r.ends, r.short)

pub overflow_add-at : goal.overflow_add-at
overflow_add-at c =
    let long = occupied_long _ _ _ _ _ _ _ _ _ _ c.self.invariant.0 in
    let r = reaches _ _ _ _ _ _ _ _ _ _ c.self.invariant.0 c.parts-home.result.0 (let low = c.if-home-len.false in let len = c.len.ensures in omega arith) in
    omega (arith, r.begins, r.short, c.start-at.ensures)

pub count_first-requires-clause-at : goal.count_first-requires-clause-at
count_first-requires-clause-at c =
    let long = occupied_long _ _ _ _ _ _ _ _ _ _ c.self.invariant.0 in
    let r = reaches _ _ _ _ _ _ _ _ _ _ c.self.invariant.0 c.parts-home.result.0 (let low = c.if-home-len.false in let len = c.len.ensures in omega arith) in
    omega (arith, r.begins, c.start-at.ensures)

pub count_second-requires-clause-some : goal.count_second-requires-clause-some
count_second-requires-clause-some c = omega (arith, c.start-end.ensures)

pub count_second-requires-clause-at : goal.count_second-requires-clause-at
count_second-requires-clause-at c =
    let long = occupied_long _ _ _ _ _ _ _ _ _ _ c.self.invariant.0 in
    let r = reaches _ _ _ _ _ _ _ _ _ _ c.self.invariant.0 c.parts-home.result.0 (let low = c.if-home-len.false in let len = c.len.ensures in omega arith) in
    omega (arith, r.begins, c.start-at.ensures)

pub count_second-requires-clause-end : goal.count_second-requires-clause-end
count_second-requires-clause-end c =
    let long = occupied_long _ _ _ _ _ _ _ _ _ _ c.self.invariant.0 in
    let r = reaches _ _ _ _ _ _ _ _ _ _ c.self.invariant.0 c.parts-home.result.0 (let low = c.if-home-len.false in let len = c.len.ensures in omega arith) in
    omega (arith, r.ends, c.start-end.ensures)

pub returns-then-end-at : goal.returns-then-end-at
returns-then-end-at c =
    let long = occupied_long _ _ _ _ _ _ _ _ _ _ c.self.invariant.0 in
    let slots = c.self.inside.rows.slots.items in
    let home = c.parts-home.result.0 in
    let x = c.parts-home.result.1 in
    let q_is = c.parts-home.ensures.quotient ∙ ap (λ (t : Contents). c.args.tail / 2 ^ t.width) (sym c.self.view_is) in
    let x_is = c.parts-home.ensures.remainder ∙ ap (λ (t : Contents). c.args.tail % 2 ^ t.width) (sym c.self.view_is) in
    let first = c.count_first.ensures in
    let second = c.count_second.ensures in
    let at = c.start-at.ensures in
    let end = c.start-end.ensures in
    let last : c.start-end.result - 1 ≡ home + get_or c.self.inside.rows.spill (home + 1) 0 = omega (arith, end) in
    short_count _ _ _ _ _ _ _ _ _ _ c.self.invariant.0 home (let low = c.if-home-len.false in let len = c.len.ensures in omega arith)
    c.args.tail x c.count_first.result c.count_second.result q_is x_is (omega (arith, at, end, c.if-end-at.true))
    first.vacant (λ apart. first.other (λ e. apart (ap (λ i. get_or slots i 0) (sym at) ∙ e)))
    (λ held there. first.here held (ap (λ i. get_or slots i 0) at ∙ there))
    (λ short. second.none (omega (arith, at, end, short)))
    (λ apart. second.other (λ e. apart (ap (λ i. get_or slots i 0) (sym last) ∙ e)))
    (λ more there. second.here (omega (arith, at, end, more)) (ap (λ i. get_or slots i 0) last ∙ there))
    ∙ ap (λ (t : Contents). count_of t.pieces c.args.tail) c.self.view_is

pub part-run-requires-clause-within : goal.part-run-requires-clause-within
part-run-requires-clause-within c =
    let long = occupied_long _ _ _ _ _ _ _ _ _ _ c.self.invariant.0 in
    let r = reaches _ _ _ _ _ _ _ _ _ _ c.self.invariant.0 c.parts-home.result.0 (let low = c.if-home-len.false in let len = c.len.ensures in omega arith) in
    omega (arith, r.ends, c.start-end.ensures)

pub count_by_place-requires-clause-run_text : goal.count_by_place-requires-clause-run_text
count_by_place-requires-clause-run_text c =
    let long = occupied_long _ _ _ _ _ _ _ _ _ _ c.self.invariant.0 in
    let h = long_run _ _ _ _ _ _ _ _ _ _ c.self.invariant.0 c.parts-home.result.0 (let low = c.if-home-len.false in let len = c.len.ensures in omega arith)
    (omega (arith, c.start-at.ensures, c.start-end.ensures, c.if-end-at.false)) in
    let bounds = hold_bounds _ _ _ _ _ _ _ _ _ _ c.self.invariant.0 c.parts-home.result.0 h in (
      h.pairs,
      record {
        ascend = h.ascend;
        text = c.part-run.ensures ∙ ap (λ k. take (k - c.start-at.result) (drop c.start-at.result c.self.inside.rows.slots.items)) c.start-end.ensures
            ∙ ap (λ k. take (c.parts-home.result.0 + 1 + get_or c.self.inside.rows.spill (c.parts-home.result.0 + 1) 0 - k) (drop k c.self.inside.rows.slots.items)) c.start-at.ensures
            ∙ bounds.slice;
      },
    )

pub returns : goal.returns
returns c =
    let long = occupied_long _ _ _ _ _ _ _ _ _ _ c.self.invariant.0 in
    let h = long_run _ _ _ _ _ _ _ _ _ _ c.self.invariant.0 c.parts-home.result.0 (let low = c.if-home-len.false in let len = c.len.ensures in omega arith)
    (omega (arith, c.start-at.ensures, c.start-end.ensures, c.if-end-at.false)) in
    let bounds = hold_bounds _ _ _ _ _ _ _ _ _ _ c.self.invariant.0 c.parts-home.result.0 h in
    let q_is = c.parts-home.ensures.quotient ∙ ap (λ (t : Contents). c.args.tail / 2 ^ t.width) (sym c.self.view_is) in
    let x_is = c.parts-home.ensures.remainder ∙ ap (λ (t : Contents). c.args.tail % 2 ^ t.width) (sym c.self.view_is) in
    c.count_by_place.ensures h.pairs (record {
      ascend = h.ascend;
      text = c.part-run.ensures ∙ ap (λ k. take (k - c.start-at.result) (drop c.start-at.result c.self.inside.rows.slots.items)) c.start-end.ensures
          ∙ ap (λ k. take (c.parts-home.result.0 + 1 + get_or c.self.inside.rows.spill (c.parts-home.result.0 + 1) 0 - k) (drop k c.self.inside.rows.slots.items)) c.start-at.ensures
          ∙ bounds.slice;
    })
    ∙ count_present _ _ _ _ _ _ _ _ _ _ c.self.invariant.0 c.args.tail c.parts-home.result.0 c.parts-home.result.1 q_is x_is h
    ∙ ap (λ (t : Contents). count_of t.pieces c.args.tail) c.self.view_is

pub returns-then-end-at-le-FEW_SLOTS : goal.returns-then-end-at-le-FEW_SLOTS
returns-then-end-at-le-FEW_SLOTS c =
    let long = occupied_long _ _ _ _ _ _ _ _ _ _ c.self.invariant.0 in
    let h = long_run _ _ _ _ _ _ _ _ _ _ c.self.invariant.0 c.parts-home.result.0 (let low = c.if-home-len.false in let len = c.len.ensures in omega arith)
    (omega (arith, c.start-at.ensures, c.start-end.ensures, c.if-end-at.false)) in
    let bounds = hold_bounds _ _ _ _ _ _ _ _ _ _ c.self.invariant.0 c.parts-home.result.0 h in
    let q_is = c.parts-home.ensures.quotient ∙ ap (λ (t : Contents). c.args.tail / 2 ^ t.width) (sym c.self.view_is) in
    let x_is = c.parts-home.ensures.remainder ∙ ap (λ (t : Contents). c.args.tail % 2 ^ t.width) (sym c.self.view_is) in
    c.count_above_all.ensures c.self.inside.width h.pairs (let b = mod_below c.args.tail (2 ^ c.self.inside.width) (pow_pos c.self.inside.width) in
    omega (arith, c.parts-home.ensures.remainder, x_is))
    (record {
      ascend = h.ascend;
      text = c.part-run.ensures ∙ ap (λ k. take (k - c.start-at.result) (drop c.start-at.result c.self.inside.rows.slots.items)) c.start-end.ensures
          ∙ ap (λ k. take (c.parts-home.result.0 + 1 + get_or c.self.inside.rows.spill (c.parts-home.result.0 + 1) 0 - k) (drop k c.self.inside.rows.slots.items)) c.start-at.ensures
          ∙ bounds.slice;
    })
    (held_below c.self.inside.width c.parts-home.result.1 _ c.parts-home.result.0 (built c.self.inside.added) h (omega (arith, c.self.invariant.1, c.if-x-self.true)))
    ∙ count_present _ _ _ _ _ _ _ _ _ _ c.self.invariant.0 c.args.tail c.parts-home.result.0 c.parts-home.result.1 q_is x_is h
    ∙ ap (λ (t : Contents). count_of t.pieces c.args.tail) c.self.view_is
