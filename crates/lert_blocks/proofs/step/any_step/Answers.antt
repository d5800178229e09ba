use Rattle.std.proofs.Common.{arith, sym}
use Rattle.lert_blocks.proofs.SlotLaws.{read_within, step_is, left_within, left_is}
use Rattle.lert_blocks.proofs.step.any_step.Goals as goal

pub overflow_add-at-in-Ok : goal.overflow_add-at-in-Ok
overflow_add-at-in-Ok c =
    let within = read_within c.args.width c.args.least c.args.at c.reach_at-count.result c.min-end.result c.args.slots c.reach_at-count.ensures c.requires.there c.min-end.ensures c.in-Ok.group
    (sym c.in-Ok.ensures) in
    omega arith

pub overflow_sub-at : goal.overflow_sub-at
overflow_sub-at c =
    let within = read_within c.args.width c.args.least c.args.at c.reach_at-count.result c.min-end.result c.args.slots c.reach_at-count.ensures c.requires.there c.min-end.ensures c.in-Ok.group
    (sym c.in-Ok.ensures) in
    omega arith

pub is_run_end-requires-clause-near : goal.is_run_end-requires-clause-near
is_run_end-requires-clause-near c =
    let within = read_within c.args.width c.args.least c.args.at c.reach_at-count.result c.min-end.result c.args.slots c.reach_at-count.ensures c.requires.there c.min-end.ensures c.in-Ok.group
    (sym c.in-Ok.ensures) in
    omega arith

pub is_run_end-requires-clause-within : goal.is_run_end-requires-clause-within
is_run_end-requires-clause-within c =
    let within = read_within c.args.width c.args.least c.args.at c.reach_at-count.result c.min-end.result c.args.slots c.reach_at-count.ensures c.requires.there c.min-end.ensures c.in-Ok.group
    (sym c.in-Ok.ensures) in
    omega arith

pub overflow_add-result : goal.overflow_add-result
overflow_add-result c =
    let within = left_within c.args.width c.args.least c.args.at c.reach_at-count.result c.min-end.result c.args.slots c.reach_at-count.ensures c.requires.there c.min-end.ensures c.in-Err.place
    (sym c.in-Err.ensures) in
    omega arith

pub returns-in-Ok : goal.returns-in-Ok
returns-in-Ok c =
    step_is c.args.width c.args.least c.args.at c.reach_at-count.result c.min-end.result c.args.slots c.reach_at-count.ensures c.requires.there c.min-end.ensures c.in-Ok.group c.is_run_end.result
    (sym c.in-Ok.ensures) c.requires.word c.is_run_end.ensures

pub returns-in-Err : goal.returns-in-Err
returns-in-Err c =
    left_is c.args.width c.args.least c.args.at c.reach_at-count.result c.min-end.result c.args.slots c.reach_at-count.ensures c.requires.there c.min-end.ensures c.in-Err.place (sym c.in-Err.ensures)
    c.requires.word
