use Rattle.std.proofs.Common.{◌+◌, Ok, Err, rules, subst, sym}
use Rattle.lert_gen.specs.{Generated.{generated, trace_of}, Writing.Appends}
use Rattle.lert_gen.proofs.Blocks.{Appends-behind, keys_text, on_err, part_of_trace, trace-split}
use Rattle.lert_gen.proofs.writing.write_trace.Goals as goal

pub returns-in_err-write_block-clause-part : goal.returns-in_err-write_block-clause-part
returns-in_err-write_block-clause-part g c before was =
    on_err c.from_residual.result
    (part_of_trace g.K.Sink.taken g.K.Faulty.faults g.K.Faulty.mark c.args.out.now c.write_block.new.out c.args.seed c.min-done.result c.args.events
    c.in_err-write_block.field-0.0 (search rules) (search rules) before was)

pub returns-in_err-write_block-2-clause-part : goal.returns-in_err-write_block-2-clause-part
returns-in_err-write_block-2-clause-part g c before was =
    let done = c.loop-done.done in
    let count = c.min-count.result in
    on_err c.from_residual-in_err-write_block-2.result
    (part_of_trace g.K.Sink.taken g.K.Faulty.faults g.K.Faulty.mark c.args.out.now c.write_block-in-loop-done.new.out c.args.seed (done + count) c.args.events
    c.in_err-write_block-2.field-0.0 (search rules)
    (subst (λ text. Appends g.K.Sink.taken g.K.Faulty.faults g.K.Faulty.mark c.args.out.now c.write_block-in-loop-done.new.out text (Err c.in_err-write_block-2.field-0.0))
    (sym (trace-split c.args.seed done count))
    (Appends-behind g.K.Sink.taken g.K.Faulty.faults g.K.Faulty.mark c.args.out.now c.loop-done.out c.write_block-in-loop-done.new.out (trace_of (generated c.args.seed done))
    (keys_text c.args.seed done count) (Err c.in_err-write_block-2.field-0.0) c.loop-done.invariant.written c.in_err-write_block-2.ensures)) before was)

pub loop-done-preserved : goal.loop-done-preserved
loop-done-preserved g c =
    let done = c.loop-done.done in
    let count = c.min-count.result in
    record {
      within = search rules;
      written =
          subst (λ text. Appends g.K.Sink.taken g.K.Faulty.faults g.K.Faulty.mark c.args.out.now c.write_block-in-loop-done.new.out text (Ok tt))
          (sym (trace-split c.args.seed done count))
          (Appends-behind g.K.Sink.taken g.K.Faulty.faults g.K.Faulty.mark c.args.out.now c.loop-done.out c.write_block-in-loop-done.new.out (trace_of (generated c.args.seed done))
          (keys_text c.args.seed done count) (Ok tt) c.loop-done.invariant.written c.in_ok-write_block-2.ensures);
    }
