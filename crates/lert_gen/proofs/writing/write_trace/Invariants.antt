use Rattle.std.proofs.Common.{◌≤◌, ◌-◌, Ok}
use Rattle.lert_gen.specs.{Generated.{generated, trace_of}, Writing.Appends}
use Rattle.lert_gen.proofs.writing.write_trace.Given as goal

-- the trace of the events that are done was written
abbrev pub invariant-loop-done : goal.invariant-loop-done
invariant-loop-done g l = record {
  within : l.done ≤ l.events;
  written : Appends g.K.Sink.taken g.K.Faulty.faults g.K.Faulty.mark l.fn.out l.out (trace_of (generated l.seed l.done)) (Ok tt);
}

abbrev pub decreases-loop-done : goal.decreases-loop-done
decreases-loop-done g l = l.events - l.done
