use Rattle.std.proofs.Common.{length, ◌-◌}
use Rattle.lert_io.proofs.sink.write_all.Given as goal
use Rattle.lert_io.proofs.Writing.{Wrote}

-- the first `done` bytes were appended, and no call failed
abbrev pub invariant-loop-done : goal.invariant-loop-done
invariant-loop-done g l =
    Wrote g.K.Sink.taken g.K.Faulty.faults g.K.Faulty.mark l.fn.out l.out l.bytes l.done

abbrev pub decreases-loop-done : goal.decreases-loop-done
decreases-loop-done g l = length l.bytes - l.done
