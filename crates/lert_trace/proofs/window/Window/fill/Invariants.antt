use Rattle.std.proofs.Common.{◌≡◌, ◌-◌, ◌≤◌, length}
use Rattle.lert_trace.specs.Window.{StillAhead}
use Rattle.lert_trace.proofs.window.Window.fill.Given as goal

-- what is still to come is the same, and the count of faults did not fall
abbrev pub invariant-loop-self : goal.invariant-loop-self
invariant-loop-self g l = record {
  ahead : StillAhead (g.S.Source.remaining l.fn.self.source) (g.S.Source.remaining l.self.source) l.fn.self.pending l.self.pending;
  falls : g.S.Faulty.faults l.fn.self.source ≤ g.S.Faulty.faults l.self.source;
  marked : g.S.Faulty.mark l.self.source ≡ g.S.Faulty.mark l.fn.self.source;
}

abbrev pub decreases-loop-self : goal.decreases-loop-self
decreases-loop-self g l = l.count - length l.self.pending
