use Rattle.std.proofs.Common.{◌≡◌, ℕ, ◌<◌, ◌≤◌, List, ◌++◌, length, slice_get}
use Rattle.lert_top.proofs.runs.traces.put_back_traces.Given as goal

-- those behind the traces that are left were put back
abbrev pub invariant-loop-trace : goal.invariant-loop-trace
invariant-loop-trace g l = record {
  split : (done : List g.row.P-Trace.Denot) × (l.traces.items ++ done ≡ l.fn.traces.items);
  returned : (trace : ℕ) → length l.traces.items ≤ trace → trace < length l.fn.traces.items → g.P.Place.returned_trace l.place trace ≡ slice_get l.fn.traces.items trace;
  returned_bays : (number : ℕ) → g.P.Place.returned_bay l.place number ≡ g.P.Place.returned_bay l.fn.place number;
  asked : g.P.Place.asked l.place ≡ g.P.Place.asked l.fn.place;
  traces : g.P.Place.handed_traces l.place ≡ g.P.Place.handed_traces l.fn.place;
  bays : g.P.Place.handed_bays l.place ≡ g.P.Place.handed_bays l.fn.place;
  faults : g.P.Faulty.faults l.place ≡ g.P.Faulty.faults l.fn.place;
}

abbrev pub decreases-loop-trace : goal.decreases-loop-trace
decreases-loop-trace g l = length l.traces.items
