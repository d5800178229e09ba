use Rattle.std.proofs.Common.{◌≡◌, ℕ, ◌<◌, ◌≤◌, List, ◌++◌, length, slice_get}
use Rattle.lert_top.proofs.cones.bays.put_back_bays.Given as goal

-- those behind the bays that are left were put back
abbrev pub invariant-loop-bay : goal.invariant-loop-bay
invariant-loop-bay g l = record {
  split : (done : List g.row.P-Bay.Denot) × (l.bays.items ++ done ≡ l.fn.bays.items);
  returned : (cone : ℕ) → length l.bays.items ≤ cone → cone < length l.fn.bays.items → g.P.Place.returned_bay l.place cone ≡ slice_get l.fn.bays.items cone;
  returned_traces : (number : ℕ) → g.P.Place.returned_trace l.place number ≡ g.P.Place.returned_trace l.fn.place number;
  asked : g.P.Place.asked l.place ≡ g.P.Place.asked l.fn.place;
  traces : g.P.Place.handed_traces l.place ≡ g.P.Place.handed_traces l.fn.place;
  bays : g.P.Place.handed_bays l.place ≡ g.P.Place.handed_bays l.fn.place;
  faults : g.P.Faulty.faults l.place ≡ g.P.Faulty.faults l.fn.place;
}

abbrev pub decreases-loop-bay : goal.decreases-loop-bay
decreases-loop-bay g l = length l.bays.items
