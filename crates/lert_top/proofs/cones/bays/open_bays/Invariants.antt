use Rattle.std.proofs.Common.{◌≡◌, ◌≤◌, ◌++◌, length}
use Rattle.std.specs.VecDeque.{deque_capacity}
use Rattle.lert_place.specs.Openings.{bays_opened}
use Rattle.lert_ingest.specs.Bays.{AreMarked}
use Rattle.lert_top.proofs.cones.bays.open_bays.Given as goal

-- the bays so far were opened
abbrev pub invariant-loop-cone : goal.invariant-loop-cone
invariant-loop-cone g l = record {
  opened : g.P.Place.handed_bays l.place ≡ l.bays.items;
  number : length l.bays.items ≡ l.cone;
  room : l.cones ≤ deque_capacity l.bays;
  marked : AreMarked g.P.Bay.Faulty.mark l.bays.items;
  asked : g.P.Place.asked l.place ≡ g.P.Place.asked l.fn.place ++ bays_opened l.dir l.cone;
  traces : g.P.Place.handed_traces l.place ≡ g.P.Place.handed_traces l.fn.place;
  falls : g.P.Faulty.faults l.fn.place ≤ g.P.Faulty.faults l.place;
}
