use Rattle.std.proofs.Common.{◌≡◌, ◌≤◌, ◌++◌, length, take}
use Rattle.std.specs.VecDeque.{deque_capacity}
use Rattle.lert_args.specs.Names.{names_of}
use Rattle.lert_ingest.specs.Bays.{AreMarked}
use Rattle.lert_top.specs.cones.Asked.{traces_opened}
use Rattle.lert_top.proofs.runs.traces.open_traces.Given as goal

-- the traces so far were opened
abbrev pub invariant-loop-number : goal.invariant-loop-number
invariant-loop-number g l = record {
  opened : g.P.Place.handed_traces l.place ≡ l.opened.items;
  number : length l.opened.items ≡ l.number-index;
  room : length l.traces ≤ deque_capacity l.opened;
  marked : AreMarked g.P.Trace.Faulty.mark l.opened.items;
  asked : g.P.Place.asked l.place ≡ g.P.Place.asked l.fn.place ++ traces_opened (names_of l.words (take l.number-index l.traces));
  bays : g.P.Place.handed_bays l.place ≡ g.P.Place.handed_bays l.fn.place;
  falls : g.P.Faulty.faults l.fn.place ≤ g.P.Faulty.faults l.place;
}
