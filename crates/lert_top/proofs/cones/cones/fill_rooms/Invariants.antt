use Rattle.std.proofs.Common.{◌≡◌, ◌+◌, ◌^◌, ◌≤◌, List, ◌++◌, length}
use Rattle.std.specs.{Prelude.{All, vec_capacity}, VecDeque.deque_capacity}
use Rattle.lert_ingest.specs.{Bays.{AreLater, AreUnused, bays_of}, Cones.{AreNew, IsNewRoom}}
use Rattle.lert_top.proofs.cones.cones.fill_rooms.Given as goal

-- a cone over each bay so far
abbrev pub invariant-loop-number : goal.invariant-loop-number
invariant-loop-number g l = record {
  number : length l.cones.items ≡ l.number;
  rooms_left : length l.rooms.items + l.number ≡ 2 ^ l.settings.cone_bits;
  rooms : All (IsNewRoom l.settings) l.rooms.items;
  split : (front : List g.row.B.Denot) × (length front ≡ length l.cones.items) × (front ++ l.bays.items ≡ l.fn.bays.items);
  later : AreLater g.B.Bay.files g.B.Faulty.faults g.B.Faulty.mark l.fn.bays.items (bays_of l.cones.items ++ l.bays.items);
  unused : AreUnused g.B.Bay.files l.settings l.fn.bays.items (bays_of l.cones.items ++ l.bays.items);
  new_cones : AreNew g.B.Bay.files g.B.Bay.leaves g.B.Faulty.faults l.settings l.cones.items;
  room : deque_capacity l.bays ≡ deque_capacity l.fn.bays;
  cones_room : 2 ^ l.settings.cone_bits ≤ vec_capacity l.cones;
}
