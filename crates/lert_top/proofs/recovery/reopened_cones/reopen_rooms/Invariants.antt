use Rattle.std.proofs.Common.{◌≡◌, ◌+◌, ◌^◌, ◌≤◌, List, ◌++◌, length}
use Rattle.std.specs.{Prelude.{All, vec_capacity}, VecDeque.deque_capacity}
use Rattle.lert_bay.specs.Kept.{Bays, seen_by}
use Rattle.lert_ingest.specs.{Bays.bays_of, Cones.IsNewRoom}
use Rattle.lert_top.specs.{recovery.Moments.AreReread, recovery.Recovered.AreOpenOver}
use Rattle.lert_top.proofs.recovery.reopened_cones.reopen_rooms.Given as goal

abbrev pub bays : (g : goal.Over) → Bays g.row.B.Denot
bays g = seen_by g.B.Faulty g.B.Bay

-- a cone over each bay so far
abbrev pub invariant-loop-number : goal.invariant-loop-number
invariant-loop-number g l = record {
  number : length l.cones.items ≡ l.number;
  rooms_left : length l.rooms.items + l.number ≡ 2 ^ l.settings.cone_bits;
  rooms : All (IsNewRoom l.settings) l.rooms.items;
  split : (front : List g.row.B.Denot) × (length front ≡ length l.cones.items) × (front ++ l.bays.items ≡ l.fn.bays.items);
  reread : AreReread (bays g) l.settings l.fn.bays.items (bays_of l.cones.items ++ l.bays.items);
  open_cones : AreOpenOver g.B.Bay.files g.B.Bay.leaves g.B.Faulty.faults l.settings l.fn.bays.items l.cones.items;
  room : deque_capacity l.bays ≡ deque_capacity l.fn.bays;
  cones_room : 2 ^ l.settings.cone_bits ≤ vec_capacity l.cones;
}
