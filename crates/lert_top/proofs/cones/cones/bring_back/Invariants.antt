use Rattle.std.proofs.Common.{◌≡◌, ◌++◌, length}
use Rattle.std.specs.VecDeque.{deque_capacity}
use Rattle.lert_ingest.specs.Bays.{bays_of}
use Rattle.lert_top.proofs.cones.cones.bring_back.Given as goal

-- the bays of the cones that are left stand before those in the list
abbrev pub invariant-loop-cone : goal.invariant-loop-cone
invariant-loop-cone g l = record {
  bays : bays_of l.cones.items ++ l.bays.items ≡ bays_of l.fn.cones.items ++ l.fn.bays.items;
  room : deque_capacity l.bays ≡ deque_capacity l.fn.bays;
}

abbrev pub decreases-loop-cone : goal.decreases-loop-cone
decreases-loop-cone g l = length l.cones.items
