use Rattle.std.proofs.Common.{◌≡◌, ℕ, ◌≤◌, slice_get}
use Rattle.std.specs.VecDeque.{deque_capacity}
use Rattle.lert_ingest.specs.Bays.{AreFreshBelow, AreKept, AreLater}
use Rattle.lert_top.proofs.cones.bays.find_stale.Given as goal

-- the files of the bays so far are empty, and the others are as they were
abbrev pub invariant-loop-cone : goal.invariant-loop-cone
invariant-loop-cone g l = record {
  room : deque_capacity l.bays ≡ deque_capacity l.fn.bays;
  later : AreLater g.B.Bay.files g.B.Faulty.faults g.B.Faulty.mark l.fn.bays.items l.bays.items;
  kept : AreKept g.B.Bay.files l.fn.bays.items l.bays.items;
  rest : (other : ℕ) → l.cone ≤ other → slice_get l.bays.items other ≡ slice_get l.fn.bays.items other;
  fresh : AreFreshBelow g.B.Bay.files l.fn.bays.items l.cone;
  fresh_now : AreFreshBelow g.B.Bay.files l.bays.items l.cone;
}
