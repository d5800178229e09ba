use Rattle.std.proofs.Common.{◌≡◌, ◌≤◌, All, length}
use Rattle.std.specs.VecDeque.{deque_capacity}
use Rattle.lert_top.specs.drills.Dealt.{new_bay}
use Rattle.lert_top.proofs.drills.made.make_bays.Given as goal

-- the bays so far were made
abbrev pub invariant-loop : goal.invariant-loop
invariant-loop l = record {
  number : length l.bays.items ≡ l.counter;
  room : l.number ≤ deque_capacity l.bays;
  each : All (λ bay. bay ≡ new_bay) l.bays.items;
}
