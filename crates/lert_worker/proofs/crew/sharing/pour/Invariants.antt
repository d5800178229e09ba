use Rattle.std.proofs.Common.{◌≡◌, ◌≤◌, ◌+◌, ◌++◌, length}
use Rattle.std.specs.VecDeque.{deque_capacity}
use Rattle.lert_worker.proofs.crew.sharing.pour.Given as goal

abbrev pub invariant-loop-next : goal.invariant-loop-next
invariant-loop-next g l = record {
  items_are : l.list.items ++ l.rest.items ≡ l.initial.list.items ++ l.initial.rest.items;
  room : length l.list.items + length l.rest.items ≤ deque_capacity l.list;
}

abbrev pub decreases-loop-next : goal.decreases-loop-next
decreases-loop-next g l = length l.rest.items
