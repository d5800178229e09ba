use Rattle.std.proofs.Common.{◌≡◌, ◌≤◌, ◌+◌, ◌++◌, length}
use Rattle.std.specs.VecDeque.{deque_capacity}
use Rattle.lert_ingest.specs.Readers.{fresh_readers}
use Rattle.lert_ingest.proofs.readers.open_readers.Given as goal

abbrev pub invariant-loop-source : goal.invariant-loop-source
invariant-loop-source g l = record {
  items_are : l.readers.items ++ fresh_readers l.traces.items ≡ fresh_readers l.initial.traces.items;
  room : length l.readers.items + length l.traces.items ≤ deque_capacity l.readers;
  capacity : deque_capacity l.traces ≡ deque_capacity l.initial.traces;
}

abbrev pub decreases-loop-source : goal.decreases-loop-source
decreases-loop-source g l = length l.traces.items
