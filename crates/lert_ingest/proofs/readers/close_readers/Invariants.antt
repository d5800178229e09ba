use Rattle.std.proofs.Common.{◌≡◌, ◌≤◌, ◌+◌, ◌++◌, length}
use Rattle.std.specs.VecDeque.{deque_capacity}
use Rattle.lert_ingest.specs.Readers.{sources_of}
use Rattle.lert_ingest.proofs.readers.close_readers.Given as goal

abbrev pub invariant-loop-reader : goal.invariant-loop-reader
invariant-loop-reader g l = record {
  items_are : l.traces.items ++ sources_of l.readers.items ≡ sources_of l.initial.readers.items;
  room : length l.traces.items + length l.readers.items ≤ deque_capacity l.traces;
}

abbrev pub decreases-loop-reader : goal.decreases-loop-reader
decreases-loop-reader g l = length l.readers.items
