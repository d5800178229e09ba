use Rattle.std.proofs.Common.{◌≡◌}
use Rattle.std.specs.VecDeque.{deque_capacity}
use Rattle.lert_worker.specs.crew.Sharing.{ArePartTaken}
use Rattle.lert_worker.proofs.crew.sharing.take_readers.Given as goal

abbrev pub invariant-loop-trace : goal.invariant-loop-trace
invariant-loop-trace g l = record {
  part : ArePartTaken l.trace l.initial.crew l.crew l.readers.items;
  capacity : deque_capacity l.readers ≡ deque_capacity l.initial.readers;
}
