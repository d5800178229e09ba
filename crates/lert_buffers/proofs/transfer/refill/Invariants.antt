use Rattle.std.proofs.Common.{◌≡◌, ◌++◌, take}
use Rattle.circular_buffer.specs.Buffer.{buffer}
use Rattle.lert_buffers.proofs.transfer.refill.Given as goal

abbrev pub invariant-loop-place : goal.invariant-loop-place
invariant-loop-place l = record {
  moved : l.ring ≡ buffer (l.fn.ring.items ++ take l.place l.fn.keys.items) l.fn.ring.capacity;
}
