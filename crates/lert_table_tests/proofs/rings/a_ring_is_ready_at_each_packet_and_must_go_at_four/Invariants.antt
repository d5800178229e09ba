use Rattle.std.proofs.Common.{◌≡◌, length}
use Rattle.lert_buffers.specs.Rings.{ring_of}
use Rattle.lert_table_tests.proofs.rings.a_ring_is_ready_at_each_packet_and_must_go_at_four.Given as goal

abbrev pub invariant-loop-key : goal.invariant-loop-key
invariant-loop-key g l = record {
  packet : l.rings.packet ≡ 2;
  one : length l.rings.rings ≡ 1;
  keys : length (ring_of l.rings 0) ≡ l.key-index;
  pushes : length l.key-items ≡ 8;
}
