use Rattle.std.proofs.Common.{◌≡◌, ◌≤◌, length, map, take}
use Rattle.std.specs.VecDeque.{deque_capacity}
use Rattle.lert_top.proofs.drills.made.make_sources.Given as goal

-- the sources so far have the bytes of the first traces
abbrev pub invariant-loop-trace : goal.invariant-loop-trace
invariant-loop-trace l = record {
  room : length l.trace-items ≤ deque_capacity l.sources;
  number : length l.sources.items ≡ l.trace-index;
  bytes : l.sources.items ≡ map (λ bytes. bytes.items) (take l.trace-index l.trace-items);
}
