use Rattle.std.proofs.Common.{◌≡◌, ◌+◌}
use Rattle.lert_levels_tests.proofs.samples.fill_with.Given as goal

abbrev pub invariant-loop-tail : goal.invariant-loop-tail
invariant-loop-tail l = record {
  settings : l.zero.settings ≡ l.fn.zero.settings;
  from : l.zero.from ≡ l.fn.zero.from;
  to : l.zero.to ≡ l.m;
  last : l.m ≡ l.fn.last + l.tail-index;
}
