use Rattle.std.proofs.Common.{◌≡◌, ◌+◌}
use Rattle.lert_levels_tests.proofs.zero.weigh.Given as goal

abbrev pub invariant-loop-n : goal.invariant-loop-n
invariant-loop-n l = record {
  settings : l.zero.settings ≡ l.fn.zero.settings;
  from : l.zero.from ≡ l.fn.zero.from;
  to : l.zero.to ≡ l.fn.last + l.n;
}
