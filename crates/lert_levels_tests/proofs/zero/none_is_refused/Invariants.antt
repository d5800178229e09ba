use Rattle.std.proofs.Common.{◌≡◌, ◌+◌, ◌*◌, ◌≤◌}
use Rattle.lert_levels_tests.proofs.zero.none_is_refused.Given as goal

abbrev pub invariant-loop-bin : goal.invariant-loop-bin
invariant-loop-bin l = record {
  settings : l.zero.settings ≡ l.fn.zero.settings;
  from : l.zero.from + 8 ≡ 4 * l.bin;
  to : l.zero.to ≡ 4 * l.bin;
  least : 2 ≤ l.bin;
}
