use Rattle.std.proofs.Common.{◌≡◌, ◌+◌, ◌-◌, ◌^◌, ◌<◌, ◌≤◌}
use Rattle.lert_table_tests.proofs.filter.add_times.Given as goal

abbrev pub invariant-loop : goal.invariant-loop
invariant-loop l = record {
  room : l.table.adds + (l.times - l.counter) ≤ l.table.room;
  below : l.tail < 2 ^ (l.table.quotient_bits + l.table.width);
}
