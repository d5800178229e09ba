use Rattle.std.proofs.Common.{◌≡◌, ◌+◌, ◌-◌, ◌^◌, ◌≤◌}
use Rattle.lert_table_tests.proofs.filter.add_drawn.Given as goal

abbrev pub invariant-loop-draw : goal.invariant-loop-draw
invariant-loop-draw g l = record {
  room : g.T.CountTable.adds l.table + (l.n - l.draw) ≤ g.T.CountTable.room l.table;
  limit : l.limit ≡ 2 ^ (g.T.CountTable.quotient_bits l.table + g.T.CountTable.width l.table);
}
