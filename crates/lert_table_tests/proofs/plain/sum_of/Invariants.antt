use Rattle.std.proofs.Common.{◌≡◌, ◌+◌, length}
use Rattle.lert_spec.specs.Table.{total}
use Rattle.lert_table_tests.proofs.plain.sum_of.Given as goal

abbrev pub invariant-loop-piece : goal.invariant-loop-piece
invariant-loop-piece g l =
    g.T.CountTable.stands l.table l.cursor × (l.sum + total (g.T.CountTable.left l.table l.cursor) ≡ total (g.T.CountTable.pieces l.table))

abbrev pub decreases-loop-piece : goal.decreases-loop-piece
decreases-loop-piece g l = length (g.T.CountTable.left l.table l.cursor)
