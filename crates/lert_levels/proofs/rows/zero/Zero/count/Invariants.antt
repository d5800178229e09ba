use Rattle.lert_levels.proofs.rows.YoungCounts.{IsCounted}
use Rattle.lert_levels.proofs.rows.zero.Zero.count.Given as goal

abbrev pub invariant-loop-table : goal.invariant-loop-table
invariant-loop-table g l = IsCounted g.T.CountTable.pieces l.table-items l.tail l.table-index l.count
