use Rattle.lert_levels.proofs.rows.YoungLaws.{AreEmpty}
use Rattle.lert_levels.proofs.rows.zero.Zero.new.Given as goal

abbrev pub invariant-loop : goal.invariant-loop
invariant-loop g l = AreEmpty g.T.CountTable l.settings l.tables.items l.counter
