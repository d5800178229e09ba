use Rattle.std.proofs.Common.{◌≡◌, [], replicate}
use Rattle.lert_levels.proofs.rows.rows.empty_rows.Given as goal

abbrev pub invariant-loop : goal.invariant-loop
invariant-loop l = l.rows.items ≡ replicate l.counter []
