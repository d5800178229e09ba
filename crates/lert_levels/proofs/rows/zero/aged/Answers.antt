use Rattle.std.proofs.Common.{rules}
use Rattle.lert_levels.proofs.rows.zero.aged.Goals as goal

pub returns-clause-some : goal.returns-clause-some
returns-clause-some c = search rules
