use Rattle.std.proofs.Common.{rules}
use Rattle.lert_levels.proofs.rows.rows.arrival.Goals as goal

pub returns : goal.returns
returns c = search rules
