use Rattle.std.proofs.Common.{rules}
use Rattle.lert_merge.proofs.sums.Sums.is_of.Goals as goal

pub returns-clause-own : goal.returns-clause-own
returns-clause-own c = search rules
