use Rattle.std.proofs.Common.{rules}
use Rattle.lert_merge.proofs.sums.Sums.give.Goals as goal

pub returns : goal.returns
returns c = search rules
