use Rattle.std.proofs.Common.{rules}
use Rattle.lert_merge.proofs.order.order.Order.new.Goals as goal

pub invariant_of-result : goal.invariant_of-result
invariant_of-result g c = search rules

pub returns-clause-tails : goal.returns-clause-tails
returns-clause-tails g c = search rules

pub returns-clause-counts : goal.returns-clause-counts
returns-clause-counts g c = search rules
