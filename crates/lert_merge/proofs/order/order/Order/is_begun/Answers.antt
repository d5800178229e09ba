use Rattle.lert_merge.proofs.order.OrderLemmas.{held_each}
use Rattle.lert_merge.proofs.order.order.Order.is_begun.Goals as goal

pub returns-clause-held : goal.returns-clause-held
returns-clause-held g c = held_each g.S.Streams _ _ c.self.view_is c.self.invariant
