use Rattle.std.proofs.Common.{sym, subst}
use Rattle.lert_merge.specs.order.Ordering.{Ordering, AreRead}
use Rattle.lert_merge.proofs.order.OrderLemmas.{started_stands}
use Rattle.lert_merge.proofs.order.order.Order.start.Goals as goal

pub invariant_of-self : goal.invariant_of-self
invariant_of-self g c = started_stands g.S.Streams _ _ _ _ c.self.invariant (subst (λ (m : Ordering _). AreRead g.S.Streams m) (sym c.self.view_is) c.requires)
    c.start.ensures.tails c.start.ensures.counts c.start.ensures.room
