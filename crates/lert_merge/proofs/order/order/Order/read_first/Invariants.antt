use Rattle.std.proofs.Common.{◌-◌, length}
use Rattle.lert_merge.proofs.order.StepLemmas.{IsReading}
use Rattle.lert_merge.proofs.order.order.Order.read_first.Given as goal

abbrev pub invariant-loop-self : goal.invariant-loop-self
invariant-loop-self g l = IsReading g.S.Streams g.C.Faulty.faults g.C.Faulty.mark l.initial.ctx l.initial.self l.ctx l.self

abbrev pub decreases-loop-self : goal.decreases-loop-self
decreases-loop-self g l = g.S.Streams.count l.self.streams - length l.self.ahead.counts
