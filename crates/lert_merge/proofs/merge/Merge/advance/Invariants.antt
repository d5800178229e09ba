use Rattle.std.proofs.Common.{◌-◌, length}
use Rattle.lert_merge.proofs.NextLemmas.{IsTurning}
use Rattle.lert_merge.proofs.merge.Merge.advance.Given as goal

abbrev pub invariant-loop-piece : goal.invariant-loop-piece
invariant-loop-piece g l = IsTurning g.S.Streams g.C.Faulty.faults g.C.Faulty.mark l.initial.ctx l.initial.self l.ctx l.self

abbrev pub decreases-loop-piece : goal.decreases-loop-piece
decreases-loop-piece g l = g.S.Streams.count l.self.order.streams - length l.self.sums.taken
