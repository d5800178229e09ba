use Rattle.lert_levels.{proofs.flush.BoundLaws.left_over, proofs.flush.MergingLaws.IsMerging}
use Rattle.lert_bay.specs.Kept.{seen_by}
use Rattle.lert_levels.proofs.flush.merge.merge_bins.Given as goal

-- what was taken so far
abbrev pub invariant-loop-next : goal.invariant-loop-next
invariant-loop-next g l = IsMerging g.S.Streams g.O.Totals.took (seen_by g.B.Faulty g.B.Bay) g.S.Bins.sure l.fn.parts l.fn.order l.fn.bay l.fn.landings l.order l.bay l.landings l.totals l.sum

-- each piece leaves less room
abbrev pub decreases-loop-next : goal.decreases-loop-next
decreases-loop-next g l = left_over g.S.Streams g.S.Bins.version g.S.Bins.width l.order
