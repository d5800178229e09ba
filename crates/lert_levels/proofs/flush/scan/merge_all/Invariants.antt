use Rattle.std.proofs.Common.{List}
use Rattle.lert_bay.specs.Kept.{OnlyReads, seen_by}
use Rattle.lert_spec.specs.declared.piece.Piece.{Piece}
use Rattle.lert_levels.{proofs.flush.BoundLaws.left_over, proofs.flush.GatheringLaws.IsGathering}
use Rattle.lert_levels.proofs.flush.scan.merge_all.Given as goal

-- what the totals took so far, and nothing was changed
abbrev pub invariant-loop-next : goal.invariant-loop-next
invariant-loop-next g l = record {
  lists : List (List Piece);
  gathering : IsGathering g.S.Streams g.O.Totals.took l.fn.order l.fn.bay lists l.order l.bay l.totals l.sum;
  read : OnlyReads (seen_by g.B.Faulty g.B.Bay) l.fn.bay l.bay ⊥;
}

-- each piece leaves less room
abbrev pub decreases-loop-next : goal.decreases-loop-next
decreases-loop-next g l = left_over g.S.Streams g.S.Bins.version g.S.Bins.width l.order
