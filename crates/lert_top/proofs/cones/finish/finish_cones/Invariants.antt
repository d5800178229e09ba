use Rattle.lert_top.specs.cones.Finish.{AreFinishedTo}
use Rattle.lert_top.proofs.cones.finish.finish_cones.Given as goal

-- the cones so far are finished
abbrev pub invariant-loop-number : goal.invariant-loop-number
invariant-loop-number g l = AreFinishedTo g.B.Bay.files g.B.Bay.leaves g.B.Faulty.faults g.B.Faulty.mark l.number l.number l.fn.cones.items l.cones.items
