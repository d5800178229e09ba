use Rattle.lert_bay.proofs.Crashing.{LeftBelow}
use Rattle.lert_bay.proofs.mem_bay.MemBay.crashed.Given as goal

abbrev pub invariant-loop-file : goal.invariant-loop-file
invariant-loop-file l = LeftBelow l.pick l.file-index l.initial.file-items l.file-items
