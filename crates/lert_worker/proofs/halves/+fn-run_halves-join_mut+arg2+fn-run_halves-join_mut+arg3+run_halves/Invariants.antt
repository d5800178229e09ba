use Rattle.std.proofs.Common.{length}
use Rattle.lert_worker.proofs.halves.+fn-run_halves-join_mut+arg2+fn-run_halves-join_mut+arg3+run_halves.Given as goal

abbrev pub decreases-join_mut+arg2 : goal.decreases-join_mut+arg2
decreases-join_mut+arg2 g l = length l.front.now

abbrev pub decreases-join_mut+arg3 : goal.decreases-join_mut+arg3
decreases-join_mut+arg3 g l = length l.back.now

abbrev pub decreases-run_halves : goal.decreases-run_halves
decreases-run_halves g l = length l.works.now
