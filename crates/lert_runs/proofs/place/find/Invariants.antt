use Rattle.std.proofs.Common.{length, ◌-◌, ℕ, List}
use Rattle.lert_runs.specs.RunText.{IsTextOf}
use Rattle.lert_runs.proofs.WalkLemmas.{Looks}
use Rattle.lert_runs.proofs.place.find.Given as goal

abbrev pub invariant-loop-start : goal.invariant-loop-start
invariant-loop-start l = (ps : List (ℕ × ℕ)) → IsTextOf l.width l.run ps → Looks l.width l.x l.start l.run ps

abbrev pub decreases-loop-start : goal.decreases-loop-start
decreases-loop-start l = length l.run - l.start
