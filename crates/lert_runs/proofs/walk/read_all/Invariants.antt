use Rattle.std.proofs.Common.{length, ◌-◌, ◌^◌, ◌<◌, ℕ, List}
use Rattle.lert_runs.specs.RunText.{IsTextOf}
use Rattle.lert_runs.proofs.{ReadLemmas.ReadUpTo, WalkLemmas.Stands}
use Rattle.lert_runs.proofs.walk.read_all.Given as goal

abbrev pub invariant-loop-at : goal.invariant-loop-at
invariant-loop-at l = record {
  read : ReadUpTo l.width l.at l.last l.run;
  small : l.last < 2 ^ l.width;
  of_text : (ps : List (ℕ × ℕ)) → IsTextOf l.width l.run ps → (s : Stands l.width l.at l.run ps) × (0 < l.at → l.last < s.least);
}

abbrev pub decreases-loop-at : goal.decreases-loop-at
decreases-loop-at l = length l.run - l.at
