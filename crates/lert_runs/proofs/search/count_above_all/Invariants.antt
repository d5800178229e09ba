use Rattle.std.proofs.Common.{length, ◌-◌, ◌≡◌, drop}
use Rattle.lert_runs.specs.Search.{count_from}
use Rattle.lert_runs.proofs.search.count_above_all.Given as goal

-- no slot before this one is x
abbrev pub invariant-loop-at : goal.invariant-loop-at
invariant-loop-at l = count_from (drop l.at l.run) l.x ≡ count_from l.run l.x

abbrev pub decreases-loop-at : goal.decreases-loop-at
decreases-loop-at l = length l.run - l.at
