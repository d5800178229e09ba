use Rattle.std.proofs.Common.{◌≡◌, ◌++◌, length}
use Rattle.lert_census.specs.Census.{lines_of}
use Rattle.lert_census_tests.proofs.regions.lines_of.Given as goal

-- behind the lines so far stand those that are still to come
abbrev pub invariant-loop-line : goal.invariant-loop-line
invariant-loop-line g l = record {
  same : l.cursor.region ≡ l.region;
  all : l.lines.items ++ l.cursor.left ≡ lines_of l.region;
}

abbrev pub decreases-loop-line : goal.decreases-loop-line
decreases-loop-line g l = length l.cursor.left
