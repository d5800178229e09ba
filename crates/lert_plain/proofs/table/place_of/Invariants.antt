use Rattle.std.proofs.Common.{◌-◌}
use Rattle.lert_plain.specs.Place.{IsBetween}
use Rattle.lert_plain.proofs.table.place_of.Given as goal

abbrev pub invariant-loop-low : goal.invariant-loop-low
invariant-loop-low l = IsBetween l.pieces l.tail l.low l.high

abbrev pub decreases-loop-low : goal.decreases-loop-low
decreases-loop-low l = l.high - l.low
