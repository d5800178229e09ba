use Rattle.std.proofs.Common.{◌≡◌, ◌++◌, map, take, drop}
use Rattle.lert_levels.specs.bound.Bytes.{turned}
use Rattle.lert_levels.proofs.bound.bound.turn_all.Given as goal

abbrev pub invariant-loop-pair : goal.invariant-loop-pair
invariant-loop-pair l = l.pairs ≡ map turned (take l.pair-index l.initial.pairs) ++ drop l.pair-index l.initial.pairs
