use Rattle.std.proofs.Common.{◌≡◌, length}
use Rattle.lert_levels.specs.landing.Landings.{AreOfLevels}
use Rattle.lert_levels.proofs.merger.landings_of.Given as goal

abbrev pub invariant-loop-lower : goal.invariant-loop-lower
invariant-loop-lower l = record {
  len : length l.landings.items ≡ l.lower;
  each : AreOfLevels l.settings l.landings.items;
}
