use Rattle.std.proofs.Common.{◌≡◌}
use Rattle.lert_cone_tests.proofs.cones.give_all.Given as goal

-- the cone is the same one
abbrev pub invariant-loop-key : goal.invariant-loop-key
invariant-loop-key g l = (l.cone.listing.settings ≡ l.settings) × (l.cone.listing.cone ≡ 0)
