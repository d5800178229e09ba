use Rattle.std.proofs.Common.{◌≡◌}
use Rattle.lert_cone_tests.proofs.newest.give.Given as goal

-- the cone is the same one
abbrev pub invariant-loop-m : goal.invariant-loop-m
invariant-loop-m g l = (l.cone.listing.settings ≡ l.initial.cone.listing.settings) × (l.cone.listing.cone ≡ 0)
