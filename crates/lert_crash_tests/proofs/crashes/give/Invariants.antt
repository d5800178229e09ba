use Rattle.std.proofs.Common.{◌≡◌}
use Rattle.lert_crash_tests.proofs.crashes.give.Given as goal

-- the cone is the same one
abbrev pub invariant-loop-at : goal.invariant-loop-at
invariant-loop-at g l = (l.cone.listing.settings ≡ l.initial.cone.listing.settings) × (l.cone.listing.cone ≡ 0)
