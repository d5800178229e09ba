use Rattle.std.proofs.Common.{◌≡◌}
use Rattle.lert_cone_tests.proofs.records.check_ended.Given as goal

-- the cone is the same one
abbrev pub invariant-loop-packet : goal.invariant-loop-packet
invariant-loop-packet g l = (l.cone.listing.settings ≡ l.settings) × (l.cone.listing.cone ≡ 0)
