use Rattle.std.proofs.Common.{ℕ, ◌-◌, ◌^◌, ◌<◌, ◌≤◌}
use Rattle.lert_census.proofs.region.quotient_bits.Given as goal

-- fewer bits give too few quotients
abbrev pub invariant-loop-bits : goal.invariant-loop-bits
invariant-loop-bits l = record { least : 6 ≤ l.bits; most : l.bits ≤ 22; short : (fewer : ℕ) → fewer < l.bits → 6 ≤ fewer → 2 ^ fewer < l.room }

abbrev pub decreases-loop-bits : goal.decreases-loop-bits
decreases-loop-bits l = 22 - l.bits
