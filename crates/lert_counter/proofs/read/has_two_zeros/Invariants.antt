use Rattle.std.proofs.Common.{◌≡◌, ◌+◌, ◌<◌, ℕ, get_or}
use Rattle.lert_counter.proofs.read.has_two_zeros.Given as goal

abbrev pub invariant-loop-i : goal.invariant-loop-i
invariant-loop-i l = (k : ℕ) → k + 1 < l.i → get_or l.slots k 0 ≡ 0 → get_or l.slots (k + 1) 0 ≡ 0 → ⊥
