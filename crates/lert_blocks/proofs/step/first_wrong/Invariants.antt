use Rattle.std.proofs.Common.{ℕ, ◌^◌, ◌<◌, get_or}
use Rattle.lert_blocks.proofs.step.first_wrong.Given as goal

abbrev pub invariant-loop-place : goal.invariant-loop-place
invariant-loop-place l = (k : ℕ) → k < l.place → get_or l.slots k 0 < 2 ^ l.width
