use Rattle.std.proofs.Common.{ℕ, ◌^◌, ◌<◌, get_or}
use Rattle.lert_blocks.proofs.step.are_narrow.Given as goal

abbrev pub invariant-loop-slot : goal.invariant-loop-slot
invariant-loop-slot l = l.union < 2 ^ l.width → (k : ℕ) → k < l.slot-index → get_or l.slots k 0 < 2 ^ l.width
