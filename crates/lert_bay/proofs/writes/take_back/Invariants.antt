use Rattle.std.proofs.Common.{◌≡◌, ℕ, ◌<◌, length, drop, slice_index, All}
use Rattle.lert_bay.specs.{Files.IsOutside, Pending.before_all}
use Rattle.lert_bay.proofs.writes.take_back.Given as goal

abbrev pub invariant-loop-index : goal.invariant-loop-index
invariant-loop-index l =
    (length l.bytes ≡ length l.fn.bytes)
    × ((place : ℕ) → All (λ write. IsOutside write.at (length write.old.items) place) l.writes → slice_index l.bytes place ≡ slice_index l.fn.bytes place)
    × (l.pick ≡ 0 → (place : ℕ) → place < length l.fn.bytes → slice_index l.bytes place ≡ before_all (drop l.index l.writes) place (slice_index l.fn.bytes place))
    × (l.pick ≡ 1 → l.bytes ≡ l.fn.bytes)
