use Rattle.std.proofs.Common.{ℕ, ◌≡◌, ◌<◌, length, get_or}
use Rattle.lert_spec.specs.Edges.{offset}
use Rattle.lert_base.specs.Computed.{sum_below}
use Rattle.lert_base.proofs.settings.levels.offsets_of.Given as goal

abbrev pub invariant-loop-level : goal.invariant-loop-level
invariant-loop-level l =
    (length l.offsets ≡ 9) × (l.sum ≡ sum_below l.numbers l.level) × ((k : ℕ) → k < l.level → get_or l.offsets k 0 ≡ offset l.numbers k)
