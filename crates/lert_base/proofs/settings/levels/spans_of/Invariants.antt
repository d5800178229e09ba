use Rattle.std.proofs.Common.{ℕ, ◌≡◌, ◌<◌, length, get_or}
use Rattle.lert_spec.specs.Edges.{span}
use Rattle.lert_base.proofs.settings.levels.spans_of.Given as goal

abbrev pub invariant-loop-level : goal.invariant-loop-level
invariant-loop-level l = (length l.spans ≡ 9) × ((k : ℕ) → k < l.level → get_or l.spans k 0 ≡ span l.numbers k)
