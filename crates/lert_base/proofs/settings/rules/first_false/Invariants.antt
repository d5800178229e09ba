use Rattle.std.proofs.Common.{◌≡◌, ◌+◌, drop, not}
use Rattle.std.specs.List.{position_from}
use Rattle.lert_base.proofs.settings.rules.first_false.Given as goal

abbrev pub invariant-loop-place : goal.invariant-loop-place
invariant-loop-place l = position_from not l.first l.kept ≡ position_from not (l.first + l.place) (drop l.place l.kept)
