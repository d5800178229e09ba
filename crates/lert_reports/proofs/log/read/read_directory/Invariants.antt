use Rattle.std.proofs.Common.{◌≡◌, ◌-◌, ◌≤◌, None, length}
use Rattle.std.specs.{Prelude.flat_map, List.range_with_len}
use Rattle.lert_reports.specs.LogText.{left_at, level_fields, level_place}
use Rattle.lert_reports.proofs.log.read.read_directory.Given as goal

-- none of the fields of the levels so far is broken
abbrev pub invariant-loop-level : goal.invariant-loop-level
invariant-loop-level l =
    (1 ≤ l.level)
    × (left_at l.payload (flat_map (level_fields l.settings l.payload) (range_with_len 1 (l.level - 1))) ≡ None)
    × (l.place ≡ level_place l.settings l.n0 l.level)
    × (l.place ≤ length l.payload)
