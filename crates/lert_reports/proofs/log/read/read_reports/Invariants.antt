use Rattle.std.proofs.Common.{◌≡◌, ◌+◌, ◌*◌, ◌≤◌, None, length}
use Rattle.std.specs.{Prelude.flat_map, List.range_with_len}
use Rattle.lert_reports.specs.LogText.{left_at, report_fields, at_before}
use Rattle.lert_reports.proofs.log.read.read_reports.Given as goal

-- none of the fields of the reports so far is broken
abbrev pub invariant-loop-k : goal.invariant-loop-k
invariant-loop-k l =
    (left_at l.payload (flat_map (report_fields l.settings l.cone l.before l.payload) (range_with_len 0 l.k)) ≡ None)
    × (l.earlier ≡ at_before l.settings l.before l.payload l.k)
    × (l.start + 16 * l.k ≤ length l.payload)
