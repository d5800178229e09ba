use Rattle.std.proofs.Common.{◌≡◌, ◌+◌, ◌*◌, ◌++◌, take}
use Rattle.std.specs.Prelude.{flat_map}
use Rattle.lert_reports.specs.LogText.{report_bytes}
use Rattle.lert_reports.proofs.log.put_reports.Given as goal

-- the reports so far stand behind the first bytes
abbrev pub invariant-loop-report : goal.invariant-loop-report
invariant-loop-report l =
    (l.place ≡ l.start + 16 * l.report-index)
    × (take l.place l.into ≡ take l.start l.initial.into ++ flat_map report_bytes (take l.report-index l.reports))
