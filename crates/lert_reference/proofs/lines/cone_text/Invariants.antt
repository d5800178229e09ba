use Rattle.std.proofs.Common.{◌≡◌, ◌++◌, length, take}
use Rattle.std.specs.{List.flat_map, String.string_bytes}
use Rattle.lert_spec.specs.Lines.{cone_line, report_line}
use Rattle.lert_reference.proofs.lines.cone_text.Given as goal

abbrev pub invariant-loop-report : goal.invariant-loop-report
invariant-loop-report l =
    string_bytes l.text
    ≡ cone_line l.cone l.printed.events (length l.printed.reports) l.printed.closed ++ flat_map report_line (take l.report-index l.printed.reports)
