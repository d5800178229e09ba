-- The reports of a cone that is reopened.
use Rattle.std.specs.Prelude.{Bool, List, if◌then◌else◌}
use Rattle.lert_base.specs.Packet.{Packet, events_of}
use Rattle.lert_spec.specs.{Counts.weighed, declared.numbers.Numbers.Numbers, declared.report.Report.Report, Look.{closing_of, look_of}}

-- those of a list of packets: the ones that stand at the end where its log is closed, and else the ones that are made while events
-- come
abbrev pub reports_for : Numbers → List Packet → Bool → List Report
reports_for s history closed = if closed then closing_of weighed s (events_of history) else look_of weighed s (events_of history)
