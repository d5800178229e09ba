-- What is printed of cones by a drill.
use Rattle.std.specs.Prelude.{ℕ, List, map}
use Rattle.lert_cone.specs.Stands.{Standing}
use Rattle.lert_spec.specs.declared.report.Report.{Report}
use Rattle.lert_text.specs.Drill.{Drilled}

-- the keys of reports
abbrev pub keys_of : List Report → List ℕ
keys_of reports = map (λ report. report.key) reports

-- the events of a cone, and the keys that it reports
abbrev pub drilled_as : {B : Type 0} → Standing B → Drilled
drilled_as cone = record { events = cone.events; keys = keys_of cone.reports }
