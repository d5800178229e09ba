-- What a cone in memory is seen as, and its reports.
use Rattle.std.specs.Prelude.{ℕ, Bool, List, if◌then◌else◌}
use Rattle.lert_spec.specs.{Counts.weighed, declared.item.Item.Item, declared.numbers.Numbers.Numbers, declared.report.Report.Report, Look.{look_of, closing_of}}

-- a cone: its settings, the version of its files, its number, the items that it took, and whether it is finished
pub record Listing : Type 0 where
  pub settings : Numbers
  pub version : ℕ
  pub cone : ℕ
  pub events : List Item
  pub closed : Bool

-- the reports that the definition makes of its items
abbrev pub reports_of : Listing → List Report
reports_of cone = if cone.closed then closing_of weighed cone.settings cone.events else look_of weighed cone.settings cone.events
