-- The printed text. Numbers are decimal, and each line ends with byte 10.
use Rattle.std.specs.Prelude.{ℕ, suc, Bool, sum_by, flat_map, List, [], ◌∷◌, ◌++◌, length, codes, decimal, if◌then◌else◌}
use Rattle.lert_spec.specs.declared.report.Report.{Report}

-- what is printed of a cone: how many events it has, its reports in their order, and whether it is closed
pub record Printed : Type 0 where
  pub events : ℕ
  pub reports : List Report
  pub closed : Bool

abbrev pub cone_line : ℕ → ℕ → ℕ → Bool → List ℕ
cone_line cone events reports closed =
    codes "cone " ++ decimal cone ++ codes " events " ++ decimal events ++ codes " reports " ++ decimal reports
    ++ (if closed then codes " closed\n" else codes " open\n")

abbrev pub report_line : Report → List ℕ
report_line report = decimal report.key ++ codes " " ++ decimal report.at ++ codes "\n"

abbrev pub total_line : ℕ → ℕ → List ℕ
total_line events reports =
    codes "total events " ++ decimal events ++ codes " reports " ++ decimal reports ++ codes "\n"

-- a cone's line, and a line for each of its reports
abbrev pub cone_text : ℕ → Printed → List ℕ
cone_text cone printed =
    cone_line cone printed.events (length printed.reports) printed.closed ++ flat_map report_line printed.reports

-- the texts of cones in ascending order, the first with this number
abbrev pub cone_texts : ℕ → List Printed → List ℕ
cone_texts cone [] = []
cone_texts cone (printed ∷ others) = cone_text cone printed ++ cone_texts (suc cone) others

-- the whole text: each cone in ascending order, and the line of totals
abbrev pub lines : List Printed → List ℕ
lines cones =
    cone_texts 0 cones ++ total_line (sum_by (λ cone. cone.events) cones) (sum_by (λ cone. length cone.reports) cones)
