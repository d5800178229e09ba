-- The reports in a payload one behind the other, and whether their keys are new.
use Rattle.std.specs.{Prelude.{◌≡◌, ℕ, ◌+◌, ◌*◌, ◌<◌, true, false, List, ◌++◌, map}, List.range_with_len}
use Rattle.lert_spec.specs.{declared.report.Report.Report, Look.is_listed}
use Rattle.lert_reports.specs.LogText.{number_in, report_in}

-- the first n reports of a payload, the first one at a place
abbrev pub reports_from : List ℕ → ℕ → ℕ → List Report
reports_from payload start n = map (λ k. report_in payload (start + 16 * k)) (range_with_len 0 n)

-- whether the key of the k-th report, from 0, is listed, or that of an earlier one
abbrev pub IsListedThere : List Report → List ℕ → ℕ → ℕ → Type 0
IsListedThere listed payload start k = is_listed (number_in 8 payload (start + 16 * k)) (listed ++ reports_from payload start k) ≡ true

abbrev pub IsNewThere : List Report → List ℕ → ℕ → ℕ → Type 0
IsNewThere listed payload start k = is_listed (number_in 8 payload (start + 16 * k)) (listed ++ reports_from payload start k) ≡ false

-- the keys of the first n reports are new, each among those before it
abbrev pub AreNewThere : List Report → List ℕ → ℕ → ℕ → Type 0
AreNewThere listed payload start n = (k : ℕ) → k < n → IsNewThere listed payload start k
