-- When a list of reports is timely for a list of events. Nothing here knows of a level or an edge.
use Rattle.std.specs.{Prelude.{◌≡◌, ℕ, ◌-◌, ◌*◌, ◌<◌, ◌≤◌, ◌==◌, ◌⊎◌, count_by, List, length, map, Contains, Some}, List.Sorted.IsNonDecreasing}
use Rattle.lert_spec.specs.{declared.report.Report.Report, Counts.{Measure, plain, weight_in, first_in, nth_in}}

-- a key that first occurs at `first_at` and reaches the threshold at `reached_at` is reported at `at`: not before it is
-- due, and late by at most its own time to get there over bins - 1
pub record IsOnTime (bins first_at reached_at at : ℕ) : Type 0 where
  pub not_early : reached_at ≤ at
  pub not_late : (at - reached_at) * (bins - 1) ≤ reached_at - first_at

-- how many reports name a key
abbrev pub times_listed : ℕ → List Report → ℕ
times_listed key reports = count_by (λ report. report.key == key) reports

-- a key stands in the reports exactly once, at some position that is on time
pub record IsReportedOnTimeIn {A : Type 0} (by : Measure A) (threshold bins : ℕ) (events : List A) (reports : List Report) (key : ℕ) : Type 0 where
  pub at : ℕ
  pub first_at : ℕ
  pub reached_at : ℕ
  pub first_is : first_in by key events ≡ Some first_at
  pub reached_is : nth_in by threshold key events ≡ Some reached_at
  pub listed : Contains reports (record { key = key; at = at })
  pub once : times_listed key reports ≡ 1
  pub within : at ≤ length events
  pub on_time : IsOnTime bins first_at reached_at at

-- a key isn't in the reports, and needn't be there so far
pub record IsNotYetDueIn {A : Type 0} (by : Measure A) (threshold bins : ℕ) (events : List A) (reports : List Report) (key : ℕ) : Type 0 where
  pub first_at : ℕ
  pub reached_at : ℕ
  pub first_is : first_in by key events ≡ Some first_at
  pub reached_is : nth_in by threshold key events ≡ Some reached_at
  pub missing : times_listed key reports ≡ 0
  pub not_due : (length events - reached_at) * (bins - 1) < reached_at - first_at

-- the reports are in the order of their positions, name no key that weighs too little, and each other key exactly once
-- and on time
pub record IsTimelyIn {A : Type 0} (by : Measure A) (threshold bins : ℕ) (events : List A) (reports : List Report) : Type 0 where
  pub in_order : IsNonDecreasing (map (λ report. report.at) reports)
  pub light : (key : ℕ) → weight_in by key events 0 (length events) < threshold → times_listed key reports ≡ 0
  pub heavy : (key : ℕ) → threshold ≤ weight_in by key events 0 (length events) → IsReportedOnTimeIn by threshold bins events reports key

-- the same while events still come: a key may be missing until its bound has passed
pub record IsTimelySoFarIn {A : Type 0} (by : Measure A) (threshold bins : ℕ) (events : List A) (reports : List Report) : Type 0 where
  pub in_order : IsNonDecreasing (map (λ report. report.at) reports)
  pub light : (key : ℕ) → weight_in by key events 0 (length events) < threshold → times_listed key reports ≡ 0
  pub heavy : (key : ℕ) → threshold ≤ weight_in by key events 0 (length events) →
      IsReportedOnTimeIn by threshold bins events reports key ⊎ IsNotYetDueIn by threshold bins events reports key

-- the same of a list of keys
abbrev pub IsReportedOnTime : ℕ → ℕ → List ℕ → List Report → ℕ → Type 0
IsReportedOnTime threshold bins events reports key = IsReportedOnTimeIn plain threshold bins events reports key

abbrev pub IsNotYetDue : ℕ → ℕ → List ℕ → List Report → ℕ → Type 0
IsNotYetDue threshold bins events reports key = IsNotYetDueIn plain threshold bins events reports key

abbrev pub IsTimely : ℕ → ℕ → List ℕ → List Report → Type 0
IsTimely threshold bins events reports = IsTimelyIn plain threshold bins events reports

abbrev pub IsTimelySoFar : ℕ → ℕ → List ℕ → List Report → Type 0
IsTimelySoFar threshold bins events reports = IsTimelySoFarIn plain threshold bins events reports
