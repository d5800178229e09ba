-- What was read of a log, in the words of its records.
use Rattle.std.specs.{Prelude.{◌≡◌, ◌≢◌, ℕ, ◌+◌, ◌*◌, ◌^◌, ◌≤◌, Bool, true, cond, All, List, slice_index}, List.AllPairs}
use Rattle.std.proofs.Common.{◌⊎◌}
use Rattle.lert_gatelog.specs.Gated.{BreaksAt}
use Rattle.lert_files.specs.declared.log_record.Progress.{Progress}
use Rattle.lert_spec.specs.{declared.numbers.Numbers.Numbers, declared.report.Report.Report, Edges.{edge, capacity}, Mix.cone_of}
use Rattle.lert_reports.specs.{Log.{AreRecords, before_of, is_closed, last_directory, last_first, last_n0, last_offset, listed_in}, LogText.{LogRecord, directory_bytes}}

-- this was read of records that keep the rules: the reports of all of them, and what the last one says
pub record IsReadOf (s : Numbers) (cone n0 offset first : ℕ) (closed : Bool) (reports : List Report) (directory : List ℕ) (records : List LogRecord) : Type 0 where
  pub rules : AreRecords s cone records
  pub n0_is : n0 ≡ last_n0 records
  pub offset_is : offset ≡ last_offset records
  pub first_is : first ≡ last_first records
  pub closed_is : closed ≡ is_closed records
  pub reports_are : reports ≡ listed_in records
  pub directory_is : directory ≡ directory_bytes (last_directory s records)

-- what a log says keeps the rules of its last record, also where it has none: the events are no more than a cone takes, and
-- the journal is to be read from behind its header, from a position up to the first one of level 0
pub record IsPoint (s : Numbers) (n0 offset first : ℕ) : Type 0 where
  pub within : n0 ≤ capacity s
  pub offset_from : 32 ≤ offset
  pub offset_to : offset ≤ 2 ^ 46
  pub first_from : 1 ≤ first
  pub first_to : first ≤ edge s 0 n0 + 1

-- reports of this cone's keys at the first n positions, no key twice and no position before an earlier one's
pub record AreReportsUpTo (s : Numbers) (cone n : ℕ) (reports : List Report) : Type 0 where
  pub of_cone : All (λ report. cone_of s report.key ≡ cone) reports
  pub placed : All (λ report. (1 ≤ report.at) × (report.at ≤ n)) reports
  pub ascending : AllPairs (λ one other. one.at ≤ other.at) reports
  pub once : AllPairs (λ one other. one.key ≢ other.key) reports

-- what stands at a gate leaves the format as a gated record, or is an open gate behind a closing record
abbrev pub GateLeavesAt : ℕ → Bool → List ℕ → ℕ → ℕ → Type 0
GateLeavesAt most closed bytes gate at =
    (BreaksAt most bytes gate at × (closed ≡ true → slice_index bytes gate ≢ 1))
    ⊎ ((closed ≡ true) × (slice_index bytes gate ≡ 1) × (at ≡ gate))

-- ---- while records are read

-- this was read of some records, and the next one finds this behind them
pub record HasRead (s : Numbers) (cone : ℕ) (progress : Progress) (reports : List Report) (directory : List ℕ) (records : List LogRecord) : Type 0 where
  pub is_read : IsReadOf s cone progress.before.n0 progress.offset progress.first progress.closed reports directory records
  pub before_is : progress.before ≡ before_of records

-- how many records were read
abbrev pub steps : Progress → ℕ
steps progress = progress.before.flushes + cond {A = ℕ} progress.closed 1 0

-- how many bytes a directory has at most: for each level one, and one for each of its frames
abbrev pub most_directory : Numbers → ℕ
most_directory s = s.levels * (2 + s.bins)
