-- The rules of a record of a log, in words of the record alone, and what the parts that are read of a payload say of it.
use Rattle.std.specs.{Prelude.{◌≡◌, ◌≢◌, ℕ, ◌+◌, ◌*◌, ◌<◌, ◌≤◌, ◌^◌, List, [], All, length, map, slice_index_or}, List.{AllPairs, range_with_len}}
use Rattle.lert_spec.specs.{declared.numbers.Numbers.Numbers, declared.report.Report.Report, Edges.{key_limit, edge, capacity}, Mix.cone_of}
use Rattle.lert_reports.specs.{declared.log.LogBefore.LogBefore, declared.log.LogKind.LogKind, declared.log.LogParts.LogParts}
use Rattle.lert_reports.specs.LogText.{LogRecord, next_flush, bin_count, directory_bytes, frames_in, report_in}

-- after how many events a record is due: a flush at its own position, a closing one from the last record on, before the
-- next flush
abbrev pub IsInTurn : Numbers → LogBefore → LogKind → ℕ → Type 0
IsInTurn s before LogKind.Flush n0 = n0 ≡ next_flush s before.flushes
IsInTurn s before LogKind.Closing n0 = (before.n0 ≤ n0) × (n0 < next_flush s before.flushes)

-- the frames of a level after n events: one for each of its bins, of those that a level has, and no frame twice
pub record AreFrames (s : Numbers) (level n : ℕ) (frames : List ℕ) : Type 0 where
  pub counted : length frames ≡ bin_count s level n
  pub known : All (λ frame. frame ≤ s.bins) frames
  pub distinct : AllPairs (λ one other. one ≢ other) frames

-- reports of this cone's keys, each at one of the first n0 positions, none before `earlier` nor before an earlier one
pub record AreNew (s : Numbers) (cone earlier n0 : ℕ) (reports : List Report) : Type 0 where
  pub fit : All (λ report. report.key < key_limit s) reports
  pub of_cone : All (λ report. cone_of s report.key ≡ cone) reports
  pub placed : All (λ report. (1 ≤ report.at) × (earlier ≤ report.at) × (report.at ≤ n0)) reports
  pub ascending : AllPairs (λ one other. one.at ≤ other.at) reports

-- a record that may stand in a cone's log behind these records. The rule on keys that were listed before is none of these
pub record KeepsRules (s : Numbers) (cone : ℕ) (before : LogBefore) (record_ : LogRecord) : Type 0 where
  pub within : record_.n0 ≤ capacity s
  pub in_turn : IsInTurn s before record_.kind record_.n0
  pub offset_from : 32 ≤ record_.offset
  pub offset_to : record_.offset ≤ 2 ^ 46
  pub first_from : 1 ≤ record_.first
  pub first_to : record_.first ≤ edge s 0 record_.n0 + 1
  pub levels : length record_.directory ≡ s.levels
  pub frames : (k : ℕ) → k < s.levels → AreFrames s (k + 1) record_.n0 (slice_index_or record_.directory k [])
  pub room : before.reports + length record_.reports ≤ s.room
  pub reports : AreNew s cone before.at record_.n0 record_.reports

-- the parts of a payload say what the record in it says, and where its directory and its reports stand
pub record TellOf (record_ : LogRecord) (parts : LogParts) : Type 0 where
  pub kind_is : parts.kind ≡ record_.kind
  pub n0_is : parts.n0 ≡ record_.n0
  pub offset_is : parts.offset ≡ record_.offset
  pub first_is : parts.first ≡ record_.first
  pub directory_is : parts.directory_at ≡ 25
  pub place_is : parts.reports_at ≡ 29 + length (directory_bytes record_.directory)
  pub reports_are : parts.reports ≡ length record_.reports

-- the record in the payload that these parts were read of
abbrev pub record_in : Numbers → List ℕ → LogParts → LogRecord
record_in s payload parts = record {
  kind = parts.kind;
  n0 = parts.n0;
  offset = parts.offset;
  first = parts.first;
  directory = map (frames_in s payload) (range_with_len 1 s.levels);
  reports = map (λ k. report_in payload (parts.reports_at + 16 * k)) (range_with_len 0 parts.reports);
}
