-- A whole log: its header, the records of its open gates, and the first place at which it leaves the format.
use Rattle.std.specs.Prelude.{◌≡◌, ◌≢◌, ℕ, ◌+◌, ◌*◌, ◌<◌, ◌≤◌, Bool, true, false, List, [], ◌∷◌, ◌++◌, length, map, flat_map, fold, replicate, count_by, slice_index, Some}
use Rattle.std.specs.List.{AllPairs, range_with_len}
use Rattle.std.proofs.Common.{◌⊎◌}
use Rattle.lert_bay.specs.Settled.{part}
use Rattle.lert_gatelog.specs.Gated.{IsGated, IsOpen, BreaksAt, Records}
use Rattle.lert_spec.specs.{declared.numbers.Numbers.Numbers, declared.report.Report.Report, Look.is_listed, Agreed.agreed}
use Rattle.lert_reports.specs.{declared.log.LogBefore.LogBefore, declared.log.LogKind.LogKind, LogRules.KeepsRules}
use Rattle.lert_reports.specs.LogText.{LogRecord, log_payload_of, log_left, number_in, report_in, report_place, reports_in}

-- the bytes that begin a log: the letters LERTL, and version 1
abbrev pub log_header : List ℕ
log_header = 76 ∷ 69 ∷ 82 ∷ 84 ∷ 76 ∷ 1 ∷ 0 ∷ 0 ∷ []

-- the greatest payload of a log
abbrev pub most_record : Numbers → ℕ
most_record s = 29 + s.levels * (1 + s.bins) + 16 * s.room

-- ---- what records say together

abbrev pub is_flush : LogKind → Bool
is_flush LogKind.Flush = true
is_flush LogKind.Closing = false

abbrev pub is_closing : LogKind → Bool
is_closing LogKind.Flush = false
is_closing LogKind.Closing = true

-- the reports of all records, in their order
abbrev pub listed_in : List LogRecord → List Report
listed_in records = flat_map (λ record_. record_.reports) records

-- after how many events the last record was written, 0 where there is none
abbrev pub last_n0 : List LogRecord → ℕ
last_n0 records = fold (λ earlier record_. record_.n0) 0 records

-- the last record is a closing one
abbrev pub is_closed : List LogRecord → Bool
is_closed records = fold (λ earlier record_. is_closing record_.kind) false records

-- the frames of each level by the last record, none where there is no record
abbrev pub last_directory : Numbers → List LogRecord → List (List ℕ)
last_directory s records = fold (λ earlier record_. record_.directory) (replicate s.levels []) records

-- from which place on the last record wants the journal to be read, behind its header where there is no record
abbrev pub last_offset : List LogRecord → ℕ
last_offset records = fold (λ earlier record_. record_.offset) 32 records

-- and from which position on, the first where there is no record
abbrev pub last_first : List LogRecord → ℕ
last_first records = fold (λ earlier record_. record_.first) 1 records

-- the position of the last report, 0 where there is none
abbrev pub last_at : List Report → ℕ
last_at reports = fold (λ earlier report. report.at) 0 reports

-- how many records of a flush there are
abbrev pub flushes_in : List LogRecord → ℕ
flushes_in records = count_by (λ record_. is_flush record_.kind) records

-- what these records say of the next one
abbrev pub before_of : List LogRecord → LogBefore
before_of records = record {
  flushes = flushes_in records;
  n0 = last_n0 records;
  reports = length (listed_in records);
  at = last_at (listed_in records);
}

-- ---- a log that is whole

-- records of a cone's log: each keeps the rules behind those before it, none stands behind a closing one, and no key is
-- reported twice
pub record AreRecords (s : Numbers) (cone : ℕ) (records : List LogRecord) : Type 0 where
  pub each : (before behind : List LogRecord) (one : LogRecord) → records ≡ before ++ one ∷ behind → KeepsRules s cone (before_of before) one
  pub open_before : (before behind : List LogRecord) (one : LogRecord) → records ≡ before ++ one ∷ behind → is_closed before ≡ false
  pub once : AllPairs (λ one other. one.key ≢ other.key) (listed_in records)

-- the open records of a log are these, up to a closed gate
abbrev pub HasRecords : Numbers → List ℕ → List LogRecord → ℕ → Type 0
HasRecords s bytes records end = IsGated (most_record s) bytes 8 (map log_payload_of records) end

-- the bytes are a cone's log: its header, and these records, which keep the rules, up to a closed gate
pub record HasLog (s : Numbers) (cone : ℕ) (bytes : List ℕ) (records : List LogRecord) (end : ℕ) : Type 0 where
  pub headed : part bytes 0 8 ≡ log_header
  pub records_stand : HasRecords s bytes records end
  pub rules : AreRecords s cone records

-- ---- where bytes leave the format of a log

-- the key of a whole report in a payload, at this place, was listed before: in an earlier record, or earlier in this one
pub record IsRepeatedAt (s : Numbers) (listed : List Report) (payload : List ℕ) (place : ℕ) : Type 0 where
  pub k : ℕ
  pub some : k < reports_in s payload
  pub place_is : place ≡ report_place s payload k
  pub whole : place + 8 ≤ length payload
  pub listed_before : is_listed (number_in 8 payload place) (listed ++ map (λ earlier. report_in payload (report_place s payload earlier)) (range_with_len 0 k)) ≡ true

-- a payload leaves the format at this place, in a log with these records before it: at the first field that isn't whole or
-- breaks its rule, and at the first byte left over, or at a key that was listed before, whichever comes first
pub record PayloadLeavesAt (s : Numbers) (cone : ℕ) (records : List LogRecord) (payload : List ℕ) (place : ℕ) : Type 0 where
  pub leaves : (log_left s cone (before_of records) payload ≡ Some place) ⊎ IsRepeatedAt s (listed_in records) payload place
  pub first_broken : (other : ℕ) → log_left s cone (before_of records) payload ≡ Some other → place ≤ other
  pub first_repeated : (other : ℕ) → IsRepeatedAt s (listed_in records) payload other → place ≤ other

-- the open records up to a gate are these, behind a header, and they keep the rules
pub record HasLogUpTo (s : Numbers) (cone : ℕ) (bytes : List ℕ) (records : List LogRecord) (gate : ℕ) : Type 0 where
  pub headed : part bytes 0 8 ≡ log_header
  pub records_stand : Records (most_record s) bytes 8 (map log_payload_of records) gate
  pub rules : AreRecords s cone records

-- what stands at a gate leaves the format as a gated record, and no closing record stands before it, or there is no gate
pub record BreaksBehind (s : Numbers) (bytes : List ℕ) (records : List LogRecord) (gate at : ℕ) : Type 0 where
  pub breaks : BreaksAt (most_record s) bytes gate at
  pub not_behind_closing : is_closed records ≡ true → slice_index bytes gate ≢ 1

-- the payload behind an open gate leaves the format, and no closing record stands before it
pub record IsSpoiledBehind (s : Numbers) (cone : ℕ) (bytes : List ℕ) (records : List LogRecord) (gate at : ℕ) : Type 0 where
  pub payload : List ℕ
  pub place : ℕ
  pub stands : IsOpen (most_record s) bytes gate payload
  pub still_open : is_closed records ≡ false
  pub leaves : PayloadLeavesAt s cone records payload place
  pub at_is : at ≡ gate + 5 + place

-- a gate behind a closing record is open
pub record FollowsClosing (bytes : List ℕ) (records : List LogRecord) (gate at : ℕ) : Type 0 where
  pub closing : is_closed records ≡ true
  pub opened : slice_index bytes gate ≡ 1
  pub at_is : at ≡ gate

-- the place at which bytes first leave the format of a cone's log: in the header, at the first byte that differs or where
-- the bytes end, or at the end of some records that keep the rules
pub data LogLeavesAt (s : Numbers) (cone : ℕ) (bytes : List ℕ) (at : ℕ) : Type 0 where
  In_header : at ≡ agreed log_header bytes → at < 8 → LogLeavesAt s cone bytes at
  At_gate : (records : List LogRecord) (gate : ℕ) → HasLogUpTo s cone bytes records gate → BreaksBehind s bytes records gate at → LogLeavesAt s cone bytes at
  In_payload : (records : List LogRecord) (gate : ℕ) → HasLogUpTo s cone bytes records gate → IsSpoiledBehind s cone bytes records gate at → LogLeavesAt s cone bytes at
  Behind_closing : (records : List LogRecord) (gate : ℕ) → HasLogUpTo s cone bytes records gate → FollowsClosing bytes records gate at → LogLeavesAt s cone bytes at
