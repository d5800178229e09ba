-- The payload of a record in a log, and the first place at which a payload leaves the format.
use Rattle.std.specs.Prelude.{◌≡◌, ◌≤◌, ℕ, ◌+◌, ◌-◌, ◌*◌, ◌/◌, ◌^◌, ◌==◌, ◌&&◌, ◌||◌, nat_lt, nat_le, not, min, max, Bool, List, [], ◌∷◌}
use Rattle.std.specs.Prelude.{◌++◌, length, take, drop, flat_map, find, count_by, sum_by, slice_index, Option, option_map, if◌then◌else◌}
use Rattle.std.specs.List.{range_with_len, list_any}
use Rattle.byteorder.specs.Endian.{little_number, little_bytes}
use Rattle.lert_spec.specs.declared.numbers.Numbers.{Numbers}
use Rattle.lert_spec.specs.declared.report.Report.{Report}
use Rattle.lert_spec.specs.Edges.{span, edge, capacity}
use Rattle.lert_spec.specs.Limits.{lies}
use Rattle.lert_spec.specs.Mix.{cone_of}
use Rattle.lert_reports.specs.declared.log.LogBefore.{LogBefore}
use Rattle.lert_reports.specs.declared.log.LogKind.{LogKind}
use Rattle.lert_reports.specs.declared.log.LogParts.{LogParts}

-- one record: what it is, after how many events, where the journal is to be read from and from which position on, for
-- each level the numbers of its frames, and the reports that are new
pub record LogRecord : Type 0 where
  pub kind : LogKind
  pub n0 : ℕ
  pub offset : ℕ
  pub first : ℕ
  pub directory : List (List ℕ)
  pub reports : List Report

abbrev pub kind_number : LogKind → ℕ
kind_number LogKind.Flush = 1
kind_number LogKind.Closing = 2

-- the bytes of a directory: for each level how many frames it has, and their numbers
abbrev pub directory_bytes : List (List ℕ) → List ℕ
directory_bytes levels = flat_map (λ frames. length frames ∷ frames) levels

abbrev pub report_bytes : Report → List ℕ
report_bytes report = little_bytes 8 report.key ++ little_bytes 8 report.at

-- the payload with these bytes of a directory
abbrev pub log_payload : LogKind → ℕ → ℕ → ℕ → List ℕ → List Report → List ℕ
log_payload kind n0 offset first directory reports =
    (kind_number kind ∷ [])
    ++ little_bytes 8 n0
    ++ little_bytes 8 offset
    ++ little_bytes 8 first
    ++ directory
    ++ little_bytes 4 (length reports)
    ++ flat_map report_bytes reports

-- the payload of a record
abbrev pub log_payload_of : LogRecord → List ℕ
log_payload_of record_ =
    log_payload record_.kind record_.n0 record_.offset record_.first (directory_bytes record_.directory) record_.reports

-- how many bins a level from 1 on has after n events: the aligned intervals of its span that meet its positions
abbrev pub bin_count : Numbers → ℕ → ℕ → ℕ
bin_count s level n =
    let low = edge s level n in
    let high = edge s (level - 1) n in
    count_by (λ k. nat_lt (max low (k * span s level)) (min high ((k + 1) * span s level))) (range_with_len 0 (n / span s level + 1))

-- a field of a payload: where it stands, how many bytes it has, and whether it keeps its rule
pub record Field : Type 0 where
  pub place : ℕ
  pub size : ℕ
  pub keeps : Bool

-- the number in the bytes of a payload from a place on
abbrev pub number_in : ℕ → List ℕ → ℕ → ℕ
number_in size payload place = little_number size (drop place payload)

-- after how many events a record was written
abbrev pub n0_in : List ℕ → ℕ
n0_in payload = number_in 8 payload 1

-- the position of the next flush, so many flushes having been written
abbrev pub next_flush : Numbers → ℕ → ℕ
next_flush s flushes = (s.bins + flushes) * s.base

-- a flush stands at its own position; a closing record not before the last record, and before the next flush
abbrev pub keeps_n0 : Numbers → LogBefore → ℕ → ℕ → Bool
keeps_n0 s before kind n0 =
    nat_le n0 (capacity s)
    && (if kind == 1 then n0 == next_flush s before.flushes else nat_le before.n0 n0 && nat_lt n0 (next_flush s before.flushes))

-- the four fields that begin a payload
abbrev pub kind_field : List ℕ → Field
kind_field payload = record { place = 0; size = 1; keeps = lies 1 2 (slice_index payload 0) }

abbrev pub n0_field : Numbers → LogBefore → List ℕ → Field
n0_field s before payload = record { place = 1; size = 8; keeps = keeps_n0 s before (slice_index payload 0) (n0_in payload) }

abbrev pub offset_field : List ℕ → Field
offset_field payload = record { place = 9; size = 8; keeps = lies 32 (2 ^ 46) (number_in 8 payload 9) }

abbrev pub first_field : Numbers → List ℕ → Field
first_field s payload = record { place = 17; size = 8; keeps = lies 1 (edge s 0 (n0_in payload) + 1) (number_in 8 payload 17) }

abbrev pub head_fields : Numbers → LogBefore → List ℕ → List Field
head_fields s before payload =
    kind_field payload ∷ n0_field s before payload ∷ offset_field payload ∷ first_field s payload ∷ []

-- where a level stands in a directory: behind one byte for each younger level and for each of its bins
abbrev pub level_place : Numbers → ℕ → ℕ → ℕ
level_place s n0 level = 25 + sum_by (λ younger. 1 + bin_count s younger n0) (range_with_len 1 (level - 1))

-- the frames of a level
abbrev pub frames_in : Numbers → List ℕ → ℕ → List ℕ
frames_in s payload level = take (bin_count s level (n0_in payload)) (drop (level_place s (n0_in payload) level + 1) payload)

-- where the number of reports stands
abbrev pub reports_place : Numbers → ℕ → ℕ
reports_place s n0 = level_place s n0 (s.levels + 1)

-- the k-th frame of a level, from 0, whose first frame stands at a place: it is one of the level's, and no earlier one
abbrev pub frame_field : Numbers → List ℕ → ℕ → ℕ → Field
frame_field s payload place k =
    let frame = slice_index payload (place + k) in
    record {
      place = place + k;
      size = 1;
      keeps = nat_le frame s.bins && not (list_any (λ other. other == frame) (take k (drop place payload)));
    }

-- the first so many frames behind a place
abbrev pub frame_fields : Numbers → List ℕ → ℕ → ℕ → List Field
frame_fields s payload place n = flat_map (λ k. frame_field s payload place k ∷ []) (range_with_len 0 n)

-- the number of frames at a place
abbrev pub bins_field : List ℕ → ℕ → ℕ → Field
bins_field payload place bins = record { place = place; size = 1; keeps = slice_index payload place == bins }

-- a level's number of frames, and its frames
abbrev pub level_fields : Numbers → List ℕ → ℕ → List Field
level_fields s payload level =
    let place = level_place s (n0_in payload) level in
    let frames = bin_count s level (n0_in payload) in
    bins_field payload place frames ∷ frame_fields s payload (place + 1) frames

-- how many reports a record has
abbrev pub reports_in : Numbers → List ℕ → ℕ
reports_in s payload = number_in 4 payload (reports_place s (n0_in payload))

-- the place and the number of the k-th report, from 0
abbrev pub report_place : Numbers → List ℕ → ℕ → ℕ
report_place s payload k = reports_place s (n0_in payload) + 4 + 16 * k

-- the report whose bytes stand at a place
abbrev pub report_in : List ℕ → ℕ → Report
report_in payload place = record { key = number_in 8 payload place; at = number_in 8 payload (place + 8) }

-- the position of the report before the k-th
abbrev pub at_before : Numbers → LogBefore → List ℕ → ℕ → ℕ
at_before s before payload k = if k == 0 then before.at else number_in 8 payload (report_place s payload (k - 1) + 8)

-- a report's key is of the cone, and its position isn't before that of an earlier one, nor behind the events
abbrev pub key_field : Numbers → ℕ → List ℕ → ℕ → Field
key_field s cone payload place = record { place = place; size = 8; keeps = cone_of s (number_in 8 payload place) == cone }

abbrev pub at_field : List ℕ → ℕ → ℕ → Field
at_field payload place earlier = record {
  place = place + 8;
  size = 8;
  keeps = lies (max 1 earlier) (n0_in payload) (number_in 8 payload (place + 8));
}

-- the k-th report
abbrev pub report_fields : Numbers → ℕ → LogBefore → List ℕ → ℕ → List Field
report_fields s cone before payload k =
    let place = report_place s payload k in
    key_field s cone payload place ∷ at_field payload place (at_before s before payload k) ∷ []

-- where a payload is to end
abbrev pub log_end : Numbers → List ℕ → ℕ
log_end s payload = report_place s payload (reports_in s payload)

-- the fields of all levels, and of all reports
abbrev pub directory_fields : Numbers → List ℕ → List Field
directory_fields s payload = flat_map (level_fields s payload) (range_with_len 1 s.levels)

abbrev pub count_field : Numbers → LogBefore → List ℕ → Field
count_field s before payload =
    record { place = reports_place s (n0_in payload); size = 4; keeps = nat_le (before.reports + reports_in s payload) s.room }

abbrev pub all_report_fields : Numbers → ℕ → LogBefore → List ℕ → List Field
all_report_fields s cone before payload = flat_map (report_fields s cone before payload) (range_with_len 0 (reports_in s payload))

-- the end, where no byte is to be left over
abbrev pub end_field : Numbers → List ℕ → Field
end_field s payload = record { place = log_end s payload; size = 0; keeps = nat_le (length payload) (log_end s payload) }

-- all fields of a payload in their order, and the end, where no byte is to be left over
abbrev pub log_fields : Numbers → ℕ → LogBefore → List ℕ → List Field
log_fields s cone before payload =
    head_fields s before payload
    ++ directory_fields s payload
    ++ (count_field s before payload ∷ [])
    ++ all_report_fields s cone before payload
    ++ (end_field s payload ∷ [])

-- a field isn't wholly in a payload, or breaks its rule
abbrev pub is_broken : List ℕ → Field → Bool
is_broken payload field = nat_lt (length payload) (field.place + field.size) || not field.keeps

-- the place of the first of some fields that is broken
unfoldable pub left_at : List ℕ → List Field → Option ℕ
left_at payload fields = option_map (λ field. field.place) (find (is_broken payload) fields)

-- the place at which a payload first leaves the format, in a log with these records before it; none where it holds a
-- record. The rule on keys that were listed before is none of these
abbrev pub log_left : Numbers → ℕ → LogBefore → List ℕ → Option ℕ
log_left s cone before payload = left_at payload (log_fields s cone before payload)

-- what stands where in a payload that ends behind its reports
pub record ArePartsOf (s : Numbers) (payload : List ℕ) (parts : LogParts) : Type 0 where
  pub kind_is : kind_number parts.kind ≡ slice_index payload 0
  pub n0_is : parts.n0 ≡ n0_in payload
  pub offset_is : parts.offset ≡ number_in 8 payload 9
  pub first_is : parts.first ≡ number_in 8 payload 17
  pub directory_is : parts.directory_at ≡ 25
  pub place_is : parts.reports_at ≡ reports_place s (n0_in payload) + 4
  pub reports_are : parts.reports ≡ reports_in s payload
  pub within : parts.n0 ≤ capacity s
  pub ends : parts.reports_at + 16 * parts.reports ≡ length payload
