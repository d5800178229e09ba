-- The law that joins writing and reading: the payload of a record that keeps the rules leaves the format nowhere, and the
-- parts of a payload of a record say what the record says.
use Rattle.std.proofs.Common.{◌≡◌, ℕ, ◌+◌, ◌-◌, ◌*◌, ◌<◌, ◌≤◌, ◌^◌, ◌&&◌, true, None, Some, List, [], ◌∷◌, ◌++◌, length, map, refl, sym, ap, ap₂}
use Rattle.std.proofs.Common.{◌∙◌, subst, arith, length-append, append_assoc, zero-add}
use Rattle.std.specs.Prelude.{flat_map, slice_index, slice_index_or, Result, Ok, Err, MatchResult, IsOkAnd}
use Rattle.std.specs.List.{range_with_len}
use Rattle.std.proofs.Math.Nat.{mul-div-le}
use Rattle.std.proofs.lemmas.Bool.{le-leb, lt-ltb, eq-eqb}
use Rattle.std.proofs.lemmas.List.{ext_get_or, same_lists}
use Rattle.std.proofs.lemmas.List.FromFn.{get_or-map-range_with_len, length-map-range_with_len}
use Rattle.std.proofs.lemmas.Option.{none-some}
use Rattle.byteorder.specs.Endian.{little_bytes}
use Rattle.lert_spec.specs.declared.numbers.Numbers.{Numbers}
use Rattle.lert_spec.specs.declared.report.Report.{Report}
use Rattle.lert_spec.specs.Edges.{edge, capacity, offset, span}
use Rattle.lert_spec.specs.Limits.{IsValid, lies}
use Rattle.lert_reports.specs.declared.log.LogBefore.{LogBefore}
use Rattle.lert_reports.specs.declared.log.LogKind.{LogKind}
use Rattle.lert_reports.specs.declared.log.LogParts.{LogParts}
use Rattle.lert_reports.specs.LogText.{LogRecord, kind_number, directory_bytes, report_bytes, log_payload_of, log_left, left_at, number_in, n0_in, next_flush, keeps_n0, kind_field, n0_field}
use Rattle.lert_reports.specs.LogText.{offset_field, first_field, head_fields, directory_fields, count_field, all_report_fields, end_field, level_place, level_fields, reports_place, reports_in}
use Rattle.lert_reports.specs.LogText.{report_place, report_fields, log_end, frames_in, report_in, ArePartsOf}
use Rattle.lert_reports.specs.LogRules.{IsInTurn, KeepsRules, TellOf, record_in}
use Rattle.lert_reports.proofs.FieldLaws.{good, kept, none_left, in_last}
use Rattle.lert_reports.proofs.PlaceLaws.{Stands, stands_behind, byte_there, number_there}
use Rattle.lert_reports.proofs.RecordBack.{ends, levels_good, frames_back, report_back, report_stands, reports_good}

-- ---- the fields that begin a payload

module _ (payload rest : List ℕ) (kind n0 offset first : ℕ) where
  -- the fields stand there
  record HasHead : Type 0 where
    from_kind : Stands payload 0 (kind ∷ (little_bytes 8 n0 ++ (little_bytes 8 offset ++ (little_bytes 8 first ++ rest))))
    from_n0 : Stands payload 1 (little_bytes 8 n0 ++ (little_bytes 8 offset ++ (little_bytes 8 first ++ rest)))
    from_offset : Stands payload 9 (little_bytes 8 offset ++ (little_bytes 8 first ++ rest))
    from_first : Stands payload 17 (little_bytes 8 first ++ rest)
    behind : Stands payload 25 rest

  has_head : payload ≡ kind ∷ (little_bytes 8 n0 ++ (little_bytes 8 offset ++ (little_bytes 8 first ++ rest))) → HasHead
  has_head is =
      let behind_first = little_bytes 8 first ++ rest in
      let behind_offset = little_bytes 8 offset ++ behind_first in
      let all : Stands payload 0 (kind ∷ (little_bytes 8 n0 ++ behind_offset)) = record { within = zero-add _ ∙ sym (ap length is); is = is } in
      let n0_on : Stands payload 1 (little_bytes 8 n0 ++ behind_offset) = stands_behind payload (kind ∷ []) (little_bytes 8 n0 ++ behind_offset) 0 1 refl all in
      let offset_on : Stands payload 9 behind_offset = stands_behind payload (little_bytes 8 n0) behind_offset 1 9 refl n0_on in
      let first_on : Stands payload 17 behind_first = stands_behind payload (little_bytes 8 offset) behind_first 9 17 refl offset_on in
      record {
        from_kind = all;
        from_n0 = n0_on;
        from_offset = offset_on;
        from_first = first_on;
        behind = stands_behind payload (little_bytes 8 first) rest 17 25 refl first_on;
      }

  -- they read as these numbers, and the rest stands behind them
  record Begins : Type 0 where
    kind_is : slice_index payload 0 ≡ kind
    n0_is : n0_in payload ≡ n0
    offset_is : number_in 8 payload 9 ≡ offset
    first_is : number_in 8 payload 17 ≡ first
    behind : Stands payload 25 rest

  begins : n0 < 2 ^ 64 → offset < 2 ^ 64 → first < 2 ^ 64 → HasHead → Begins
  begins n0_fits offset_fits first_fits head = record {
    kind_is = byte_there payload (little_bytes 8 n0 ++ (little_bytes 8 offset ++ (little_bytes 8 first ++ rest))) 0 kind head.from_kind;
    n0_is = number_there payload (little_bytes 8 offset ++ (little_bytes 8 first ++ rest)) 8 1 n0 n0_fits head.from_n0;
    offset_is = number_there payload (little_bytes 8 first ++ rest) 8 9 offset offset_fits head.from_offset;
    first_is = number_there payload rest 8 17 first first_fits head.from_first;
    behind = head.behind;
  }

-- the payload of a record has its head, and behind it its directory and its reports
abbrev behind_head : LogRecord → List ℕ
behind_head record_ = directory_bytes record_.directory ++ (little_bytes 4 (length record_.reports) ++ flat_map report_bytes record_.reports)

head_of : (record_ : LogRecord) (payload : List ℕ) → payload ≡ log_payload_of record_ →
    HasHead payload (behind_head record_) (kind_number record_.kind) record_.n0 record_.offset record_.first
head_of record_ payload is =
    has_head payload (behind_head record_) (kind_number record_.kind) record_.n0 record_.offset record_.first
    (is ∙ ap (λ rest. kind_number record_.kind ∷ (little_bytes 8 record_.n0 ++ (little_bytes 8 record_.offset ++ (little_bytes 8 record_.first ++ rest))))
    (append_assoc (directory_bytes record_.directory) (little_bytes 4 (length record_.reports)) (flat_map report_bytes record_.reports)))

in_turn : (s : Numbers) (before : LogBefore) (kind : LogKind) (n0 : ℕ) → n0 ≤ capacity s → IsInTurn s before kind n0 → keeps_n0 s before (kind_number kind) n0 ≡ true
in_turn s before LogKind.Flush n0 within turn = ap₂ (λ one other. one && other) (le-leb n0 (capacity s) within) (eq-eqb n0 (next_flush s before.flushes) turn)
in_turn s before LogKind.Closing n0 within turn =
    ap₂ (λ one other. one && other) (le-leb n0 (capacity s) within)
    (ap₂ (λ one other. one && other) (le-leb before.n0 n0 turn.0) (lt-ltb n0 (next_flush s before.flushes) turn.1))

one_or_two : (kind : LogKind) → lies 1 2 (kind_number kind) ≡ true
one_or_two LogKind.Flush = refl
one_or_two LogKind.Closing = refl

between : (least most n : ℕ) → least ≤ n → n ≤ most → lies least most n ≡ true
between least most n low high = ap₂ (λ one other. one && other) (le-leb least n low) (le-leb n most high)

head_good : (s : Numbers) (cone : ℕ) (before : LogBefore) (record_ : LogRecord) (payload rest : List ℕ) → KeepsRules s cone before record_ →
    Begins payload rest (kind_number record_.kind) record_.n0 record_.offset record_.first → left_at payload (head_fields s before payload) ≡ None
head_good s cone before record_ payload rest rules head =
    let long = head.behind.within in
    kept payload (kind_field payload) (n0_field s before payload ∷ offset_field payload ∷ first_field s payload ∷ []) None
    (good payload (kind_field payload) (omega (arith, long)) (ap (lies 1 2) head.kind_is ∙ one_or_two record_.kind))
    (kept payload (n0_field s before payload) (offset_field payload ∷ first_field s payload ∷ []) None
    (good payload (n0_field s before payload) (omega (arith, long)) (ap₂ (keeps_n0 s before) head.kind_is head.n0_is ∙ in_turn s before record_.kind record_.n0 rules.within rules.in_turn))
    (kept payload (offset_field payload) (first_field s payload ∷ []) None
    (good payload (offset_field payload) (omega (arith, long)) (ap (lies 32 (2 ^ 46)) head.offset_is ∙ between 32 (2 ^ 46) record_.offset rules.offset_from rules.offset_to))
    (kept payload (first_field s payload) [] None
    (good payload (first_field s payload) (omega (arith, long))
    (ap₂ (λ n x. lies 1 (edge s 0 n + 1) x) head.n0_is head.first_is ∙ between 1 (edge s 0 record_.n0 + 1) record_.first rules.first_from rules.first_to))
    (none_left payload))))

-- ---- the whole payload

-- what is read of the payload of a record
record IsLaid (s : Numbers) (record_ : LogRecord) (payload : List ℕ) : Type 0 where
  head : Begins payload (behind_head record_) (kind_number record_.kind) record_.n0 record_.offset record_.first
  directory_whole : left_at payload (directory_fields s payload) ≡ None
  directory_ends : Stands payload (reports_place s (n0_in payload)) (little_bytes 4 (length record_.reports) ++ flat_map report_bytes record_.reports)
  place_is : reports_place s (n0_in payload) ≡ 25 + length (directory_bytes record_.directory)
  reports_are : reports_in s payload ≡ length record_.reports
  reports_stand : Stands payload (reports_place s (n0_in payload) + 4) (flat_map report_bytes record_.reports)

n0_small : (s : Numbers) (n0 : ℕ) → IsValid s → n0 ≤ capacity s → n0 < 2 ^ 32
n0_small s n0 valid within = omega (arith, valid.positions_fit, within)

first_small : (s : Numbers) (n0 first : ℕ) → IsValid s → n0 ≤ capacity s → first ≤ edge s 0 n0 + 1 → first < 2 ^ 64
first_small s n0 first valid within low = omega (arith, n0_small s n0 valid within, low, mul-div-le (n0 - offset s 0) (span s 0))

laid : (s : Numbers) (cone : ℕ) (before : LogBefore) (record_ : LogRecord) (payload : List ℕ) → IsValid s → KeepsRules s cone before record_ → payload ≡ log_payload_of record_ →
    IsLaid s record_ payload
laid s cone before record_ payload valid rules is =
    let directory = directory_bytes record_.directory in
    let count = little_bytes 4 (length record_.reports) in
    let reports = flat_map report_bytes record_.reports in
    let head : Begins payload (behind_head record_) (kind_number record_.kind) record_.n0 record_.offset record_.first =
    begins payload (behind_head record_) (kind_number record_.kind) record_.n0 record_.offset record_.first
    (omega (arith, n0_small s record_.n0 valid rules.within)) (omega (arith, rules.offset_to)) (first_small s record_.n0 record_.first valid rules.within rules.first_to)
    (head_of record_ payload is) in
    let frames_are = λ (k : ℕ) (below : k < length record_.directory). rules.frames k (omega (arith, below, rules.levels)) in
    let place_is : level_place s record_.n0 (1 + length record_.directory) ≡ reports_place s (n0_in payload) =
    ap₂ (level_place s) (sym head.n0_is) (let same : 1 + length record_.directory ≡ s.levels + 1 = omega (arith, rules.levels) in same) in
    let ends_there : Stands payload (reports_place s (n0_in payload)) (count ++ reports) =
    subst (λ place. Stands payload place (count ++ reports)) place_is (ends s payload (count ++ reports) record_.n0 record_.directory frames_are head.behind) in
    record {
      head = head;
      directory_whole =
          subst (λ n. left_at payload (flat_map (level_fields s payload) (range_with_len 1 n)) ≡ None) rules.levels
          (levels_good s payload (count ++ reports) record_.n0 record_.directory frames_are head.behind (sym head.n0_is));
      directory_ends = ends_there;
      place_is = omega (arith, ends_there.within, head.behind.within, length-append directory (count ++ reports));
      reports_are = number_there payload reports 4 (reports_place s (n0_in payload)) (length record_.reports) (omega (arith, rules.room, valid.limits.room_to)) ends_there;
      reports_stand = stands_behind payload count reports (reports_place s (n0_in payload)) (reports_place s (n0_in payload) + 4) refl ends_there;
    }

length_reports : (reports : List Report) → length (flat_map report_bytes reports) ≡ 16 * length reports
length_reports [] = refl
length_reports (report ∷ reports) = omega (arith, length-append (report_bytes report) (flat_map report_bytes reports), length_reports reports)

-- a record that keeps the rules leaves the format nowhere
pub never_left : (s : Numbers) (cone : ℕ) (before : LogBefore) (record_ : LogRecord) (payload : List ℕ) → IsValid s → KeepsRules s cone before record_ →
    payload ≡ log_payload_of record_ → log_left s cone before payload ≡ None
never_left s cone before record_ payload valid rules is =
    let as_laid = laid s cone before record_ payload valid rules is in
    let count = count_field s before payload in
    let end = end_field s payload in
    let place = reports_place s (n0_in payload) in
    let reports_are = as_laid.reports_are in
    let first_stands : Stands payload (report_place s payload 0) (flat_map report_bytes record_.reports) =
    subst (λ at. Stands payload at (flat_map report_bytes record_.reports)) (let same : place + 4 ≡ place + 4 + 16 * 0 = omega arith in same) as_laid.reports_stand in
    in_last payload (head_fields s before payload) (directory_fields s payload) (count ∷ []) (all_report_fields s cone before payload) (end ∷ []) None
    (head_good s cone before record_ payload _ rules as_laid.head)
    as_laid.directory_whole
    (kept payload count [] None
    (good payload count (omega (arith, as_laid.reports_stand.within)) (le-leb (before.reports + reports_in s payload) s.room (omega (arith, reports_are, rules.room))))
    (none_left payload))
    (subst (λ n. left_at payload (flat_map (report_fields s cone before payload) (range_with_len 0 n)) ≡ None) (sym reports_are)
    (reports_good s cone before payload record_.n0 (sym as_laid.head.n0_is) (omega (arith, n0_small s record_.n0 valid rules.within)) record_.reports 0 rules.reports first_stands))
    (kept payload end [] None
    (good payload end (omega (arith, as_laid.reports_stand.within, length_reports record_.reports, reports_are))
    (le-leb (length payload) (log_end s payload) (omega (arith, as_laid.reports_stand.within, length_reports record_.reports, reports_are))))
    (none_left payload))

same_kind : (one other : LogKind) → kind_number one ≡ kind_number other → one ≡ other
same_kind LogKind.Flush LogKind.Flush is = refl
same_kind LogKind.Flush LogKind.Closing is = absurd (omega (arith, is))
same_kind LogKind.Closing LogKind.Flush is = absurd (omega (arith, is))
same_kind LogKind.Closing LogKind.Closing is = refl

-- the parts of its payload say what it says
pub parts_tell : (s : Numbers) (cone : ℕ) (before : LogBefore) (record_ : LogRecord) (payload : List ℕ) (parts : LogParts) → IsValid s → KeepsRules s cone before record_ →
    payload ≡ log_payload_of record_ → ArePartsOf s payload parts → TellOf record_ parts
parts_tell s cone before record_ payload parts valid rules is are =
    let as_laid = laid s cone before record_ payload valid rules is in
    record {
      kind_is = same_kind parts.kind record_.kind (are.kind_is ∙ as_laid.head.kind_is);
      n0_is = are.n0_is ∙ as_laid.head.n0_is;
      offset_is = are.offset_is ∙ as_laid.head.offset_is;
      first_is = are.first_is ∙ as_laid.head.first_is;
      directory_is = are.directory_is;
      place_is = omega (arith, are.place_is, as_laid.place_is);
      reports_are = are.reports_are ∙ as_laid.reports_are;
    }

-- ---- what is read of it by its parts

-- the frames of a level
pub frames_read : (s : Numbers) (cone : ℕ) (before : LogBefore) (record_ : LogRecord) (payload : List ℕ) (level : ℕ) → IsValid s → KeepsRules s cone before record_ →
    payload ≡ log_payload_of record_ → 1 ≤ level → level ≤ s.levels →
    frames_in s payload level ≡ slice_index_or record_.directory (level - 1) []
frames_read s cone before record_ payload level valid rules is first last =
    let as_laid = laid s cone before record_ payload valid rules is in
    let below : level - 1 < length record_.directory = omega (arith, first, last, rules.levels) in
    ap (frames_in s payload) (let same : level ≡ level - 1 + 1 = omega (arith, first) in same)
    ∙ frames_back s payload (little_bytes 4 (length record_.reports) ++ flat_map report_bytes record_.reports) record_.n0 record_.directory
    (λ k less. rules.frames k (omega (arith, less, rules.levels))) as_laid.head.behind (sym as_laid.head.n0_is) (level - 1) below

-- and a report
pub report_read : (s : Numbers) (cone : ℕ) (before : LogBefore) (record_ : LogRecord) (payload : List ℕ) (parts : LogParts) (k : ℕ) (other : Report) → IsValid s →
    KeepsRules s cone before record_ → payload ≡ log_payload_of record_ → TellOf record_ parts → k < parts.reports →
    report_in payload (parts.reports_at + 16 * k) ≡ slice_index_or record_.reports k other
report_read s cone before record_ payload parts k other valid rules is tell below =
    let count = little_bytes 4 (length record_.reports) in
    let reports = flat_map report_bytes record_.reports in
    let directory = directory_bytes record_.directory in
    let from_count : Stands payload (25 + length directory) (count ++ reports) =
    stands_behind payload directory (count ++ reports) 25 (25 + length directory) refl (head_of record_ payload is).behind in
    let from_reports : Stands payload parts.reports_at reports = stands_behind payload count reports (25 + length directory) parts.reports_at (omega (arith, tell.place_is)) from_count in
    let among : k < length record_.reports = omega (arith, below, tell.reports_are) in
    let found = report_stands payload record_.reports parts.reports_at k other from_reports among in
    let at_fits : (slice_index_or record_.reports k other).at < 2 ^ 64 = omega (arith, (rules.reports.placed k other among).2, n0_small s record_.n0 valid rules.within) in
    report_back payload found.0 (parts.reports_at + 16 * k) (slice_index_or record_.reports k other) (rules.reports.fit k other among) at_fits found.1

-- so the record that is read is the one that was written
pub record_back : (s : Numbers) (cone : ℕ) (before : LogBefore) (record_ : LogRecord) (payload : List ℕ) (parts : LogParts) → IsValid s → KeepsRules s cone before record_ →
    payload ≡ log_payload_of record_ → ArePartsOf s payload parts →
    record_in s payload parts ≡ record_
record_back s cone before record_ payload parts valid rules is are =
    let tell = parts_tell s cone before record_ payload parts valid rules is are in
    let report_of : ℕ → Report = λ k. report_in payload (parts.reports_at + 16 * k) in
    let levels = length-map-range_with_len (frames_in s payload) 1 s.levels in
    let reports = length-map-range_with_len report_of 0 parts.reports in
    let directory_is : map (frames_in s payload) (range_with_len 1 s.levels) ≡ record_.directory =
    ext_get_or [] (map (frames_in s payload) (range_with_len 1 s.levels)) record_.directory (levels ∙ sym rules.levels)
    (λ k below.
    let among : k < s.levels = omega (arith, below, levels) in
    get_or-map-range_with_len (frames_in s payload) 1 s.levels k (1 + k) [] among refl
    ∙ (frames_read s cone before record_ payload (1 + k) valid rules is (omega arith) (omega (arith, among))
    ∙ ap (λ j. slice_index_or record_.directory j []) (let same : 1 + k - 1 ≡ k = omega arith in same))) in
    let reports_are : map report_of (range_with_len 0 parts.reports) ≡ record_.reports =
    same_lists (map report_of (range_with_len 0 parts.reports)) record_.reports (reports ∙ tell.reports_are)
    (λ k other below.
    let among : k < parts.reports = omega (arith, below, reports) in
    get_or-map-range_with_len report_of 0 parts.reports k k other among (zero-add k)
    ∙ report_read s cone before record_ payload parts k other valid rules is tell among) in
    λ i. record { kind = tell.kind_is i; n0 = tell.n0_is i; offset = tell.offset_is i; first = tell.first_is i; directory = directory_is i; reports = reports_are i }

-- so it is read, whatever tells where a payload leaves the format
pub reads_back : (s : Numbers) (cone : ℕ) (before : LogBefore) (payload : List ℕ) (result : Result LogParts ℕ) → IsValid s →
    MatchResult result (λ parts. (log_left s cone before payload ≡ None) × ArePartsOf s payload parts) (λ place. log_left s cone before payload ≡ Some place) →
    (record_ : LogRecord) → KeepsRules s cone before record_ → payload ≡ log_payload_of record_ → IsOkAnd result (λ parts. TellOf record_ parts × (record_in s payload parts ≡ record_))
reads_back s cone before payload (Ok parts) valid found record_ rules is =
    (parts_tell s cone before record_ payload parts valid rules is found.1, record_back s cone before record_ payload parts valid rules is found.1)
reads_back s cone before payload (Err place) valid left record_ rules is = none-some place (sym (never_left s cone before record_ payload valid rules is) ∙ left)

-- ---- the parts of a record

abbrev pub parts_of : LogRecord → LogParts
parts_of record_ = record {
  kind = record_.kind;
  n0 = record_.n0;
  offset = record_.offset;
  first = record_.first;
  directory_at = 25;
  reports_at = 29 + length (directory_bytes record_.directory);
  reports = length record_.reports;
}

-- they are those of its payload
pub parts_stand : (s : Numbers) (cone : ℕ) (before : LogBefore) (record_ : LogRecord) (payload : List ℕ) → IsValid s → KeepsRules s cone before record_ →
    payload ≡ log_payload_of record_ → ArePartsOf s payload (parts_of record_)
parts_stand s cone before record_ payload valid rules is =
    let as_laid = laid s cone before record_ payload valid rules is in
    record {
      kind_is = sym as_laid.head.kind_is;
      n0_is = sym as_laid.head.n0_is;
      offset_is = sym as_laid.head.offset_is;
      first_is = sym as_laid.head.first_is;
      directory_is = refl;
      place_is = omega (arith, as_laid.place_is);
      reports_are = sym as_laid.reports_are;
      within = rules.within;
      ends = omega (arith, as_laid.reports_stand.within, as_laid.place_is, length_reports record_.reports);
    }
