-- What was read of a log, with one record more.
use Rattle.std.proofs.Common.{ℕ, zero, suc, ◌≡◌, ◌≢◌, ◌+◌, ◌*◌, ◌<◌, ◌≤◌, ◌^◌, Bool, true, false, cond, eqb, List, [], ◌∷◌, ◌++◌, length, map, take, drop, get_or, refl, ap, sym, ◌∙◌, subst, arith}
use Rattle.std.proofs.{Common.{append_assoc, length-append}, Math.Nat.mul-le-mul, lemmas.Bool.{eq-eqb, eqb-true, true≢false}, lemmas.Bool.Decides.Decides-eqb, lemmas.List.{append-nil, take_at}}
use Rattle.std.proofs.{lemmas.List.Concat.flat_map-cons, lemmas.List.Folds.{Any-from_list_any, list_any_at}, lemmas.List.Quantifiers.all_pairs_push, lemmas.Map.Made.IsDistinct-from_AllPairs}
use Rattle.std.proofs.lemmas.Map.Steps.{length-le_from_distinct_below}
use Rattle.std.specs.{Prelude.{flat_map, replicate, slice_index_or}, List.AllPairs}
use Rattle.byteorder.specs.Endian.{little_bytes}
use Rattle.lert_bay.specs.Settled.{part}
use Rattle.lert_gatelog.specs.Gated.{IsClosed, IsOpen, Records, next_gate}
use Rattle.lert_spec.specs.{declared.numbers.Numbers.Numbers, declared.report.Report.Report, Edges.capacity, Limits.IsValid, Look.is_listed}
use Rattle.lert_spec.proofs.LimitLaws.{capacity_to}
use Rattle.lert_reports.specs.{declared.log.LogBefore.LogBefore, declared.log.LogKind.LogKind}
use Rattle.lert_reports.specs.Log.{is_closed, is_closing, is_flush, flushes_in, last_at, last_n0, listed_in, most_record, log_header, before_of, AreRecords, HasLog, HasLogUpTo}
use Rattle.lert_reports.specs.{LogRules.{AreFrames, KeepsRules}, LogText.{LogRecord, directory_bytes, log_payload_of, report_bytes}}
use Rattle.lert_reports.proofs.LogLaws.{flushes_in-push, is_closed-push, last_directory-push, last_first-push, last_n0-push, last_offset-push, listed_in-push, payloads-push, records_more}
use Rattle.lert_reports.proofs.LogLaws.{records_none}
use Rattle.lert_files.specs.{declared.log_record.Progress.Progress, Read.{most_directory, steps, HasRead}, Repeated.{reports_from, AreNewThere}}
use Rattle.lert_files.proofs.{RecordsLaws.together, RepeatLaws.listed_more}

-- ---- keys that are new, all of them

not_there : (key : ℕ) (xs : List Report) → is_listed key xs ≡ false → (k : ℕ) (d : Report) → k < length xs → (get_or xs k d).key ≢ key
not_there key xs new k d below same =
    true≢false (sym (list_any_at (λ (report : Report). eqb report.key key) xs k d below (eq-eqb (get_or xs k d).key key same)) ∙ new)

pub all_new : (listed : List Report) (payload : List ℕ) (start n : ℕ) → AllPairs (λ one other. one.key ≢ other.key) listed → AreNewThere listed payload start n →
    AllPairs (λ one other. one.key ≢ other.key) (listed ++ reports_from payload start n)
all_new listed payload start zero once new = subst (AllPairs (λ (one other : Report). one.key ≢ other.key)) (sym (append-nil listed)) once
all_new listed payload start (suc n) once new =
    let front = listed ++ reports_from payload start n in
    let more = all_pairs_push (λ (one other : Report). one.key ≢ other.key) front _ (all_new listed payload start n once (λ k below. new k (omega (arith, below))))
    (not_there _ front (new n (omega arith))) in
    let next : n + 1 ≡ suc n = omega arith in
    subst (λ m. AllPairs (λ (one other : Report). one.key ≢ other.key) (listed ++ reports_from payload start m)) next
    (subst (AllPairs (λ (one other : Report). one.key ≢ other.key)) (sym (listed_more payload start listed n)) more)

-- ---- the directory of a record

-- a level has at most one frame for each of its numbers
frames_few : (s : Numbers) (level n : ℕ) (frames : List ℕ) → AreFrames s level n frames → length frames ≤ s.bins + 1
frames_few s level n frames are =
    length-le_from_distinct_below frames (s.bins + 1) (IsDistinct-from_AllPairs Decides-eqb frames are.distinct)
    (λ q listed.
    let found = Any-from_list_any (eqb q) frames listed in
    omega (arith, are.known found.0 found.1 found.2, found.3, eqb-true q found.1 found.4))

bytes_few : (levels : List (List ℕ)) (most : ℕ) → ((k : ℕ) → k < length levels → length (slice_index_or levels k []) ≤ most) → length (directory_bytes levels) ≤ length levels *
    (1 + most)
bytes_few [] most each = omega arith
bytes_few (frames ∷ levels) most each =
    let rest = bytes_few levels most (λ k below. each (suc k) (omega (arith, below))) in
    let first = each 0 (omega arith) in
    let parts = ap (length {A = ℕ}) (flat_map-cons (λ (f : List ℕ). length f ∷ f) frames levels) in
    omega (arith, rest, first, parts, length-append (length frames ∷ frames) (directory_bytes levels))

pub directory_fits : (s : Numbers) (cone : ℕ) (before : LogBefore) (one : LogRecord) → KeepsRules s cone before one → length (directory_bytes one.directory) ≤ most_directory s
directory_fits s cone before one keeps =
    let few = bytes_few one.directory (s.bins + 1) (λ k below. frames_few s (k + 1) one.n0 (slice_index_or one.directory k [])
    (keeps.frames k (omega (arith, below, keeps.levels)))) in
    omega (arith, few, ap (λ n. n * (1 + (s.bins + 1))) keeps.levels)

-- and finds room
pub most_directory_fits : (s : Numbers) → IsValid s → most_directory s ≤ 144
most_directory_fits s valid =
    let levels : s.levels ≤ 8 = omega (arith, valid.limits.levels_to) in
    let frames : 2 + s.bins ≤ 18 = omega (arith, valid.limits.bins_to) in
    mul-le-mul levels frames

-- it stands behind the four fields that begin the payload
pub directory_there : (one : LogRecord) (payload : List ℕ) (n : ℕ) → payload ≡ log_payload_of one → n ≡ length (directory_bytes one.directory) →
    take n (drop 25 payload) ≡ directory_bytes one.directory
directory_there one payload n is n_is =
    let directory = directory_bytes one.directory in
    let count = little_bytes 4 (length one.reports) in
    let reports = flat_map report_bytes one.reports in
    ap (λ bytes. take n (drop 25 bytes)) is
    ∙ (ap (take n) (append_assoc directory count reports) ∙ take_at directory (count ++ reports) n (sym n_is))

-- ---- one record more

-- what is said behind a record that was read
pub record IsAfter (progress next : Progress) (reports : List Report) (one : LogRecord) : Type 0 where
  pub before_is : next.before ≡ record { flushes = progress.before.flushes + cond (is_flush one.kind) 1 0; n0 = one.n0; reports = length reports; at = last_at reports }
  pub offset_is : next.offset ≡ one.offset
  pub first_is : next.first ≡ one.first
  pub closed_is : next.closed ≡ is_closing one.kind

module _ (s : Numbers) (cone : ℕ) (progress next : Progress) (listed now : List Report) (directory bytes : List ℕ) (records : List LogRecord) (one : LogRecord)
    (has : HasRead s cone progress listed directory records) (still_open : progress.closed ≡ false)
    (keeps : KeepsRules s cone progress.before one) where
  pub keeps_behind : KeepsRules s cone (before_of records) one
  keeps_behind = subst (λ before. KeepsRules s cone before one) has.before_is keeps

  pub open_behind : is_closed records ≡ false
  open_behind = sym has.is_read.closed_is ∙ still_open

  module _ (once : AllPairs (λ earlier later. earlier.key ≢ later.key) (listed ++ one.reports)) where
    pub rules_more : AreRecords s cone (records ++ one ∷ [])
    rules_more =
        records_more s cone records one has.is_read.rules open_behind keeps_behind
        (subst (λ reports. AllPairs (λ (earlier later : Report). earlier.key ≢ later.key) (reports ++ one.reports)) has.is_read.reports_are once)

    module _ (after : IsAfter progress next now one) (now_is : now ≡ listed ++ one.reports) (bytes_are : bytes ≡ directory_bytes one.directory) where
      listed_now : now ≡ listed_in (records ++ one ∷ [])
      listed_now = now_is ∙ (ap (λ reports. reports ++ one.reports) has.is_read.reports_are ∙ sym (listed_in-push records one))

      before_now : next.before ≡ before_of (records ++ one ∷ [])
      before_now =
          let flushes : progress.before.flushes + cond (is_flush one.kind) 1 0 ≡ flushes_in (records ++ one ∷ []) =
          ap (λ (before : LogBefore). before.flushes + cond (is_flush one.kind) 1 0) has.before_is ∙ sym (flushes_in-push records one) in
          let n0 : one.n0 ≡ last_n0 (records ++ one ∷ []) = sym (last_n0-push records one) in
          after.before_is ∙ (λ i. record { flushes = flushes i; n0 = n0 i; reports = length (listed_now i); at = last_at (listed_now i) })

      pub read_more : HasRead s cone next now bytes (records ++ one ∷ [])
      read_more = record {
        is_read = record {
          rules = rules_more;
          n0_is = ap (λ (before : LogBefore). before.n0) before_now;
          offset_is = after.offset_is ∙ sym (last_offset-push records one);
          first_is = after.first_is ∙ sym (last_first-push records one);
          closed_is = after.closed_is ∙ sym (is_closed-push records one);
          reports_are = listed_now;
          directory_is = bytes_are ∙ ap directory_bytes (sym (last_directory-push s records one));
        };
        before_is = before_now;
      }

pub steps_more : (progress next : Progress) (reports : List Report) (one : LogRecord) → progress.closed ≡ false → IsAfter progress next reports one →
    steps next ≡ steps progress + 1
steps_more progress next reports one still_open after =
    let flushes = ap (λ (before : LogBefore). before.flushes) after.before_is in
    one_step one.kind
    (flushes)
    (ap (λ c. cond {A = ℕ} c 1 0) after.closed_is)
    (ap (λ c. cond {A = ℕ} c 1 0) still_open)
  where
    one_step : (kind : LogKind) → next.before.flushes ≡ progress.before.flushes + cond (is_flush kind) 1 0 → cond {A = ℕ} next.closed 1 0 ≡ cond (is_closing kind) 1 0 →
        cond {A = ℕ} progress.closed 1 0 ≡ 0 → steps next ≡ steps progress + 1
    one_step LogKind.Flush flushes closed shut = omega (arith, flushes, closed, shut)
    one_step LogKind.Closing flushes closed shut = omega (arith, flushes, closed, shut)

-- ---- no record yet

no_frames : (levels : ℕ) → replicate levels 0 ≡ directory_bytes (replicate levels [])
no_frames zero = refl
no_frames (suc levels) = ap (λ bytes. 0 ∷ bytes) (no_frames levels)

pub read_none : (s : Numbers) (cone : ℕ) (progress : Progress) (reports : List Report) (directory : List ℕ) →
    progress ≡ record { before = record { flushes = 0; n0 = 0; reports = 0; at = 0 }; offset = 32; first = 1; closed = false } → reports ≡ [] →
    directory ≡ replicate s.levels 0 → HasRead s cone progress reports directory []
read_none s cone progress reports directory is empty bytes = record {
  is_read = record {
    rules = records_none s cone;
    n0_is = ap (λ (p : Progress). p.before.n0) is;
    offset_is = ap (λ (p : Progress). p.offset) is;
    first_is = ap (λ (p : Progress). p.first) is;
    closed_is = ap (λ (p : Progress). p.closed) is;
    reports_are = empty;
    directory_is = bytes ∙ no_frames s.levels;
  };
  before_is = ap (λ (p : Progress). p.before) is;
}

-- nothing more was read
pub read_still : (s : Numbers) (cone : ℕ) (progress now : Progress) (reports reports_now : List Report) (directory directory_now : List ℕ) (records : List LogRecord) →
    now ≡ progress → reports_now ≡ reports → directory_now ≡ directory →
    HasRead s cone progress reports directory records → HasRead s cone now reports_now directory_now records
read_still s cone progress now reports reports_now directory directory_now records same reports_are bytes_are has =
    subst (λ (p : Progress). HasRead s cone p reports_now directory_now records) (sym same)
    (subst (λ rs. HasRead s cone progress rs directory_now records) (sym reports_are) (subst (λ bytes. HasRead s cone progress reports bytes records) (sym bytes_are) has))

-- records up to a closed gate are a log
pub whole_log : (s : Numbers) (cone : ℕ) (bytes : List ℕ) (records : List LogRecord) (gate end : ℕ) → HasLogUpTo s cone bytes records gate → IsClosed bytes gate → end ≡ gate →
    HasLog s cone bytes records end
whole_log s cone bytes records gate end up shut same =
    subst (HasLog s cone bytes records) (sym same) (record { headed = up.headed; records_stand = record { records = up.records_stand; closed = shut }; rules = up.rules })

pub up_none : (s : Numbers) (cone : ℕ) (bytes : List ℕ) (gate : ℕ) → part bytes 0 8 ≡ log_header → gate ≡ 8 → HasLogUpTo s cone bytes [] gate
up_none s cone bytes gate headed gate_is = record { headed = headed; records_stand = gate_is; rules = records_none s cone }

-- ---- what every reading says of the next record

module _ (s : Numbers) (cone : ℕ) (valid : IsValid s) (progress : Progress) (listed : List Report) (directory : List ℕ) (records : List LogRecord)
    (has : HasRead s cone progress listed directory records) where
  pub counted : progress.before.reports ≡ length listed
  counted = ap (λ (before : LogBefore). before.reports) has.before_is ∙ ap (length {A = Report}) (sym has.is_read.reports_are)

  pub flushes_few : progress.before.flushes < 2 ^ 32
  flushes_few = omega (arith, ap (λ (before : LogBefore). before.flushes) has.before_is, (together s cone valid records has.is_read.rules).few, capacity_to s valid)

  -- one record for each flush, and the closing one
  pub steps_few : steps progress ≤ capacity s + 1
  steps_few = omega (arith, ap (λ (before : LogBefore). before.flushes) has.before_is, (together s cone valid records has.is_read.rules).few, one_bit progress.closed)
    where
      one_bit : (closed : Bool) → cond {A = ℕ} closed 1 0 ≤ 1
      one_bit true = omega arith
      one_bit false = omega arith

  -- so the gate behind them is near
  pub near : (gate : ℕ) → gate ≤ 8 + steps progress * (5 + most_record s) → most_record s < 2 ^ 27 → gate ≤ 2 ^ 62
  near gate reach short =
      let count : steps progress ≤ 4294967296 = omega (arith, steps_few, capacity_to s valid) in
      let size : 5 + most_record s ≤ 134217733 = omega (arith, short) in
      omega (arith, reach, mul-le-mul count size)

-- ---- the records in the file

records_stand : (most gate : ℕ) (payloads : List (List ℕ)) (payload bytes : List ℕ) (end : ℕ) → Records most bytes gate payloads end → IsOpen most bytes end payload →
    Records most bytes gate (payloads ++ payload ∷ []) (next_gate end payload)
records_stand most gate [] payload bytes end stand opened = (subst (λ g. IsOpen most bytes g payload) stand opened, ap (λ g. next_gate g payload) stand)
records_stand most gate (first ∷ payloads) payload bytes end stand opened = (stand.0, records_stand most (next_gate gate first) payloads payload bytes end stand.1 opened)

pub up_more : (s : Numbers) (cone : ℕ) (bytes : List ℕ) (records : List LogRecord) (one : LogRecord) (gate : ℕ) → HasLogUpTo s cone bytes records gate →
    IsOpen (most_record s) bytes gate (log_payload_of one) → AreRecords s cone (records ++ one ∷ []) →
    HasLogUpTo s cone bytes (records ++ one ∷ []) (next_gate gate (log_payload_of one))
up_more s cone bytes records one gate up opened rules = record {
  headed = up.headed;
  records_stand = subst (λ payloads. Records (most_record s) bytes 8 payloads (next_gate gate (log_payload_of one))) (sym (payloads-push records one))
      (records_stand (most_record s) 8 (map log_payload_of records) (log_payload_of one) bytes gate up.records_stand opened);
  rules = rules;
}
