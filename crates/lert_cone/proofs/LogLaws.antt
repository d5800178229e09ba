-- The records of a cone's log as events come: none at first, one more at each flush, and the closing one.
use Rattle.lert_spec.specs.Counts.{weighed}
use Rattle.lert_spec.specs.declared.item.Item.{Item}
use Rattle.std.proofs.Common.{ℕ, zero, suc, ◌≡◌, ◌≢◌, ◌+◌, ◌-◌, ◌*◌, ◌/◌, ◌<◌, ◌≤◌, Bool, true, false, ltb, List, [], ◌∷◌, ◌++◌, length, take, drop, get_or, map, min, max, All, refl, ap, sym, ◌∙◌}
use Rattle.std.proofs.{Common.{arith, inl, inr, subst, length-append, append_assoc}, Math.Numerals.add-one, Math.Seq.drop-append_seam}
use Rattle.std.proofs.{lemmas.List.{append-nil, length-map, take-append-le, take_all, get_or-map, get_or_at, get_or-append-add}, lemmas.List.Elements.All-map, lemmas.List.Folds.flat_map-map}
use Rattle.std.proofs.lemmas.List.Sums.{length-filter}
use Rattle.std.specs.{Prelude.{flat_map, slice_index_or, replicate, count_by}, List.{AllPairs, range_with_len}}
use Rattle.lert_levels.specs.{declared.rows.bin_at.BinAt.BinAt, rows.Ranges.{Range, range_at, ranges}, rows.Rows.{directory_text, range_of, row_of, IsAt, IsRow, AreRows}}
use Rattle.lert_reports.specs.{declared.log.LogKind.LogKind, Log.{AreRecords, is_closed, last_n0, last_at, listed_in, before_of, flushes_in}, LogRules.{IsInTurn, AreFrames, AreNew, KeepsRules}}
use Rattle.lert_reports.specs.LogText.{LogRecord, bin_count, directory_bytes, log_payload, log_payload_of, next_flush}
use Rattle.lert_reports.proofs.LogLaws.{records_none, records_more, ends, listed_in-push, last_n0-push, is_closed-push, last_directory-push, last_at-push}
use Rattle.lert_spec.specs.{declared.numbers.Numbers.Numbers, declared.report.Report.Report, Edges.{span, edge, capacity}, Limits.IsValid, Look.{look_of, closing_of}}
use Rattle.lert_spec.proofs.{LookLaws.HaveKeys, TailLaws.IsPartOf}
use Rattle.lert_cone.specs.{declared.journal_places.JournalPlace.JournalPlace, Framed.{last_flush, flushed}, Logged.{frames_of, next_record, IsLogOf}, JournalPlaces.MayName}
use Rattle.lert_cone.proofs.FlushLaws.{before_next, flush_stays, flush_there, flushes_are, flushes_at, last_flush_within, longer}
use Rattle.lert_cone.proofs.MadeReports.{AreReports, BeginsWith, IsReport, apart, closing_are, closing_begins, count_map, flushed_begin, look_are}

-- ---- directories

-- the directory of a record is the one of the levels
pub directory_is : (rows : List (List BinAt)) → directory_bytes (frames_of rows) ≡ directory_text rows
directory_is rows =
    let frames : List BinAt → List ℕ = λ row. map (λ bin. bin.frame) row in
    flat_map-map (λ (ns : List ℕ). length ns ∷ ns) frames rows
    ∙ λ i. flat_map (λ (row : List BinAt). length-map row (λ (bin : BinAt). bin.frame) i ∷ frames row) rows

-- levels without bins have no frames
frames_none : (n : ℕ) → replicate n [] ≡ frames_of (replicate n [])
frames_none zero = refl
frames_none (suc n) = ap (λ (levels : List (List ℕ)). [] ∷ levels) (frames_none n)

-- a record's payload is what is written of it
pub payload_is : (kind : LogKind) (n0 : ℕ) (place : JournalPlace) (rows : List (List BinAt)) (records : List LogRecord) (reports : List Report) →
    log_payload kind n0 place.gate place.first (directory_text rows) (drop (length (listed_in records)) reports) ≡ log_payload_of (next_record kind n0 place rows records reports)
payload_is kind n0 place rows records reports =
    ap (λ directory. log_payload kind n0 place.gate place.first directory (drop (length (listed_in records)) reports)) (sym (directory_is rows))

-- ---- no event, and a position without a flush

pub log_none : (s : Numbers) (cone : ℕ) → IsLogOf s cone [] (replicate s.levels []) false []
log_none s cone = record {
  rules = records_none s cone;
  closed_is = refl;
  n0_is = refl;
  directory_is = frames_none s.levels;
  reports_are = refl;
}

pub log_between : (s : Numbers) (cone : ℕ) (events : List Item) (item : Item) (rows : List (List BinAt)) (records : List LogRecord) →
    edge s 0 (suc (length events)) ≡ edge s 0 (length events) → IsLogOf s cone events rows false records → IsLogOf s cone (events ++ item ∷ []) rows false records
log_between s cone events item rows records stays is =
    let n = length events in
    let all = events ++ item ∷ [] in
    let last : last_flush s (length all) ≡ last_flush s n = ap (last_flush s) (longer events item) ∙ flush_stays s n stays in
    let same : flushed s all ≡ flushed s events =
    ap (λ k. take k all) last ∙ take-append-le (last_flush s n) events (item ∷ []) (last_flush_within s n) in
    record {
      rules = is.rules;
      closed_is = is.closed_is;
      n0_is = is.n0_is ∙ sym last;
      directory_is = is.directory_is;
      reports_are = is.reports_are ∙ ap (look_of weighed s) (sym same);
    }

-- ---- the frames of a record

-- a record counts a level's bins as its ranges
pub bins_are : (s : Numbers) (level n : ℕ) → bin_count s level n ≡ length (ranges s n level)
bins_are s level n =
    let width = span s level in
    let low = edge s level n in
    let high = edge s (level - 1) n in
    let some : Range → Bool = λ range. ltb range.from range.to in
    let intervals = range_with_len 0 (suc (n / width)) in
    (λ i. count_by (λ k. ltb (max low (k * width)) (min high (add-one k i * width))) (range_with_len 0 (add-one (n / width) i)))
    ∙ sym (length-filter some (map (range_at width low high) intervals) ∙ count_map (range_at width low high) some intervals)

-- the frames of rows are those of a record
pub frames_are : (s : Numbers) (n : ℕ) (rows : List (List BinAt)) → IsAt s n rows → AreRows s rows → (k : ℕ) → k < s.levels → AreFrames s (k + 1) n (slice_index_or (frames_of rows) k [])
frames_are s n rows at are k below =
    let frame : BinAt → ℕ = λ bin. bin.frame in
    let frames : List BinAt → List ℕ = λ row. map frame row in
    let row = get_or rows k [] in
    let level = k + 1 in
    let row_is : row_of rows level ≡ row = ap (λ i. get_or rows i []) (let same : k + 1 - 1 ≡ k = omega arith in same) in
    let here : get_or (frames_of rows) k [] ≡ frames row = get_or-map frames rows k [] [] (omega (arith, at.levels, below)) in
    let is : IsRow s level row = subst (IsRow s level) row_is (are.each level (omega arith) (omega (arith, below))) in
    let positions : map range_of row ≡ ranges s n level = ap (map range_of) (sym row_is) ∙ at.each level (omega arith) (omega (arith, below)) in
    let long = length-map row frame in
    let none : BinAt = record { from = 0; to = 0; frame = 0 } in
    subst (AreFrames s level n) (sym here)
    (record {
      counted = long ∙ sym (length-map row range_of) ∙ ap (length {A = Range}) positions ∙ sym (bins_are s level n);
      known = All-map (λ (f : ℕ). f ≤ s.bins) frame row is.frames;
      distinct = λ i j d less within same.
          apart frame row is.distinct i j none less (omega (arith, within, long))
          (sym (get_or-map frame row i none d (omega (arith, less, within, long))) ∙ same ∙ get_or-map frame row j none d (omega (arith, within, long)));
    })

-- ---- a record more

-- those that aren't listed come at no earlier position than the last one that is
later : (listed new : List Report) → AllPairs (λ one other. one.at ≤ other.at) (listed ++ new) → All (λ report. last_at listed ≤ report.at) new
later listed new ascending k d below =
    let whole = length-append listed new in
    let there : get_or (listed ++ new) (length listed + k) d ≡ get_or new k d = get_or-append-add listed new k d in
    elim (ends listed) [
      | inl empty ↦ (let none : last_at listed ≡ 0 = ap last_at empty in omega (arith, none))
      | inr more ↦ (
          let front = more.front in
          let last = more.last in
          let last_is : last_at listed ≡ last.at = ap last_at more.is ∙ last_at-push front last in
          let long = ap (length {A = Report}) more.is ∙ length-append front (last ∷ []) in
          let here : get_or (listed ++ new) (length front) d ≡ last =
          ap (λ reports. get_or (reports ++ new) (length front) d) more.is
          ∙ ap (λ reports. get_or reports (length front) d) (append_assoc front (last ∷ []) new)
          ∙ get_or_at front last new d (length front) refl in
          let pair = ascending (length front) (length listed + k) d (omega (arith, long)) (omega (arith, whole, below)) in
          omega (arith, pair, last_is, ap (λ (report : Report). report.at) here, ap (λ (report : Report). report.at) there))
    ]

-- behind the listed ones they are new
new_are : (s : Numbers) (cone n : ℕ) (listed new : List Report) → AreReports s cone n (listed ++ new) → AreNew s cone (last_at listed) n new
new_are s cone n listed new are =
    let whole = length-append listed new in
    let there : (k : ℕ) (d : Report) → get_or (listed ++ new) (length listed + k) d ≡ get_or new k d = λ k d. get_or-append-add listed new k d in
    let each : All (IsReport s cone n) new = λ k d below. subst (IsReport s cone n) (there k d) (are.each (length listed + k) d (omega (arith, whole, below))) in
    let at : Report → ℕ = λ report. report.at in
    record {
      fit = λ k d below. (each k d below).fits;
      of_cone = λ k d below. (each k d below).own;
      placed = λ k d below. ((each k d below).from, later listed new are.ascending k d below, (each k d below).to);
      ascending = λ i j d less within.
          omega (
            arith,
            are.ascending (length listed + i) (length listed + j) d (omega (arith, less)) (omega (arith, whole, within)),
            ap at (there i d),
            ap at (there j d),
          );
    }

-- the reports that aren't listed, behind those that are
rest_is : (listed reports : List Report) → BeginsWith listed reports → listed ++ drop (length listed) reports ≡ reports
rest_is listed reports begun =
    ap (λ rs. listed ++ drop (length listed) rs) begun.is
    ∙ ap (λ rs. listed ++ rs) (drop-append_seam listed begun.more)
    ∙ sym begun.is

-- a record that keeps the rules behind others, and what the log holds with it
pub record LogsNext (s : Numbers) (cone : ℕ) (events : List Item) (rows : List (List BinAt)) (closed : Bool) (records : List LogRecord) (one : LogRecord) : Type 0 where
  pub keeps : KeepsRules s cone (before_of records) one
  pub is : IsLogOf s cone events rows closed (records ++ one ∷ [])

module _ (s : Numbers) (valid : IsValid s) (cone : ℕ) (kind : LogKind) (n0 : ℕ) (place : JournalPlace) (rows : List (List BinAt)) (records : List LogRecord) (reports : List Report)
    (may : MayName s n0 place) (within : n0 ≤ capacity s) (turn : IsInTurn s (before_of records) kind n0) (at : IsAt s n0 rows) (are_rows : AreRows s rows)
    (are : AreReports s cone n0 reports) (few : length reports ≤ s.room) (begun : BeginsWith (listed_in records) reports) (rules : AreRecords s cone records)
    (still_open : is_closed records ≡ false) where
  abbrev one : LogRecord
  one = next_record kind n0 place rows records reports

  abbrev new : List Report
  new = drop (length (listed_in records)) reports

  whole : listed_in records ++ new ≡ reports
  whole = rest_is (listed_in records) reports begun

  keeps_rules : KeepsRules s cone (before_of records) one
  keeps_rules = record {
    within = within;
    in_turn = turn;
    offset_from = may.offset_from;
    offset_to = may.offset_to;
    first_from = may.first_from;
    first_to = may.first_to;
    levels = length-map rows (λ (row : List BinAt). map (λ (bin : BinAt). bin.frame) row) ∙ at.levels;
    frames = frames_are s n0 rows at are_rows;
    room = omega (arith, few, ap (length {A = Report}) whole, length-append (listed_in records) new);
    reports = new_are s cone n0 (listed_in records) new (subst (AreReports s cone n0) (sym whole) are);
  }

  more_records : AreRecords s cone (records ++ one ∷ [])
  more_records = records_more s cone records one rules still_open keeps_rules (subst (AllPairs (λ (earlier later : Report). earlier.key ≢ later.key)) (sym whole) are.distinct)

  all_listed : listed_in (records ++ one ∷ []) ≡ reports
  all_listed = listed_in-push records one ∙ whole

-- a flush adds the record of the rows that it made, and lists the reports that were made up to there
pub log_at_flush : (s : Numbers) (valid : IsValid s) (cone : ℕ) (events : List Item) (item : Item) (place : JournalPlace) (rows_before rows : List (List BinAt)) (records : List LogRecord)
    (reports : List Report) →
    MayName s (suc (length events)) place → suc (length events) ≤ capacity s → edge s 0 (suc (length events)) ≢ edge s 0 (length events) → HaveKeys s weighed (events ++ item ∷ []) → IsPartOf
    weighed s cone
    (events ++ item ∷ []) →
    IsAt s (suc (length events)) rows → AreRows s rows → reports ≡ look_of weighed s (events ++ item ∷ []) → length reports ≤ s.room → IsLogOf s cone events rows_before false records →
    LogsNext s cone (events ++ item ∷ []) rows false records (next_record LogKind.Flush (suc (length events)) place rows records reports)
log_at_flush s valid cone events item place rows_before rows records reports may within moves keys own at are_rows reports_are few is =
    let n = length events in
    let all = events ++ item ∷ [] in
    let one = next_record LogKind.Flush (suc n) place rows records reports in
    let positive : 1 ≤ s.threshold = omega (arith, valid.limits.threshold_from) in
    let long = longer events item in
    let last : last_flush s (length all) ≡ suc n = ap (last_flush s) long ∙ flush_there s n moves in
    let turn : suc n ≡ next_flush s (flushes_in records) = (flushes_at s valid n moves).place ∙ ap (next_flush s) (sym (flushes_are s valid cone events rows_before records is)) in
    let are : AreReports s cone (suc n) reports =
    subst (λ k. AreReports s cone k reports) long (subst (AreReports s cone (length all)) (sym reports_are) (look_are s all valid (omega (arith, within, long)) cone keys own)) in
    let begun : BeginsWith (listed_in records) reports =
    subst (λ rs. BeginsWith rs reports) (sym is.reports_are) (subst (BeginsWith (look_of weighed s (flushed s events))) (sym reports_are) (flushed_begin s events (item ∷ []) positive keys)) in
    let flushed_all : flushed s all ≡ all = take_all (last_flush s (length all)) all (omega (arith, last, long)) in
    record {
      keeps = keeps_rules s valid cone LogKind.Flush (suc n) place rows records reports may within turn at are_rows are few begun is.rules is.closed_is;
      is = record {
        rules = more_records s valid cone LogKind.Flush (suc n) place rows records reports may within turn at are_rows are few begun is.rules is.closed_is;
        closed_is = is_closed-push records one;
        n0_is = last_n0-push records one ∙ sym last;
        directory_is = last_directory-push s records one;
        reports_are = all_listed s valid cone LogKind.Flush (suc n) place rows records reports may within turn at are_rows are few begun is.rules is.closed_is ∙ reports_are
            ∙ ap (look_of weighed s) (sym flushed_all);
      };
    }

-- closing adds a record after all events, with the rows of the last flush, and lists all reports
pub log_at_close : (s : Numbers) (valid : IsValid s) (cone : ℕ) (events : List Item) (place : JournalPlace) (rows : List (List BinAt)) (records : List LogRecord) (reports : List Report) →
    MayName s (length events) place → length events ≤ capacity s → HaveKeys s weighed events → IsPartOf weighed s cone events → IsAt s (length events) rows → AreRows s rows → reports ≡ closing_of
    weighed s events →
    length reports ≤ s.room →
    IsLogOf s cone events rows false records →
    LogsNext s cone events rows true records (next_record LogKind.Closing (length events) place rows records reports)
log_at_close s valid cone events place rows records reports may within keys own at are_rows reports_are few is =
    let n = length events in
    let one = next_record LogKind.Closing n place rows records reports in
    let positive : 1 ≤ s.threshold = omega (arith, valid.limits.threshold_from) in
    let early : last_n0 records ≤ n = omega (arith, is.n0_is, last_flush_within s n) in
    let next : n < next_flush s (flushes_in records) = subst (λ k. n < next_flush s k) (sym (flushes_are s valid cone events rows records is)) (before_next s valid n) in
    let are : AreReports s cone n reports = subst (AreReports s cone n) (sym reports_are) (closing_are s events valid within cone keys own) in
    let looked : BeginsWith (look_of weighed s (flushed s events)) (look_of weighed s events) =
    subst (λ xs. BeginsWith (look_of weighed s (flushed s events)) (look_of weighed s xs)) (append-nil events) (flushed_begin s events [] positive (subst (HaveKeys s weighed)
    (sym (append-nil events)) keys)) in
    let begun : BeginsWith (listed_in records) reports =
    subst (λ rs. BeginsWith rs reports) (sym is.reports_are)
    (subst (BeginsWith (look_of weighed s (flushed s events))) (sym reports_are) (closing_begins s events (look_of weighed s (flushed s events)) looked)) in
    record {
      keeps = keeps_rules s valid cone LogKind.Closing n place rows records reports may within (early, next) at are_rows are few begun is.rules is.closed_is;
      is = record {
        rules = more_records s valid cone LogKind.Closing n place rows records reports may within (early, next) at are_rows are few begun is.rules is.closed_is;
        closed_is = is_closed-push records one;
        n0_is = last_n0-push records one;
        directory_is = last_directory-push s records one;
        reports_are = all_listed s valid cone LogKind.Closing n place rows records reports may within (early, next) at are_rows are few begun is.rules is.closed_is ∙ reports_are;
      };
    }
