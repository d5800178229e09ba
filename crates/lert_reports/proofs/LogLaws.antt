-- How a log grows by a record, what its records say together, and how long a payload is.
use Rattle.std.proofs.Common.{ℕ, ◌≡◌, ◌≢◌, ◌+◌, ◌*◌, Bool, false, cond, List, [], ◌∷◌, ◌++◌, length, map, refl, ap, ap₂, sym, ◌∙◌, arith, inl, inr, ◌⊎◌, subst, length-append}
use Rattle.std.proofs.{lemmas.List.{append-nil, map-append}, lemmas.List.Concat.flat_map-cons, lemmas.List.Sums.{fold_push, fold-append, sum_by_push}, lemmas.Grind.flat_map-append}
use Rattle.std.specs.{Prelude.{flat_map, fold}, List.AllPairs}
use Rattle.byteorder.specs.Endian.{little_bytes}
use Rattle.lert_spec.specs.{declared.numbers.Numbers.Numbers, declared.report.Report.Report}
use Rattle.lert_reports.specs.{declared.log.LogKind.LogKind, LogRules.KeepsRules, LogText.{LogRecord, kind_number, report_bytes, log_payload, log_payload_of}}
use Rattle.lert_reports.specs.Log.{is_flush, is_closing, listed_in, last_n0, is_closed, last_directory, last_offset, last_first, last_at, flushes_in, before_of, AreRecords}

-- ---- lists by their last element

-- a list is empty, or ends with an element
pub record EndsWith {A : Type 0} (xs : List A) : Type 0 where
  pub front : List A
  pub last : A
  pub is : xs ≡ front ++ last ∷ []

pub ends : {A : Type 0} (xs : List A) → (xs ≡ []) ⊎ EndsWith xs
ends [] = inl refl
ends (x ∷ xs) =
    elim (ends xs) [
      | inl empty ↦ inr (record { front = []; last = x; is = ap (λ rest. x ∷ rest) empty })
      | inr more ↦ inr (record { front = x ∷ more.front; last = more.last; is = ap (λ rest. x ∷ rest) more.is })
    ]

-- an element of a longer list is the last one, or one of the others
pub record IsAmong {A : Type 0} (xs before : List A) (x : A) : Type 0 where
  pub behind : List A
  pub is : xs ≡ before ++ x ∷ behind

pub split_push : {A : Type 0} (xs before behind : List A) (last x : A) → xs ++ last ∷ [] ≡ before ++ x ∷ behind → ((before ≡ xs) × (x ≡ last)) ⊎ IsAmong xs before x
split_push [] [] behind last x same = inl (refl, cc)
split_push {A = A} [] (b ∷ before) behind last x same = absurd (omega (arith, ap (length {A = A}) same, length-append before (x ∷ behind)))
split_push (y ∷ xs) [] behind last x same = (let first : y ≡ x = cc in inr (record { behind = xs; is = ap (λ h. h ∷ xs) first }))
split_push (y ∷ xs) (b ∷ before) behind last x same =
    let first : y ≡ b = cc in
    let rest : xs ++ last ∷ [] ≡ before ++ x ∷ behind = cc in
    elim (split_push xs before behind last x rest) [
      | inl ended ↦ inl (ap₂ (λ h t. h ∷ t) (sym first) ended.0, ended.1)
      | inr among ↦ inr (record { behind = among.behind; is = ap₂ (λ h t. h ∷ t) first among.is })
    ]

-- ---- one record more

pub listed_in-push : (records : List LogRecord) (one : LogRecord) → listed_in (records ++ one ∷ []) ≡ listed_in records ++ one.reports
listed_in-push records one =
    let reports : LogRecord → List Report = λ record_. record_.reports in
    flat_map-append reports records (one ∷ [])
    ∙ ap (λ more. listed_in records ++ more) (flat_map-cons reports one [] ∙ append-nil one.reports)

pub last_n0-push : (records : List LogRecord) (one : LogRecord) → last_n0 (records ++ one ∷ []) ≡ one.n0
last_n0-push records one = fold_push (λ (earlier : ℕ) (record_ : LogRecord). record_.n0) 0 records one

pub is_closed-push : (records : List LogRecord) (one : LogRecord) → is_closed (records ++ one ∷ []) ≡ is_closing one.kind
is_closed-push records one = fold_push (λ (earlier : Bool) (record_ : LogRecord). is_closing record_.kind) false records one

pub last_directory-push : (s : Numbers) (records : List LogRecord) (one : LogRecord) → last_directory s (records ++ one ∷ []) ≡ one.directory
last_directory-push s records one = fold_push (λ (earlier : List (List ℕ)) (record_ : LogRecord). record_.directory) (last_directory s []) records one

pub last_offset-push : (records : List LogRecord) (one : LogRecord) → last_offset (records ++ one ∷ []) ≡ one.offset
last_offset-push records one = fold_push (λ (earlier : ℕ) (record_ : LogRecord). record_.offset) 32 records one

pub last_first-push : (records : List LogRecord) (one : LogRecord) → last_first (records ++ one ∷ []) ≡ one.first
last_first-push records one = fold_push (λ (earlier : ℕ) (record_ : LogRecord). record_.first) 1 records one

pub flushes_in-push : (records : List LogRecord) (one : LogRecord) → flushes_in (records ++ one ∷ []) ≡ flushes_in records + cond (is_flush one.kind) 1 0
flushes_in-push records one = sum_by_push (λ (record_ : LogRecord). cond {A = ℕ} (is_flush record_.kind) 1 0) records one

pub last_at-push : (reports : List Report) (one : Report) → last_at (reports ++ one ∷ []) ≡ one.at
last_at-push reports one = fold_push (λ (earlier : ℕ) (report : Report). report.at) 0 reports one

-- the position of the last report, with more behind those that are listed
abbrev pub last_at_from : ℕ → List Report → ℕ
last_at_from at reports = fold (λ earlier report. report.at) at reports

pub last_at-append : (listed more : List Report) → last_at (listed ++ more) ≡ last_at_from (last_at listed) more
last_at-append listed more = fold-append (λ (earlier : ℕ) (report : Report). report.at) 0 listed more

-- ---- records that keep the rules

none_split : {A : Type 0} (before behind : List A) (x : A) → [] ≡ before ++ x ∷ behind → ⊥
none_split {A = A} before behind x same = omega (arith, ap (length {A = A}) same, length-append before (x ∷ behind))

pub records_none : (s : Numbers) (cone : ℕ) → AreRecords s cone []
records_none s cone = record {
  each = λ before behind one same. absurd (none_split before behind one same);
  open_before = λ before behind one same. absurd (none_split before behind one same);
  once = λ i j d less within. absurd (omega arith);
}

pub records_more : (s : Numbers) (cone : ℕ) (records : List LogRecord) (one : LogRecord) → AreRecords s cone records → is_closed records ≡ false →
    KeepsRules s cone (before_of records) one → AllPairs (λ earlier later. earlier.key ≢ later.key) (listed_in records ++ one.reports) → AreRecords s cone (records ++ one ∷ [])
records_more s cone records one are still_open keeps distinct = record {
  each = λ before behind x same. elim (split_push records before behind one x same) [
    | inl last ↦ subst (λ b. KeepsRules s cone (before_of b) x) (sym last.0) (subst (KeepsRules s cone (before_of records)) (sym last.1) keeps)
    | inr among ↦ are.each before among.behind x among.is
  ];
  open_before = λ before behind x same. elim (split_push records before behind one x same) [
    | inl last ↦ ap is_closed last.0 ∙ still_open
    | inr among ↦ are.open_before before among.behind x among.is
  ];
  once = subst (AllPairs (λ (earlier later : Report). earlier.key ≢ later.key)) (sym (listed_in-push records one)) distinct;
}

-- the last of some records keeps the rules behind the others, of which none is closing
pub last_keeps : (s : Numbers) (cone : ℕ) (front : List LogRecord) (last : LogRecord) → AreRecords s cone (front ++ last ∷ []) →
    KeepsRules s cone (before_of front) last × (is_closed front ≡ false)
last_keeps s cone front last are = (are.each front [] last refl, are.open_before front [] last refl)

-- ---- how long a payload is

length_reports : (reports : List Report) → length (flat_map report_bytes reports) ≡ 16 * length reports
length_reports [] = refl
length_reports (report ∷ reports) =
    let parts = ap (length {A = ℕ}) (flat_map-cons report_bytes report reports) in
    omega (arith, parts, length-append (report_bytes report) (flat_map report_bytes reports), length_reports reports)

pub log_payload_length : (kind : LogKind) (n0 offset first : ℕ) (directory : List ℕ) (reports : List Report) →
    length (log_payload kind n0 offset first directory reports) ≡ 29 + length directory + 16 * length reports
log_payload_length kind n0 offset first directory reports =
    let head = (kind_number kind ∷ []) ++ little_bytes 8 n0 ++ little_bytes 8 offset ++ little_bytes 8 first in
    let count = little_bytes 4 (length reports) in
    let bytes = flat_map report_bytes reports in
    omega (
      arith,
      length-append (head ++ directory ++ count) bytes,
      length-append (head ++ directory) count,
      length-append head directory,
      length_reports reports,
    )

-- the payloads of records and one more
pub payloads-push : (records : List LogRecord) (one : LogRecord) → map log_payload_of (records ++ one ∷ []) ≡ map log_payload_of records ++ log_payload_of one ∷ []
payloads-push records one = map-append log_payload_of records (one ∷ [])
