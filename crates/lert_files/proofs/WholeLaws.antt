-- An answer to a whole log that is right says what stands in the file, and what stands there is the answer.
use Rattle.std.proofs.Common.{ℕ, ◌≡◌, Result, Ok, Err, List, ap, sym, ◌∙◌, subst, inl, inr, ◌⊎◌}
use Rattle.std.specs.Prelude.{IfOk, IfErr, MatchResult, IsErrOf, IsErrAnd}
use Rattle.lert_bay.specs.declared.bay.TheConstants.{LOG}
use Rattle.lert_spec.specs.{declared.numbers.Numbers.Numbers, declared.report.Report.Report, Limits.IsValid}
use Rattle.lert_reports.specs.{Log.{HasLog, LogLeavesAt}, LogText.LogRecord, declared.log_point.LogPoint.LogPoint}
use Rattle.lert_reports.proofs.LogOnce.{one_log, log_or_left, one_left}
use Rattle.lert_files.specs.{declared.fault.ReopenFault.ReopenFault, declared.fault.ReopenFault.TheVariants.{Failed, Malformed}, Read.{IsReadOf, AreReportsUpTo}}
use Rattle.lert_files.proofs.RecordsLaws.{reports_up_to}

failed_or_left : (file at : ℕ) → Failed ≡ Malformed file at → ⊥
failed_or_left file at is = cc

same_left : {T : Type 0} (fault : ReopenFault) (file at : ℕ) → ◌≡◌ {A = Result T ReopenFault} (Err fault) (Err (Malformed file at)) → fault ≡ Malformed file at
same_left fault file at is = cc

one_file : (at file other : ℕ) → Malformed LOG at ≡ Malformed file other → file ≡ LOG
one_file at file other is = cc

-- only the log is refused
abbrev pub IsLogFault : ReopenFault → Type 0
IsLogFault fault = (fault ≡ Failed) ⊎ ((at : ℕ) × (fault ≡ Malformed LOG at))

pub log_refused : {T : Type 0} (result : Result T ReopenFault) (file at : ℕ) → IfErr result IsLogFault → IsErrOf result (Malformed file at) → file ≡ LOG
log_refused (Ok x) file at is malformed = absurd cc
log_refused (Err fault) file at (inl failed) malformed = absurd (failed_or_left file at (sym failed ∙ same_left fault file at malformed))
log_refused (Err fault) file at (inr (other, is)) malformed = one_file other file at (sym is ∙ same_left fault file at malformed)

module _ (s : Numbers) (cone : ℕ) (valid : IsValid s) (bytes : List ℕ) where
  -- bytes that leave the format there
  left_there : (fault : ReopenFault) (at : ℕ) → IsLogFault fault → ((other : ℕ) → fault ≡ Malformed LOG other → LogLeavesAt s cone bytes other) → LogLeavesAt s cone bytes at →
      (fault ≡ Failed) ⊎ (fault ≡ Malformed LOG at)
  left_there fault at (inl failed) said leaves = inl failed
  left_there fault at (inr (other, is)) said leaves = inr (is ∙ ap (Malformed LOG) (one_left s cone valid bytes other at (said other is) leaves))

  pub header_refuses : (fault : ReopenFault) (at : ℕ) → IsLogFault fault → ((file other : ℕ) → fault ≡ Malformed file other → LogLeavesAt s cone bytes other) →
      LogLeavesAt s cone bytes at → (fault ≡ Failed) ⊎ (fault ≡ Malformed LOG at)
  header_refuses fault at is said leaves = left_there fault at is (said 1) leaves

  pub header_back : (fault : ReopenFault) (records : List LogRecord) (log_end : ℕ) → IsLogFault fault →
      ((file other : ℕ) → fault ≡ Malformed file other → LogLeavesAt s cone bytes other) → HasLog s cone bytes records log_end → fault ≡ Failed
  header_back fault records log_end (inl failed) said log = failed
  header_back fault records log_end (inr (at, is)) said log = absurd (log_or_left s cone valid bytes records log_end at log (said 1 at is))

  module _ (reports : List Report) (directory : List ℕ) (Q : List LogRecord → ℕ → Type 0) (log_of : (records : List LogRecord) (end : ℕ) → Q records end →
      HasLog s cone bytes records end) where
    abbrev IsRead : LogPoint → List LogRecord → Type 0
    IsRead end records = IsReadOf s cone end.n0 end.offset end.first end.closed reports directory records

    abbrev Answers : Result LogPoint ReopenFault → Type 0
    Answers result = IfOk result (λ end. (records : List LogRecord) × IsRead end records × Q records end.log_end)

    abbrev Refuses : Result LogPoint ReopenFault → Type 0
    Refuses result = (file at : ℕ) → IsErrOf result (Malformed file at) → LogLeavesAt s cone bytes at

    pub whole_back : (result : Result LogPoint ReopenFault) (records : List LogRecord) (log_end : ℕ) → Answers result → IfErr result IsLogFault → Refuses result →
        HasLog s cone bytes records log_end →
        MatchResult result (λ end. (end.log_end ≡ log_end) × IsRead end records) (λ fault. fault ≡ Failed)
    whole_back (Ok end) records log_end read is said log =
        let same = one_log s cone valid bytes read.0 records end.log_end log_end (log_of read.0 end.log_end read.2) log in
        (same.1, subst (IsRead end) same.0 read.1)
    whole_back (Err fault) records log_end read (inl failed) said log = failed
    whole_back (Err fault) records log_end read (inr (at, is)) said log = absurd (log_or_left s cone valid bytes records log_end at log (said 1 at (ap Err is)))

    pub left_back : (result : Result LogPoint ReopenFault) (at : ℕ) → Answers result → IfErr result IsLogFault → Refuses result → LogLeavesAt s cone bytes at →
        IsErrAnd result (λ fault. (fault ≡ Failed) ⊎ (fault ≡ Malformed LOG at))
    left_back (Ok end) at read is said leaves = log_or_left s cone valid bytes read.0 end.log_end at (log_of read.0 end.log_end read.2) leaves
    left_back (Err fault) at read is said leaves = left_there fault at is (λ other same. said 1 other (ap Err same)) leaves

-- told or not, the reports that were read
pub up_to : (s : Numbers) (cone : ℕ) → IsValid s → (reports : List Report) (directory : List ℕ) (Q : List LogRecord → ℕ → Type 0) (result : Result LogPoint ReopenFault) →
    IfOk result (λ end. (records : List LogRecord) × IsReadOf s cone end.n0 end.offset end.first end.closed reports directory records × Q records end.log_end) →
    IfOk result (λ end. AreReportsUpTo s cone end.n0 reports)
up_to s cone valid reports directory Q (Ok end) read =
    subst (λ n. AreReportsUpTo s cone n reports) (sym read.1.n0_is)
    (subst (AreReportsUpTo s cone _) (sym read.1.reports_are) (reports_up_to s cone valid read.0 read.1.rules))
up_to s cone valid reports directory Q (Err fault) read = tt
