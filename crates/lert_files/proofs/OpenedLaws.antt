-- What stands in a cone's files before the records of its journal is one of three: all of it in its format, a first place at
-- which it leaves that, or another header. So what is right of an answer is right the other way round.
use Rattle.std.proofs.{Common.{ℕ, ◌≡◌, ◌<◌, ◌^◌, Bool, Option, Some, None, Result, Ok, Err, List, refl, ap, sym, ◌∙◌, subst, inl, inr, ◌⊎◌}, lemmas.Option.none-some}
use Rattle.std.specs.Prelude.{IfOk, MatchResult, IsErrOf, IsErrAnd}
use Rattle.lert_base.specs.declared.kept.Kept.{Kept}
use Rattle.lert_bay.specs.{declared.bay.TheConstants.{JOURNAL, LOG, FRAMES}, Files.Files}
use Rattle.lert_journal.specs.Header.{version_in}
use Rattle.lert_levels.specs.{declared.rows.bin_at.BinAt.BinAt, declared.rows.fault.FlushFault.FlushFault}
use Rattle.lert_levels.specs.{declared.rows.fault.FlushFault.TheVariants.{Failed as CheckFailed, Malformed as CheckMalformed}, rows.Checked.rows_left, OnDisk.OnDisk}
use Rattle.lert_levels.specs.rows.Rows.{IsAt, AreRows, directory_text}
use Rattle.lert_levels.proofs.rows.NamedLaws.{same_named}
use Rattle.lert_reports.specs.{Log.{last_directory, last_n0, HasLog, LogLeavesAt}, LogText.{LogRecord, directory_bytes}, declared.log_point.LogPoint.LogPoint}
use Rattle.lert_reports.proofs.LogOnce.{one_log, log_or_left, one_left}
use Rattle.lert_spec.specs.{declared.numbers.Numbers.Numbers, declared.report.Report.Report, Limits.IsValid}
use Rattle.lert_files.specs.{declared.fault.ReopenFault.ReopenFault, declared.fault.ReopenFault.TheVariants.{Failed, Malformed, OtherSettings}}
use Rattle.lert_files.specs.Headed.{BeginningLeaves, HasOther, IsHeaded, IsHeaderFault}
use Rattle.lert_files.specs.{Opened.{AreLastRows, AreOpened, checked_fault, IsRefused, By_call, By_place, By_header, LeaveAt, In_beginning, In_log, In_frame}, Read.IsReadOf}
use Rattle.lert_files.proofs.HeadLaws.{headed_or_fault, headed_whole, one_beginning, other_or_left}

some_place : (m n : ℕ) → Some m ≡ Some n → m ≡ n
some_place m n is = cc

-- neither a place nor other numbers, but a call
abbrev pub IsOutside : ReopenFault → Type 0
IsOutside fault = fault ≡ Failed

module _ (s : Numbers) (cone : ℕ) (valid : IsValid s) (below : cone < 2 ^ 32) (seen : Files) where
  no_place : IsHeaded s cone (seen JOURNAL) → (at : ℕ) → BeginningLeaves s cone (seen JOURNAL) at → ⊥
  no_place headed at left = headed_whole s cone valid.limits below (seen JOURNAL) headed at left

  pub no_other : IsHeaded s cone (seen JOURNAL) → (kept : Kept) → HasOther s cone (seen JOURNAL) kept → ⊥
  no_other headed kept has = headed_or_fault s cone valid.limits below (seen JOURNAL) (OtherSettings kept) headed (inr (kept, refl, has))

  -- rows that the last records of one log name are one list
  pub same_last : (records others : List LogRecord) (log_end other_end : ℕ) (rows other_rows : List (List BinAt)) → HasLog s cone (seen LOG) records log_end →
      HasLog s cone (seen LOG) others other_end → AreLastRows s records rows → AreLastRows s others other_rows → rows ≡ other_rows
  same_last records others log_end other_end rows other_rows log log_too named named_too =
      let same = (one_log s cone valid (seen LOG) records others log_end other_end log log_too).0 in
      same_named s (last_n0 others) (directory_bytes (last_directory s others)) rows other_rows (subst (λ (rs : List LogRecord). AreLastRows s rs rows) same named) named_too

  -- ---- one of the three

  pub opened_or_left : (records : List LogRecord) (log_end : ℕ) (rows : List (List BinAt)) (file at : ℕ) → AreOpened s cone seen records log_end rows →
      LeaveAt s cone seen file at → ⊥
  opened_or_left records log_end rows file at opened (In_beginning file_is left) = no_place opened.headed at left
  opened_or_left records log_end rows file at opened (In_log headed file_is leaves) = log_or_left s cone valid (seen LOG) records log_end at opened.log leaves
  opened_or_left records log_end rows file at opened (In_frame headed others other_end log other_rows named file_is left) =
      let same = same_last records others log_end other_end rows other_rows opened.log log opened.named named in
      none-some at (sym opened.frames ∙ ap (rows_left s (version_in (seen JOURNAL)) (seen FRAMES)) same ∙ left)

  pub left_or_other : (file at : ℕ) (kept : Kept) → LeaveAt s cone seen file at → HasOther s cone (seen JOURNAL) kept → ⊥
  left_or_other file at kept (In_beginning file_is left) has = other_or_left s cone valid.limits below (seen JOURNAL) kept at has left
  left_or_other file at kept (In_log headed file_is leaves) has = no_other headed kept has
  left_or_other file at kept (In_frame headed records log_end log rows named file_is left) has = no_other headed kept has

  -- and there is one place
  pub one_place : (file at other_file other : ℕ) → LeaveAt s cone seen file at → LeaveAt s cone seen other_file other → (file ≡ other_file) × (at ≡ other)
  one_place file at other_file other (In_beginning file_is left) (In_beginning other_is left_too) =
      (file_is ∙ sym other_is, one_beginning s cone valid.limits below (seen JOURNAL) at other left left_too)
  one_place file at other_file other (In_beginning file_is left) (In_log headed other_is leaves) = absurd (no_place headed at left)
  one_place file at other_file other (In_beginning file_is left) (In_frame headed records log_end log rows named other_is left_too) = absurd (no_place headed at left)
  one_place file at other_file other (In_log headed file_is leaves) (In_beginning other_is left) = absurd (no_place headed other left)
  one_place file at other_file other (In_log headed file_is leaves) (In_log headed_too other_is leaves_too) =
      (file_is ∙ sym other_is, one_left s cone valid (seen LOG) at other leaves leaves_too)
  one_place file at other_file other (In_log headed file_is leaves) (In_frame headed_too records log_end log rows named other_is left) =
      absurd (log_or_left s cone valid (seen LOG) records log_end at log leaves)
  one_place file at other_file other (In_frame headed records log_end log rows named file_is left) (In_beginning other_is left_too) = absurd (no_place headed other left_too)
  one_place file at other_file other (In_frame headed records log_end log rows named file_is left) (In_log headed_too other_is leaves) =
      absurd (log_or_left s cone valid (seen LOG) records log_end other log leaves)
  one_place file at other_file other (In_frame headed records log_end log rows named file_is left)
      (In_frame headed_too others other_end log_too other_rows named_too other_is left_too) = (
        file_is ∙ sym other_is,
        some_place at other (sym left ∙ ap (rows_left s (version_in (seen JOURNAL)) (seen FRAMES))
            (same_last records others log_end other_end rows other_rows log log_too named named_too) ∙ left_too),
      )

  pub one_header : (kept other : Kept) → HasOther s cone (seen JOURNAL) kept → HasOther s cone (seen JOURNAL) other → kept ≡ other
  one_header kept other has has_too = has.kept_is ∙ sym has_too.kept_is

  -- ---- why files aren't read

  pub left_there : (fault : ReopenFault) (file at : ℕ) → IsRefused s cone seen fault → LeaveAt s cone seen file at → IsOutside fault ⊎ (fault ≡ Malformed file at)
  left_there fault file at (By_call is) leaves = inl is
  left_there fault file at (By_place other_file other is leaves_too) leaves =
      let same = one_place other_file other file at leaves_too leaves in
      inr (is ∙ (λ i. Malformed (same.0 i) (same.1 i)))
  left_there fault file at (By_header kept is has) leaves = absurd (left_or_other file at kept leaves has)

  pub other_there : (fault : ReopenFault) (kept : Kept) → IsRefused s cone seen fault → HasOther s cone (seen JOURNAL) kept → IsOutside fault ⊎ (fault ≡ OtherSettings kept)
  other_there fault kept (By_call is) has = inl is
  other_there fault kept (By_place file at is leaves) has = absurd (left_or_other file at kept leaves has)
  other_there fault kept (By_header other is has_too) has = inr (is ∙ ap OtherSettings (one_header other kept has_too has))

  pub outside_there : (fault : ReopenFault) (records : List LogRecord) (log_end : ℕ) (rows : List (List BinAt)) → IsRefused s cone seen fault →
      AreOpened s cone seen records log_end rows → IsOutside fault
  outside_there fault records log_end rows (By_call is) opened = is
  outside_there fault records log_end rows (By_place file at is leaves) opened = absurd (opened_or_left records log_end rows file at opened leaves)
  outside_there fault records log_end rows (By_header kept is has) opened = absurd (no_other opened.headed kept has)

  -- ---- what an answer says that is right

  failed_or_place : (file at : ℕ) → Failed ≡ Malformed file at → ⊥
  failed_or_place file at is = cc

  header_or_place : (kept : Kept) (file at : ℕ) → OtherSettings kept ≡ Malformed file at → ⊥
  header_or_place kept file at is = cc

  place_of : (file at other_file other : ℕ) → Malformed file at ≡ Malformed other_file other → LeaveAt s cone seen file at → LeaveAt s cone seen other_file other
  place_of file at other_file other is leaves =
      let file_is : file ≡ other_file = cc in
      let at_is : at ≡ other = cc in
      subst (λ a. LeaveAt s cone seen other_file a) at_is (subst (λ f. LeaveAt s cone seen f at) file_is leaves)

  failed_or_header : (kept : Kept) → Failed ≡ OtherSettings kept → ⊥
  failed_or_header kept is = cc

  header_of : (kept other : Kept) → OtherSettings kept ≡ OtherSettings other → kept ≡ other
  header_of kept other is = cc

  refused_place : (fault : ReopenFault) (file at : ℕ) → fault ≡ Malformed file at → IsRefused s cone seen fault → LeaveAt s cone seen file at
  refused_place fault file at is (By_call failed) = absurd (failed_or_place file at (sym failed ∙ is))
  refused_place fault file at is (By_place other_file other same leaves) = place_of other_file other file at (sym same ∙ is) leaves
  refused_place fault file at is (By_header kept same has) = absurd (header_or_place kept file at (sym same ∙ is))

  refused_header : (fault : ReopenFault) (kept : Kept) → fault ≡ OtherSettings kept → IsRefused s cone seen fault → HasOther s cone (seen JOURNAL) kept
  refused_header fault kept is (By_call failed) = absurd (failed_or_header kept (sym failed ∙ is))
  refused_header fault kept is (By_place file at same leaves) = absurd (header_or_place kept file at (sym is ∙ same))
  refused_header fault kept is (By_header other same has) = subst (HasOther s cone (seen JOURNAL)) (header_of other kept (sym same ∙ is)) has

  module _ (reports : List Report) (directory : List ℕ) (rows : List (List BinAt)) where
    -- what is read of files in their format
    abbrev pub IsOpening : LogPoint → Type 0
    IsOpening end = (records : List LogRecord) × IsReadOf s cone end.n0 end.offset end.first end.closed reports directory records × AreOpened s cone seen records end.log_end rows

    abbrev pub Told : Result LogPoint ReopenFault → Type 0
    Told result = MatchResult result IsOpening (IsRefused s cone seen)

    same_fault : (one other : ReopenFault) → ◌≡◌ {A = Result LogPoint ReopenFault} (Err one) (Err other) → one ≡ other
    same_fault one other is = cc

    pub opened_told : (result : Result LogPoint ReopenFault) → Told result → IfOk result IsOpening
    opened_told (Ok end) told = told
    opened_told (Err fault) told = tt

    pub malformed_told : (result : Result LogPoint ReopenFault) → Told result → (file at : ℕ) → IsErrOf result (Malformed file at) → LeaveAt s cone seen file at
    malformed_told (Ok end) told file at is = absurd cc
    malformed_told (Err fault) told file at is = refused_place fault file at (same_fault fault (Malformed file at) is) told

    pub other_told : (result : Result LogPoint ReopenFault) → Told result → (kept : Kept) → IsErrOf result (OtherSettings kept) → HasOther s cone (seen JOURNAL) kept
    other_told (Ok end) told kept is = absurd cc
    other_told (Err fault) told kept is = refused_header fault kept (same_fault fault (OtherSettings kept) is) told

    pub refuses_told : (result : Result LogPoint ReopenFault) → Told result → (file at : ℕ) → LeaveAt s cone seen file at →
        IsErrAnd result (λ fault. IsOutside fault ⊎ (fault ≡ Malformed file at))
    refuses_told (Ok end) told file at leaves = opened_or_left told.0 end.log_end rows file at told.2 leaves
    refuses_told (Err fault) told file at leaves = left_there fault file at told leaves

    pub differs_told : (result : Result LogPoint ReopenFault) → Told result → (kept : Kept) → HasOther s cone (seen JOURNAL) kept →
        IsErrAnd result (λ fault. IsOutside fault ⊎ (fault ≡ OtherSettings kept))
    differs_told (Ok end) told kept has = no_other told.2.headed kept has
    differs_told (Err fault) told kept has = other_there fault kept told has

    pub passes_told : (result : Result LogPoint ReopenFault) → Told result → (records : List LogRecord) (log_end : ℕ) (own : List (List BinAt)) →
        AreOpened s cone seen records log_end own →
        MatchResult result
        (λ end. (end.log_end ≡ log_end) × (rows ≡ own) × IsReadOf s cone end.n0 end.offset end.first end.closed reports directory records)
        IsOutside
    passes_told (Ok end) told records log_end own opened =
        let same = one_log s cone valid (seen LOG) told.0 records end.log_end log_end told.2.log opened.log in (
          same.1,
          same_last told.0 records end.log_end log_end rows own told.2.log opened.log told.2.named opened.named,
          subst (IsReadOf s cone end.n0 end.offset end.first end.closed reports directory) same.0 told.1,
        )
    passes_told (Err fault) told records log_end own opened = outside_there fault records log_end own told opened

-- what levels say by their own numbers and version, said by these
pub by_own : (levels now : OnDisk) (s : Numbers) (version : ℕ) → levels.settings ≡ s → levels.version ≡ version → now ≡ levels →
    (P : Numbers → ℕ → List (List BinAt) → Type 0) → P levels.settings levels.version levels.rows → P s version now.rows
by_own levels now s version own version_is same P said =
    subst (λ (disk : OnDisk). P s version disk.rows) (sym same)
    (subst (λ (v : ℕ). P s v levels.rows) version_is
    (subst (λ (numbers : Numbers). P numbers levels.version levels.rows) own said))

-- ---- what was read of files in their format, by their parts

module _ (s : Numbers) (cone : ℕ) (seen : Files) (n0 offset first : ℕ) (closed : Bool) (reports : List Report) (directory : List ℕ) (records : List LogRecord) (log_end : ℕ)
    (headed : IsHeaded s cone (seen JOURNAL)) (read : IsReadOf s cone n0 offset first closed reports directory records) (log : HasLog s cone (seen LOG) records log_end)
    (levels : OnDisk) (own : levels.settings ≡ s) (version : levels.version ≡ version_in (seen JOURNAL)) (at : IsAt levels.settings n0 levels.rows) (are : AreRows levels.settings levels.rows)
    (text : directory_text levels.rows ≡ directory) where
  named : AreLastRows s records levels.rows
  named = record {
    at = subst (λ n. IsAt s n levels.rows) read.n0_is (subst (λ (numbers : Numbers). IsAt numbers n0 levels.rows) own at);
    are = subst (λ (numbers : Numbers). AreRows numbers levels.rows) own are;
    text_is = text ∙ read.directory_is;
  }

  -- what their own numbers say of their frames
  frames_left : (left : Option ℕ) → rows_left levels.settings levels.version (seen FRAMES) levels.rows ≡ left → rows_left s (version_in (seen JOURNAL)) (seen FRAMES) levels.rows ≡ left
  frames_left left is =
      subst (λ (v : ℕ). rows_left s v (seen FRAMES) levels.rows ≡ left) version
      (subst (λ (numbers : Numbers). rows_left numbers levels.version (seen FRAMES) levels.rows ≡ left) own is)

  pub opened_of : (now : OnDisk) → now ≡ levels → rows_left levels.settings levels.version (seen FRAMES) levels.rows ≡ None →
      IsReadOf s cone n0 offset first closed reports (directory_text now.rows) records × AreOpened s cone seen records log_end now.rows
  opened_of now same whole =
      subst (λ (disk : OnDisk). IsReadOf s cone n0 offset first closed reports (directory_text disk.rows) records × AreOpened s cone seen records log_end disk.rows) (sym same) (
        subst (λ bytes. IsReadOf s cone n0 offset first closed reports bytes records) (sym text) read,
        record { headed = headed; log = log; named = named; frames = frames_left None whole },
      )

  -- why the frames are refused
  pub check_refused : (fault : ReopenFault) (check : FlushFault) → fault ≡ checked_fault check →
      ((place : ℕ) → check ≡ CheckMalformed place → rows_left levels.settings levels.version (seen FRAMES) levels.rows ≡ Some place) → IsRefused s cone seen fault
  check_refused fault CheckFailed is said = By_call is
  check_refused fault (CheckMalformed place) is said =
      By_place 2 place is (In_frame headed records log_end log levels.rows named refl (frames_left (Some place) (said place refl)))

pub check_failed : (check : FlushFault) → checked_fault check ≡ Failed → check ≡ CheckFailed
check_failed CheckFailed is = refl
check_failed (CheckMalformed place) is = absurd (place_or_failed is)
  where
    place_or_failed : Malformed FRAMES place ≡ Failed → ⊥
    place_or_failed same = cc

-- why the beginning of the journal is, and why the log behind it
pub header_refused : (s : Numbers) (cone : ℕ) (seen : Files) (fault : ReopenFault) → (fault ≡ Failed) ⊎ IsHeaderFault s cone (seen JOURNAL) fault → IsRefused s cone seen fault
header_refused s cone seen fault (inl failed) = By_call failed
header_refused s cone seen fault (inr (inl (at, is, left))) = By_place 0 at is (In_beginning refl left)
header_refused s cone seen fault (inr (inr (kept, is, has))) = By_header kept is has

pub log_refused : (s : Numbers) (cone : ℕ) (seen : Files) (fault : ReopenFault) → IsHeaded s cone (seen JOURNAL) → (fault ≡ Failed) ⊎ ((at : ℕ) × (fault ≡ Malformed LOG at)) →
    ((file at : ℕ) → fault ≡ Malformed file at → (file ≡ LOG) × LogLeavesAt s cone (seen LOG) at) → IsRefused s cone seen fault
log_refused s cone seen fault headed (inl failed) said = By_call failed
log_refused s cone seen fault headed (inr (at, is)) said = By_place 1 at is (In_log headed refl (said 1 at is).1)
