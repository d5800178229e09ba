-- The log of a cone that replays its journal, from packet to packet, and what becomes of it through a whole reopening.
use Rattle.std.proofs.Common.{◌≡◌, ℕ, List, Some, Result, Ok, Err, OnOk, sym, ◌∙◌, subst}
use Rattle.std.specs.Prelude.{MatchResult}
use Rattle.lert_bay.specs.{declared.bay.TheConstants.{JOURNAL, LOG}, Files.Files, Kept.{Bays, CallsBay}}
use Rattle.lert_bay.proofs.KeptLaws.{IsLawful}
use Rattle.lert_reports.specs.{Log.HasLog, LogText.LogRecord}
use Rattle.lert_reports.proofs.LogOnce.{one_log}
use Rattle.lert_spec.specs.{declared.numbers.Numbers.Numbers, Limits.IsValid}
use Rattle.lert_journal.specs.Header.{version_in}
use Rattle.lert_cone.specs.{KeepsLog.{IsHeadOf, KeepsLog, KeepsLogOf, LogHead, head_of}, Replaying.{IsSameReplay, Replaying}, Stands.Standing}
use Rattle.lert_cone.proofs.KeepsLogSteps.{log_as, log_on}
use Rattle.lert_recover.specs.{Replayed.IsJournalSame, Unharmed.{KeepsLogFrom, KeepsLogIn}}

module _ {B : Type 0} (bays : Bays B) (lawful : IsLawful bays) (start : Replaying B) where
  -- behind what was replayed, one call more
  pub logged_on : {T E U F : Type 0} (old new : Replaying B) (result : Result T E) (answer : Result U F) (First Other : Type 0) → IsSameReplay start old → old.listing.version ≡ start.listing.version →
      IsJournalSame (bays.files start.bay) (bays.files old.bay) → CallsBay bays start.bay old.bay First → CallsBay bays old.bay new.bay Other →
      ((P : LogHead → Type 0) → OnOk result (P (head_of new)) → OnOk answer (P (head_of new))) →
      KeepsLogOf {T = Unit {0}} {E = Unit {0}} bays start.listing.version start.listing.settings (head_of start) (head_of old) start.bay old.bay (Ok tt) →
      KeepsLogOf bays old.listing.version old.listing.settings (head_of old) (head_of new) old.bay new.bay result →
      KeepsLogOf bays start.listing.version start.listing.settings (head_of start) (head_of new) start.bay new.bay answer
  logged_on old new result answer First Other same version_is journal kept step goes before after =
      log_as bays lawful start.listing.settings (head_of start) (head_of new) (head_of new) start.bay new.bay result answer goes
      (log_on bays lawful start.listing.settings (head_of start) (head_of old) (head_of new) start.bay old.bay new.bay tt result journal kept.time.later step.time before
      (subst (λ (s : Numbers). KeepsLogOf bays start.listing.version s (head_of old) (head_of new) old.bay new.bay result) same.settings
      (subst (λ (v : ℕ). KeepsLogOf bays v old.listing.settings (head_of old) (head_of new) old.bay new.bay result) version_is after)))

  -- as the bay reads behind all of them, and behind calls that read alone
  pub logged_from : {T E : Type 0} (end : Replaying B) (last : B) (result : Result T E) →
      KeepsLogOf bays start.listing.version start.listing.settings (head_of start) (head_of end) start.bay end.bay result → bays.files last ≡ bays.files end.bay → KeepsLogFrom bays start last
  logged_from end last result did same seen told records is now told_now = ((did seen told records is).read now (sym same ∙ told_now)).0

  -- over files whose log was read before
  module _ (s : Numbers) (cone : ℕ) (valid : IsValid s) (before : B) (log_end : ℕ) (settings_are : start.listing.settings ≡ s)
      (version_is : (seen : Files) → bays.files before ≡ Some seen → start.listing.version ≡ version_in (seen JOURNAL)) (gate_is : start.log.gate ≡ log_end)
      (same : (seen : Files) → bays.files before ≡ Some seen → bays.files start.bay ≡ Some seen)
      (opened : (seen : Files) → bays.files before ≡ Some seen → (records : List LogRecord) × HasLog s cone (seen LOG) records log_end × IsHeadOf s records (head_of start) (seen LOG))
    where
      log_in : (after : B) → KeepsLogFrom bays start after → KeepsLogIn bays s cone before after
      log_in after from seen told records end log now told_now =
          let there = opened seen told in
          let one = one_log s cone valid (seen LOG) there.0 records log_end end there.1 log in
          let kept : KeepsLog start.listing.version start.listing.settings there.0 start.log.gate seen now =
          from seen (same seen told) there.0 (subst (λ (t : Numbers). IsHeadOf t there.0 (head_of start) (seen LOG)) (sym settings_are) there.2) now told_now in
          subst (λ (gate : ℕ). KeepsLog (version_in (seen JOURNAL)) s records gate seen now) (gate_is ∙ one.1)
          (subst (λ (rs : List LogRecord). KeepsLog (version_in (seen JOURNAL)) s rs start.log.gate seen now) one.0
          (subst (λ (t : Numbers). KeepsLog (version_in (seen JOURNAL)) t there.0 start.log.gate seen now) settings_are
          (subst (λ (v : ℕ). KeepsLog v start.listing.settings there.0 start.log.gate seen now) (version_is seen told) kept)))

      pub logs_in : {E : Type 0} (bay_in : E → B) (result : Result (Standing B) E) →
          MatchResult result (λ now. KeepsLogFrom bays start now.bay) (λ refused. KeepsLogFrom bays start (bay_in refused)) →
          MatchResult result (λ now. KeepsLogIn bays s cone before now.bay) (λ refused. KeepsLogIn bays s cone before (bay_in refused))
      logs_in bay_in (Ok now) from = log_in now.bay from
      logs_in bay_in (Err refused) from = log_in (bay_in refused) from
