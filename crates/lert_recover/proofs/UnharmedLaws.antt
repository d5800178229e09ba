-- What a reopening leaves of the files that it was given, by what stands in them.
use Rattle.std.proofs.{Common.{◌≡◌, ◌<◌, ◌^◌, ℕ, List, Option, Some, None, Result, Ok, Err, refl, sym, ◌∙◌, subst}, lemmas.Option.{none-some, same_Some}}
use Rattle.std.specs.Prelude.{IfErr, MatchResult}
use Rattle.lert_base.specs.declared.kept.Kept.{Kept}
use Rattle.lert_bay.specs.{declared.bay.TheConstants.JOURNAL, Files.{Files, IfTold}, Kept.Bays}
use Rattle.lert_bay.proofs.KeptLaws.{IsLawful, calls_as, reading_none}
use Rattle.lert_journal.specs.Header.{version_in}
use Rattle.lert_cone.specs.{KeepsLog.KeepsLog, Stands.Standing}
use Rattle.lert_cone.proofs.KeepsLogLaws.{keeps_log_none}
use Rattle.lert_files.specs.{declared.fault.ReopenFault.ReopenFault, declared.fault.ReopenFault.TheVariants.{Failed, OtherSettings}, Headed.HasOther, Opened.{AreOpened, WritesNothing}}
use Rattle.lert_files.proofs.{OpenedLaws.{no_other, opened_or_left}, QuietLaws.quiet_reading}
use Rattle.lert_reports.specs.LogText.{LogRecord}
use Rattle.lert_levels.specs.declared.rows.bin_at.BinAt.{BinAt}
use Rattle.lert_spec.specs.{declared.numbers.Numbers.Numbers, Limits.IsValid}
use Rattle.lert_recover.specs.Unharmed.{BringsNone, IsUnharmed, KeepsLogIn}
use Rattle.lert_recover.proofs.BayLaws.{SaysOfBay}

module _ {B : Type 0} (bays : Bays B) (s : Numbers) (cone : ℕ) (before : B) where
  -- calls that write nothing
  pub unharmed_quiet : (after : B) → WritesNothing bays before after ⊥ → IsUnharmed bays s cone before after
  unharmed_quiet after quiet = record {
    left = λ seen told file at leaves. quiet;
    other = λ seen told kept has. quiet;
    unflushed = λ seen told none. quiet;
    log = λ seen told records log_end log now told_now.
        subst (λ (files : Files). KeepsLog (version_in (seen JOURNAL)) s records log_end seen files) (same_Some seen now (sym (quiet.seen ∙ told) ∙ told_now)) (keeps_log_none s records log_end seen
        log.records_stand);
  }

  -- no call
  pub unharmed_none : IsLawful bays → IsUnharmed bays s cone before before
  unharmed_none lawful = unharmed_quiet before (quiet_reading lawful (reading_none bays lawful before ⊥ (λ never. never)))

  -- over files that are in their format before the records of the journal
  module _ (valid : IsValid s) (below : cone < 2 ^ 32)
      (opened : IfTold (bays.files before) (λ seen. (records : List LogRecord) × (log_end : ℕ) × (rows : List (List BinAt)) × AreOpened s cone seen records log_end rows)) where
    unharmed_of : (after : B) → IfTold (bays.files before) (λ seen. BringsNone s cone seen → WritesNothing bays before after ⊥) → KeepsLogIn bays s cone before after →
        IsUnharmed bays s cone before after
    unharmed_of after unflushed log = record {
      left = λ seen told file at leaves.
          let there = opened seen told in
          absurd (opened_or_left s cone valid below seen there.0 there.1 there.2 file at there.3 leaves);
      other = λ seen told kept has. absurd (no_other s cone valid below seen (opened seen told).3.headed kept has);
      unflushed = unflushed;
      log = log;
    }

    pub unharmed_opened : {E : Type 0} (bay_in : E → B) (result : Result (Standing B) E) →
        IfTold (bays.files before) (λ seen. BringsNone s cone seen →
        MatchResult result (λ now. WritesNothing bays before now.bay ⊥) (λ refused. WritesNothing bays before (bay_in refused) ⊥)) →
        MatchResult result (λ now. KeepsLogIn bays s cone before now.bay) (λ refused. KeepsLogIn bays s cone before (bay_in refused)) →
        MatchResult result (λ now. IsUnharmed bays s cone before now.bay) (λ refused. IsUnharmed bays s cone before (bay_in refused))
    unharmed_opened bay_in (Ok now) unflushed log = unharmed_of now.bay unflushed log
    unharmed_opened bay_in (Err refused) unflushed log = unharmed_of (bay_in refused) unflushed log

  -- Other settings are the answer only where the files begin with them, as far as these are told. Of files that aren't told there is
  -- nothing to be written over.
  module _ {E : Type 0} (lawful : IsLawful bays) (bay_in : E → B) (fault_in : E → ReopenFault) where
    pub other_quiet : (result : Result (Standing B) E) → SaysOfBay bays bay_in fault_in before result →
        IfTold (bays.files before) (λ seen. IfErr result (λ refused. (kept : Kept) → fault_in refused ≡ OtherSettings kept → HasOther s cone (seen JOURNAL) kept)) →
        MatchResult result (λ now. IsUnharmed bays s cone before now.bay) (λ refused. IsUnharmed bays s cone before (bay_in refused)) →
        IfErr result (λ refused. (kept : Kept) → fault_in refused ≡ OtherSettings kept → WritesNothing bays before (bay_in refused) ⊥)
    other_quiet (Ok now) says other unharmed = tt
    other_quiet (Err refused) says other unharmed = λ kept is. by_case kept is (bays.files before) refl
      where
        by_case : (kept : Kept) → fault_in refused ≡ OtherSettings kept → (told : Option Files) → bays.files before ≡ told → WritesNothing bays before (bay_in refused) ⊥
        by_case kept is None untold = record {
          kept = calls_as bays lawful before (bay_in refused) (fault_in refused ≡ Failed) ⊥ (λ never. absurd never) says.kept;
          seen = says.reads.untold untold ∙ sym untold;
          images = λ seen told. absurd (none-some seen (sym untold ∙ told));
          moments = λ seen told. absurd (none-some seen (sym untold ∙ told));
        }
        by_case kept is (Some seen) told = unharmed.other seen told kept (other seen told kept is)
