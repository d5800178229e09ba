-- What a reopening leaves of the files that it was given.
use Rattle.std.specs.Prelude.{ℕ, ◌-◌, List}
use Rattle.lert_base.specs.declared.kept.Kept.{Kept}
use Rattle.lert_bay.specs.{declared.bay.TheConstants.{JOURNAL, LOG}, Files.{Files, IfTold}, Kept.Bays}
use Rattle.lert_cone.specs.{KeepsLog.{IsHeadOf, KeepsLog, head_of}, Replaying.Replaying}
use Rattle.lert_files.specs.{Headed.HasOther, Opened.{LeaveAt, WritesNothing}}
use Rattle.lert_recover.specs.Replayed.{FlushesNothing}
use Rattle.lert_reports.specs.{Log.{last_first, last_n0, last_offset, HasLog}, LogText.LogRecord}
use Rattle.lert_spec.specs.declared.numbers.Numbers.{Numbers}
use Rattle.lert_journal.specs.Header.{version_in}

-- no flush comes by the journal of files: no flush position above the log's last record lies among the keys from the record on
-- that this one names
abbrev pub BringsNone : Numbers → ℕ → Files → Type 0
BringsNone s cone seen = (records : List LogRecord) (log_end : ℕ) → HasLog s cone (seen LOG) records log_end →
    FlushesNothing (version_in (seen JOURNAL)) s (last_n0 records) (seen JOURNAL) (last_first records - 1) (last_offset records)

-- from one state of a bay to another a log that is in its format keeps its records, as the bay then reads
abbrev pub KeepsLogIn : {B : Type 0} → Bays B → Numbers → ℕ → B → B → Type 0
KeepsLogIn bays s cone before after = IfTold (bays.files before) (λ seen. (records : List LogRecord) (log_end : ℕ) → HasLog s cone (seen LOG) records log_end →
    IfTold (bays.files after) (KeepsLog (version_in (seen JOURNAL)) s records log_end seen))

-- From one state of a bay to another, whatever was answered, nothing is written over told files that leave their format before the
-- records of the journal, or begin with other numbers, or by whose journal no flush comes. And in any case the log keeps its records,
-- and what the frames hold that its last one names.
pub record IsUnharmed {B : Type 0} (bays : Bays B) (s : Numbers) (cone : ℕ) (before after : B) : Type 0 where
  pub left : IfTold (bays.files before) (λ seen. (file at : ℕ) → LeaveAt s cone seen file at → WritesNothing bays before after ⊥)
  pub other : IfTold (bays.files before) (λ seen. (kept : Kept) → HasOther s cone (seen JOURNAL) kept → WritesNothing bays before after ⊥)
  pub unflushed : IfTold (bays.files before) (λ seen. BringsNone s cone seen → WritesNothing bays before after ⊥)
  pub log : KeepsLogIn bays s cone before after

-- what becomes of the bay of a cone that is on its way through a journal: the log keeps the records with which the cone went on
abbrev pub KeepsLogFrom : {B : Type 0} → Bays B → Replaying B → B → Type 0
KeepsLogFrom bays cone after = IfTold (bays.files cone.bay) (λ seen. (records : List LogRecord) → IsHeadOf cone.listing.settings records (head_of cone) (seen LOG) →
    IfTold (bays.files after) (KeepsLog cone.listing.version cone.listing.settings records cone.log.gate seen))
