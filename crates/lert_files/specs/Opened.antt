-- What stands in a cone's files before the records of its journal, and where they first leave their format.
use Rattle.std.specs.Prelude.{◌≡◌, ℕ, List, Some, None}
use Rattle.lert_base.specs.declared.kept.Kept.{Kept}
use Rattle.lert_bay.specs.{declared.bay.TheConstants.{JOURNAL, LOG, FRAMES}, Files.{Files, IfTold}, Kept.{Bays, CallsBay}}
use Rattle.lert_journal.specs.Header.{version_in}
use Rattle.lert_levels.specs.{declared.rows.bin_at.BinAt.BinAt, declared.rows.fault.FlushFault.FlushFault}
use Rattle.lert_levels.specs.{declared.rows.fault.FlushFault.TheVariants.{Failed as CheckFailed, Malformed as CheckMalformed}, rows.Checked.rows_left, rows.Named.AreNamed}
use Rattle.lert_files.specs.{declared.fault.ReopenFault.ReopenFault, declared.fault.ReopenFault.TheVariants.{Failed, Malformed, OtherSettings}, Headed.{BeginningLeaves, IsHeaded, HasOther}}
use Rattle.lert_reports.specs.{Log.{last_directory, last_n0, HasLog, LogLeavesAt}, LogText.{LogRecord, directory_bytes}}
use Rattle.lert_spec.specs.declared.numbers.Numbers.{Numbers}

-- rows that the last record of a log names: the bins of the levels after its events, in its frames
abbrev pub AreLastRows : Numbers → List LogRecord → List (List BinAt) → Type 0
AreLastRows s records rows = AreNamed s (last_n0 records) (directory_bytes (last_directory s records)) rows

-- the journal has the cone's header, the log is whole, and the frames that its last record names are in their format, that of the
-- header's version
pub record AreOpened (s : Numbers) (cone : ℕ) (seen : Files) (records : List LogRecord) (log_end : ℕ) (rows : List (List BinAt)) : Type 0 where
  pub headed : IsHeaded s cone (seen JOURNAL)
  pub log : HasLog s cone (seen LOG) records log_end
  pub named : AreLastRows s records rows
  pub frames : rows_left s (version_in (seen JOURNAL)) (seen FRAMES) rows ≡ None

-- the files first leave their format at this place, in the order in which they are read: the beginning of the journal,
-- behind the right one the log, and behind a whole log the frames that its last record names
pub data LeaveAt (s : Numbers) (cone : ℕ) (seen : Files) (file at : ℕ) : Type 0 where
  In_beginning : file ≡ JOURNAL → BeginningLeaves s cone (seen JOURNAL) at → LeaveAt s cone seen file at
  In_log : IsHeaded s cone (seen JOURNAL) → file ≡ LOG → LogLeavesAt s cone (seen LOG) at → LeaveAt s cone seen file at
  In_frame : IsHeaded s cone (seen JOURNAL) → (records : List LogRecord) (log_end : ℕ) → HasLog s cone (seen LOG) records log_end →
      (rows : List (List BinAt)) → AreLastRows s records rows → file ≡ FRAMES → rows_left s (version_in (seen JOURNAL)) (seen FRAMES) rows ≡ Some at → LeaveAt s cone seen file at

-- why files aren't read: a call failed, or what stands in them
pub data IsRefused (s : Numbers) (cone : ℕ) (seen : Files) (fault : ReopenFault) : Type 0 where
  By_call : fault ≡ Failed → IsRefused s cone seen fault
  By_place : (file at : ℕ) → fault ≡ Malformed file at → LeaveAt s cone seen file at → IsRefused s cone seen fault
  By_header : (kept : Kept) → fault ≡ OtherSettings kept → HasOther s cone (seen JOURNAL) kept → IsRefused s cone seen fault

-- what a refused check of the frames is
abbrev pub checked_fault : FlushFault → ReopenFault
checked_fault CheckFailed = Failed
checked_fault (CheckMalformed at) = Malformed FRAMES at

-- ---- the bay

-- an image has in each file what a read gives
pub record IsAsRead (seen image : Files) : Type 0 where
  pub journal : image JOURNAL ≡ seen JOURNAL
  pub log : image LOG ≡ seen LOG
  pub frames : image FRAMES ≡ seen FRAMES

-- Calls that write nothing: the files read as before. Where they are told, each image of each moment was one before, though
-- there may be fewer afterwards, since a sync leaves fewer.
pub record WritesNothing {B : Type 0} (bays : Bays B) (before after : B) (Failed : Type 0) : Type 0 where
  pub kept : CallsBay bays before after Failed
  pub seen : bays.files after ≡ bays.files before
  pub images : IfTold (bays.files before) (λ _. (image : Files) → bays.leaves after image → bays.leaves before image)
  pub moments : IfTold (bays.files before) (λ _. (image : Files) → bays.left_since after (bays.moment before) image → bays.leaves before image)
