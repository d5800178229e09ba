-- What a reopening keeps of a cone's log and of the frames that it names, whether or not the files are sound for a list.
use Rattle.std.specs.Prelude.{◌≡◌, ◌≢◌, ℕ, ◌+◌, ◌-◌, ◌<◌, ◌≤◌, max, List, [], ◌∷◌, ◌++◌, Contains, length, slice_index_or, Result, OnOk}
use Rattle.lert_bay.specs.{Files.{Files, IfTold}, Kept.Bays, Settled.part, declared.bay.TheConstants.{LOG, FRAMES}}
use Rattle.lert_frames.specs.Place.{frame_place, frame_len}
use Rattle.lert_gatelog.specs.Kept.{InEach}
use Rattle.lert_levels.specs.{declared.rows.bin_at.BinAt.BinAt, rows.Rows.IsAt}
use Rattle.lert_reports.specs.{declared.log.LogKind.LogKind, Log.{HasRecords, last_n0, last_directory}, LogRules.AreFrames, LogText.LogRecord}
use Rattle.lert_spec.specs.{declared.numbers.Numbers.Numbers, Edges.{edge, capacity}}
use Rattle.lert_cone.specs.{Framed.HoldsSome, Logged.frames_of, Replaying.Replaying}

-- ---- the frames that a log names

-- a range of the file of frames stands in a frame that a directory names
pub record InDirectory (version : ℕ) (s : Numbers) (directory : List (List ℕ)) (from to : ℕ) : Type 0 where
  pub level : ℕ
  pub first : 1 ≤ level
  pub last : level ≤ s.levels
  pub frame : ℕ
  pub named : Contains (slice_index_or directory (level - 1) []) frame
  pub above : frame_place s version level frame ≤ from
  pub below : to ≤ frame_place s version level frame + frame_len s version level

-- the last of some records names the frames of these rows, which have the bins of the levels after the events that it speaks of
pub record NamesRows (s : Numbers) (records : List LogRecord) (rows : List (List BinAt)) : Type 0 where
  pub directory : last_directory s records ≡ frames_of rows
  pub at : IsAt s (last_n0 records) rows

-- the frames that it names hold the bins of some events, whatever these are
pub record HoldsNamed (version : ℕ) (s : Numbers) (records : List LogRecord) (file : List ℕ) : Type 0 where
  pub rows : List (List BinAt)
  pub names : NamesRows s records rows
  pub some : HoldsSome version s (last_n0 records) rows file

-- ---- what is kept

-- a record of the next flush behind n0 events: it stands at a flush position, and none lies between; and its frames are as those of
-- a log's record
pub record IsNextFlush (s : Numbers) (n0 : ℕ) (one : LogRecord) : Type 0 where
  pub flush : one.kind ≡ LogKind.Flush
  pub moves : edge s 0 one.n0 ≢ edge s 0 (one.n0 - 1)
  pub next : edge s 0 n0 ≡ edge s 0 (one.n0 - 1)
  pub within : one.n0 ≤ capacity s
  pub levels : length one.directory ≡ s.levels
  pub frames : (k : ℕ) → k < s.levels → AreFrames s (k + 1) one.n0 (slice_index_or one.directory k [])

-- records of the flushes behind n0 events, in turn
abbrev pub AreNextFlushes : Numbers → ℕ → List LogRecord → Type 0
AreNextFlushes s n0 [] = Unit {0}
AreNextFlushes s n0 (one ∷ rest) = IsNextFlush s n0 one × AreNextFlushes s one.n0 rest

-- Where a log had some records up to a gate, it has these bytes now: up to that gate they are as they were, the records are the
-- first of those that stand there, and those behind them are records of the next flushes.
pub record KeepsRecords (s : Numbers) (records : List LogRecord) (gate : ℕ) (before after : List ℕ) : Type 0 where
  pub more : List LogRecord
  pub end : ℕ
  pub stand : HasRecords s after (records ++ more) end
  pub forward : gate ≤ end
  pub beginning : part after 0 gate ≡ part before 0 gate
  pub flushes : AreNextFlushes s (last_n0 records) more

-- From some files to others the log keeps its records, to which others may have come. As long as none came, the frames that the
-- last one names are as they were, byte for byte. And where those hold the bins of some events, whatever these are, so do the
-- frames that the last one names by then.
pub record KeepsLog (version : ℕ) (s : Numbers) (records : List LogRecord) (gate : ℕ) (before after : Files) : Type 0 where
  pub log : KeepsRecords s records gate (before LOG) (after LOG)
  pub longer : length (before FRAMES) ≤ length (after FRAMES)
  pub same : log.more ≡ [] → (from to : ℕ) → InDirectory version s (last_directory s records) from to → to ≤ length (before FRAMES) →
      part (after FRAMES) from to ≡ part (before FRAMES) from to
  pub frames : HoldsNamed version s records (before FRAMES) → HoldsNamed version s (records ++ log.more) (after FRAMES)

-- ---- while memory goes on with it

-- what memory goes on with: the rows, after how many events they stand, and the gate of the log
pub record LogHead : Type 0 where
  pub rows : List (List BinAt)
  pub events : ℕ
  pub gate : ℕ

-- these records stand up to the gate, the last one names the rows, and no flush position lies behind it
pub record IsHeadOf (s : Numbers) (records : List LogRecord) (head : LogHead) (bytes : List ℕ) : Type 0 where
  pub stand : HasRecords s bytes records head.gate
  pub names : NamesRows s records head.rows
  pub newest : edge s 0 (last_n0 records) ≡ edge s 0 head.events

-- From one state of a bay to another the log keeps its records, as the bay then reads, and the log alone in every image of each
-- moment between. After Ok memory goes on with what stands there.
pub record StaysLogged {B T E : Type 0} (bays : Bays B) (version : ℕ) (s : Numbers) (records : List LogRecord) (seen : Files) (old new : LogHead) (before after : B) (result : Result T E) : Type 0
  where
    pub read : IfTold (bays.files after) (λ now. (kept : KeepsLog version s records old.gate seen now) × OnOk result (IsHeadOf s (records ++ kept.log.more) new (now LOG)))
    pub each_moment : InEach (bays.left_since after (bays.moment before)) LOG (KeepsRecords s records old.gate (seen LOG))

-- so of all records with which memory went on before, where the bay tells its files
abbrev pub KeepsLogOf : {B T E : Type 0} → Bays B → ℕ → Numbers → LogHead → LogHead → B → B → Result T E → Type 0
KeepsLogOf bays version s old new before after result =
    IfTold (bays.files before) (λ seen. (records : List LogRecord) → IsHeadOf s records old (seen LOG) → StaysLogged bays version s records seen old new before after result)

-- what a cone whose journal is read again goes on with
abbrev pub head_of : {B : Type 0} → Replaying B → LogHead
head_of cone = record { rows = cone.rows; events = max cone.last.n0 (length cone.listing.events); gate = cone.log.gate }
