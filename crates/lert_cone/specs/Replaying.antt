-- A cone whose journal is read again: what it is seen as, and what is so of it.
use Rattle.std.specs.Prelude.{◌≡◌, ℕ, ◌+◌, ◌*◌, ◌^◌, ◌≤◌, List, length, Option, None, if◌then◌else◌}
use Rattle.lert_bay.specs.{Files.{Files, IfTold, Turns}, declared.bay.TheConstants.{JOURNAL, LOG}}
use Rattle.lert_gatelog.specs.{Gated.Log, Kept.IsWhollySettled}
use Rattle.lert_levels.specs.declared.rows.bin_at.BinAt.{BinAt}
use Rattle.lert_reports.specs.declared.log_point.LogPoint.{LogPoint}
use Rattle.lert_spec.specs.{declared.report.Report.Report, Edges.capacity, Limits.IsValid}
use Rattle.lert_cone.specs.{declared.refusal.ReplayFault.ReplayFault, declared.state.ConeState.TheVariants.{Running, Finished}, InStep.IsLogging, Listing.Listing}
use Rattle.lert_cone.specs.{Record.LogPlace, Room.{IsPointOf, room_of, weight_from}, Stands.{Standing, IsSameCone}, Tally.{Tallied, IsRecounted}, Wrote.{Anything, IsShutIfTold}}
use Rattle.lert_journal.specs.Payload.{most_payload}

-- a cone whose journal is read again: its bay now and as it was when it was adopted, its items, the rows of its levels, its
-- reports, how many items its packets have so far, what those weigh that the frames hold which the log's last record names,
-- with those behind them, why it takes no more of them, where a record was refused, the journal's gate, its log, and what the
-- log's last record said when it was adopted
pub record Replaying (B : Type 0) : Type 0 where
  pub bay : B
  pub made : B
  pub listing : Listing
  pub rows : List (List BinAt)
  pub reports : List Report
  pub events : ℕ
  pub weight : ℕ
  pub stopped : Option ReplayFault
  pub gate : ℕ
  pub log : LogPlace
  pub last : LogPoint

-- the cone that it is once its packets are all taken: finished where the log's last record is a closing one
abbrev pub readied : {B : Type 0} → Replaying B → Standing B
readied cone = record {
  bay = cone.bay;
  made = cone.made;
  listing = cone.listing;
  rows = cone.rows;
  reports = cone.reports;
  events = cone.events;
  weight = cone.weight;
  state = if cone.last.closed then Finished else Running;
  over = None;
  gate = cone.gate;
  log = cone.log;
  last = cone.last;
}

-- what no call changes of it: as of a cone
abbrev pub IsSameReplay : {B : Type 0} → Replaying B → Replaying B → Type 0
IsSameReplay old new = IsSameCone (readied old) (readied new)

-- what is so of one that takes records, of its counts and of the room of its buffer: its counts are those of its items, up to the
-- place of the log's last record as far as level 0 goes, its weight is that of the named frames and of the items behind them,
-- and an item takes at most 22 bytes of its journal. The journal and the log are settled, and the log's gate is closed in every
-- image
pub record IsTaking {B : Type 0} (files : B → Option Files) (leaves : B → Files → Type 0) (cone : Replaying B) (tally : Tallied) (room : ℕ) : Type 0 where
  pub counted : length cone.listing.events ≡ cone.events
  pub weight_is : cone.weight ≡ weight_from cone.listing.settings cone.last cone.listing.events
  pub recounted : IsRecounted tally cone.last.n0
  pub closed : cone.listing.closed ≡ cone.last.closed
  pub near : cone.gate ≤ 2 ^ 62 + 22 * cone.events
  pub journal_settled : IfTold (files cone.bay) (λ seen. IsWhollySettled (leaves cone.bay) seen JOURNAL)
  pub logging : IsLogging tally cone.log room
  pub log_shut : IsShutIfTold (files cone.bay) (leaves cone.bay) LOG cone.log.gate

-- what is so of each, of its journal's place and of the rooms of its buffer and of its list of keys. Its bay is the one that it was
-- adopted with, which tells its files exactly where it did then
pub record IsReplaying {B : Type 0} (files : B → Option Files) (leaves : B → Files → Type 0) (faults mark : B → ℕ) (cone : Replaying B) (tally : Tallied) (journal : Log)
    (room keys_room : ℕ) : Type 0 where
  pub file : journal.file ≡ JOURNAL
  pub most : journal.most ≡ most_payload cone.listing.version cone.listing.settings
  pub roomy : room ≡ room_of cone.listing.settings
  pub keys_roomy : keys_room ≡ 4 * cone.listing.settings.packet
  pub within : cone.events ≤ capacity cone.listing.settings
  pub version : cone.listing.version ≡ cone.last.version
  pub point : IsPointOf cone.listing.settings cone.last
  pub valid : IsValid cone.listing.settings
  pub never_falls : faults cone.made ≤ faults cone.bay
  pub marked : mark cone.bay ≡ mark cone.made
  pub tells : Turns Anything (files cone.made) (files cone.bay)
  pub taking : cone.stopped ≡ None → IsTaking files leaves cone tally room
