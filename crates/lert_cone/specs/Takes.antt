-- What items, a packet, and the end make of a cone's counts, its log and its bay.
use Rattle.std.specs.Prelude.{◌≡◌, ◌≢◌, ℕ, ◌+◌, ◌*◌, ◌^◌, ◌<◌, ◌≤◌, max, true, false, List, [], ◌∷◌, ◌++◌, All, length, Some, None, Result, Err, OnOk, IsErrOf}
use Rattle.lert_base.specs.Packet.{Packet, events_of}
use Rattle.lert_bay.specs.{Kept.{Bays, KeepsBay}, Files.{Files, IfTold, Turns}, declared.bay.TheConstants.{JOURNAL, LOG, FRAMES}}
use Rattle.lert_gatelog.specs.Gated.{Log, next_gate}
use Rattle.lert_journal.specs.Payload.{IsJournaled, payload_of}
use Rattle.lert_levels.specs.rows.Checked.{rows_left}
use Rattle.lert_spec.specs.{declared.item.Item.Item, Counts.{weighed, weight_of}, Edges.{capacity, weight_room}, Items.AreOfVersion, Mix.cone_of}
use Rattle.lert_cone.specs.{declared.journal_places.JournalPlace.JournalPlace, declared.tally.TakeFault.TakeFault, declared.tally.TakeFault.TheVariants.{Failed, Unsound}}
use Rattle.lert_cone.specs.{Framed.{HoldsSome, last_flush}, InStep.{IsInStep, IsLogging, IsPartway}, KeepsLog.{LogHead, KeepsLogOf}, JournalPlaces.AreOfRecord, Record.LogPlace}
use Rattle.lert_cone.specs.{Replay.IsOnWay, Sound.{IsSound, IsSoundOver}, Stands.IsWhole, Tally.{Tallied, IsCounted, IsLightWith, IsRecounted, Shows}, Wrote.{Anything, LeavesAlone, IsShutIfTold}}
use Rattle.lert_journal.specs.Payload.{most_payload}

-- what items are taken over: the bay, the counts, the log, and the length of the buffer
pub record Workplace (B : Type 0) : Type 0 where
  pub bay : B
  pub counts : Tallied
  pub log : LogPlace
  pub room : ℕ

abbrev pub work_at : {B : Type 0} → B → Tallied → LogPlace → ℕ → Workplace B
work_at bay counts log room = record { bay = bay; counts = counts; log = log; room = room }

-- where its log is before its next record, and its gate closed in every image
pub record CanLog {B : Type 0} (bays : Bays B) (at : Workplace B) : Type 0 where
  pub logging : IsLogging at.counts at.log at.room
  pub log_shut : IsShutIfTold (bays.files at.bay) (bays.leaves at.bay) LOG at.log.gate

-- what memory goes on with there, and so while items come again up to n0
abbrev pub taken_head : {B : Type 0} → Workplace B → LogHead
taken_head at = record { rows = at.counts.rows; events = length at.counts.listing.events; gate = at.log.gate }

abbrev pub replayed_head : {B : Type 0} → ℕ → Workplace B → LogHead
replayed_head n0 at = record { rows = at.counts.rows; events = max n0 (length at.counts.listing.events); gate = at.log.gate }

-- these items may be taken: the cone isn't closed, they are its own and no more than it takes, and no call broke off
pub record CanTake {B : Type 0} (bays : Bays B) (items : List Item) (at : Workplace B) : Type 0 where
  pub still : at.counts.listing.closed ≡ false
  pub own : All (λ item. cone_of at.counts.listing.settings item.key ≡ at.counts.listing.cone) items
  pub light : AreOfVersion at.counts.listing.version items
  pub fits : length at.counts.listing.events + length items ≤ capacity at.counts.listing.settings
  pub counted : IsCounted at.counts
  pub can_log : CanLog bays at

-- files and memory go together there
abbrev pub AreInStep : {B : Type 0} → Bays B → Workplace B → Files → List Packet → Type 0
AreInStep bays at seen history = IsInStep (bays.leaves at.bay) seen history at.counts.listing at.counts.rows at.counts.due.reports at.log

-- the next items, so many, are those of the journal's record at a place
abbrev pub AreNext : {B : Type 0} → List Packet → JournalPlace → Workplace B → List Item → Type 0
AreNext history place at items = AreOfRecord at.counts.listing.version history place (length at.counts.listing.events) (length at.counts.listing.events + length items)

-- and the journal is that of these packets, up to its gate
abbrev pub IsWholeAt : {B : Type 0} → Bays B → Workplace B → Log → Files → List Packet → Type 0
IsWholeAt bays at journal seen history = IsWhole (bays.leaves at.bay) seen at.counts.listing at.counts.rows at.counts.due.reports journal.gate at.log history

-- and it can hold one more: with it they weigh no more than a cone takes
pub record CanHold {B : Type 0} (bays : Bays B) (at : Workplace B) (journal : Log) (seen : Files) (history : List Packet) (packet : Packet) : Type 0 where
  pub whole : IsWholeAt bays at journal seen history
  pub light : weight_of weighed (events_of (history ++ packet ∷ [])) ≤ weight_room at.counts.listing.settings

-- the journal stays as it is, and no frame is found malformed but where it shows so
pub record KeepsJournal {B : Type 0} (bays : Bays B) (old new : Workplace B) (result : Result (Unit {0}) TakeFault) : Type 0 where
  pub shows : IfTold (bays.files new.bay) (λ seen. (file at : ℕ) → IsErrOf result (Unsound file at) →
      Shows new.counts.listing.version new.counts.listing.settings new.counts.rows new.counts.due.reports (seen FRAMES) file at)
  pub journal : LeavesAlone bays JOURNAL old.bay new.bay
  pub most : new.log.most ≡ old.log.most
  pub kept : KeepsBay bays old.bay new.bay (IsErrOf result Failed)

-- Keys are taken, of the journal's record at a place. Where the bay tells its files, and these went together with memory, for a
-- list of which that record holds the items, they do so again, and they are sound in each image of each moment; no frame is found
-- malformed then, nor where the frames hold the bins of some events, whatever these are, as they do again. The log keeps its records,
-- also where the files are sound for no list. Where no flush position lies among the items no call of the bay is made.
pub record TakesItems {B : Type 0} (bays : Bays B) (place : JournalPlace) (items : List Item) (old new : Workplace B) (result : Result (Unit {0}) TakeFault) : Type 0 where
  pub listing : new.counts.listing ≡ record old.counts.listing { events = new.counts.listing.events }
  pub taken : OnOk result (new.counts.listing.events ≡ old.counts.listing.events ++ items)
  pub counted : OnOk result (IsCounted new.counts)
  pub can_log : OnOk result (CanLog bays new)
  pub in_step : IfTold (bays.files old.bay) (λ seen. (history : List Packet) → AreNext history place old items → AreInStep bays old seen history →
      OnOk result (IfTold (bays.files new.bay) (λ after. AreInStep bays new after history)))
  pub each_moment : IfTold (bays.files old.bay) (λ seen. (history : List Packet) → AreNext history place old items →
      IsPartway old.counts.listing.settings history old.counts.listing.events items → AreInStep bays old seen history →
      (image : Files) → bays.left_since new.bay (bays.moment old.bay) image → IsSound old.counts.listing.settings old.counts.listing.cone history image)
  pub sound : IfTold (bays.files old.bay) (λ seen. (history : List Packet) → AreNext history place old items → AreInStep bays old seen history → IsLightWith old.counts items →
      (file at : ℕ) → result ≢ Err (Unsound file at))
  pub framed : IfTold (bays.files old.bay) (λ seen. HoldsSome old.counts.listing.version old.counts.listing.settings (length old.counts.listing.events) old.counts.rows (seen FRAMES) →
      OnOk result (IfTold (bays.files new.bay) (λ after. HoldsSome new.counts.listing.version new.counts.listing.settings (length new.counts.listing.events) new.counts.rows (after FRAMES))))
  pub whole : IfTold (bays.files old.bay) (λ seen. HoldsSome old.counts.listing.version old.counts.listing.settings (length old.counts.listing.events) old.counts.rows (seen FRAMES) → (at : ℕ) →
      result ≢ Err (Unsound FRAMES at))
  pub unflushed : last_flush old.counts.listing.settings (length old.counts.listing.events + length items) ≤ length old.counts.listing.events → new.bay ≡ old.bay
  pub log : KeepsLogOf bays old.counts.listing.version old.counts.listing.settings (taken_head old) (taken_head new) old.bay new.bay result
  pub keeps : KeepsJournal bays old new result

-- a packet may be taken: the journal may hold it, its gate is closed in every image, and its items may be taken
pub record CanTakePacket {B : Type 0} (bays : Bays B) (packet : Packet) (at : Workplace B) (journal : Log) : Type 0 where
  pub file : journal.file ≡ JOURNAL
  pub most : journal.most ≡ most_payload at.counts.listing.version at.counts.listing.settings
  pub roomy : journal.most + 5 ≤ at.room
  pub reach : journal.gate + 14 + 9 * length packet.items < 2 ^ 63
  pub shut : IsShutIfTold (bays.files at.bay) (bays.leaves at.bay) JOURNAL journal.gate
  pub journaled : IsJournaled at.counts.listing.version at.counts.listing.settings at.counts.listing.cone packet
  pub fits : length at.counts.listing.events + length packet.items ≤ capacity at.counts.listing.settings
  pub still : at.counts.listing.closed ≡ false
  pub counted : IsCounted at.counts
  pub can_log : CanLog bays at

-- A packet is taken: it is appended to the journal, and then its items are taken. Where the bay tells its files, and these are
-- those of a list of packets, they are sound for the list, or for the list and the packet, in each image of each moment, and
-- after Ok they go together with memory for the list and the packet.
pub record TakesPacket {B : Type 0} (bays : Bays B) (packet : Packet) (old new : Workplace B) (journal journal_after : Log) (result : Result (Unit {0}) TakeFault) : Type 0 where
  pub listing : new.counts.listing ≡ record old.counts.listing { events = new.counts.listing.events }
  pub taken : OnOk result (new.counts.listing.events ≡ old.counts.listing.events ++ packet.items)
  pub counted : OnOk result (IsCounted new.counts)
  pub can_log : OnOk result (CanLog bays new)
  pub moved : OnOk result (journal_after ≡ record journal { gate = next_gate journal.gate (payload_of old.counts.listing.version packet) })
  pub file : journal_after.file ≡ journal.file
  pub most : journal_after.most ≡ journal.most
  pub shut : OnOk result (IsShutIfTold (bays.files new.bay) (bays.leaves new.bay) JOURNAL journal_after.gate)
  pub in_step : IfTold (bays.files old.bay) (λ seen. (history : List Packet) → CanHold bays old journal seen history packet →
      OnOk result (IfTold (bays.files new.bay) (λ after. AreInStep bays new after (history ++ packet ∷ []))))
  pub each_moment : IfTold (bays.files old.bay) (λ seen. (history : List Packet) → CanHold bays old journal seen history packet →
      (image : Files) → bays.left_since new.bay (bays.moment old.bay) image → IsSoundOver old.counts.listing.settings old.counts.listing.cone history (Some packet) image)
  pub sound : IfTold (bays.files old.bay) (λ seen. (history : List Packet) → CanHold bays old journal seen history packet → (file at : ℕ) → result ≢ Err (Unsound file at))
  pub shows : IfTold (bays.files new.bay) (λ seen. (file at : ℕ) → IsErrOf result (Unsound file at) →
      Shows new.counts.listing.version new.counts.listing.settings new.counts.rows new.counts.due.reports (seen FRAMES) file at)
  pub seen : Turns Anything (bays.files old.bay) (bays.files new.bay)
  pub now : (image : Files) → bays.leaves new.bay image → bays.left_since new.bay (bays.moment old.bay) image
  pub kept : KeepsBay bays old.bay new.bay (IsErrOf result Failed)

-- these items of a journal may be taken again, of which those up to n0, the place of the log's last record, are counted again
pub record CanReplay {B : Type 0} (bays : Bays B) (n0 : ℕ) (items : List Item) (at : Workplace B) : Type 0 where
  pub own : All (λ item. cone_of at.counts.listing.settings item.key ≡ at.counts.listing.cone) items
  pub light : AreOfVersion at.counts.listing.version items
  pub fits : length at.counts.listing.events + length items ≤ capacity at.counts.listing.settings
  pub before_closing : at.counts.listing.closed ≡ true → length at.counts.listing.events + length items ≤ n0
  pub recounted : IsRecounted at.counts n0
  pub can_log : CanLog bays at

-- They are taken, of the journal's record at a place. Where the bay tells its files, and these and memory were on their way through
-- a journal that has these items next, in that record, they are so behind them, the files are sound for its packets in each image
-- of each moment, and no frame is found malformed; nor is one where the frames hold the bins of some events. The log keeps its records,
-- also where the files are sound for no list. Where no flush position behind n0 lies among the items no call of the bay is made.
pub record ReplaysItems {B : Type 0} (bays : Bays B) (n0 : ℕ) (place : JournalPlace) (items : List Item) (old new : Workplace B) (result : Result (Unit {0}) TakeFault) : Type 0 where
  pub listing : new.counts.listing ≡ record old.counts.listing { events = new.counts.listing.events }
  pub taken : OnOk result (new.counts.listing.events ≡ old.counts.listing.events ++ items)
  pub recounted : OnOk result (IsRecounted new.counts n0)
  pub can_log : OnOk result (CanLog bays new)
  pub on_way : IfTold (bays.files old.bay) (λ seen. (history : List Packet) (rest : List Item) → events_of history ≡ old.counts.listing.events ++ (items ++ rest) →
      AreNext history place old items →
      IsOnWay (bays.leaves old.bay) seen history old.counts.listing old.counts.rows old.counts.due.reports old.log n0 →
      OnOk result (IfTold (bays.files new.bay) (λ after. IsOnWay (bays.leaves new.bay) after history new.counts.listing new.counts.rows new.counts.due.reports new.log n0)))
  pub sound : IfTold (bays.files old.bay) (λ seen. (history : List Packet) (rest : List Item) → events_of history ≡ old.counts.listing.events ++ (items ++ rest) →
      AreNext history place old items →
      IsOnWay (bays.leaves old.bay) seen history old.counts.listing old.counts.rows old.counts.due.reports old.log n0 → (file at : ℕ) → result ≢ Err (Unsound file at))
  pub each_moment : IfTold (bays.files old.bay) (λ seen. (history : List Packet) (rest : List Item) → events_of history ≡ old.counts.listing.events ++ (items ++ rest) →
      AreNext history place old items →
      IsOnWay (bays.leaves old.bay) seen history old.counts.listing old.counts.rows old.counts.due.reports old.log n0 →
      (image : Files) → bays.left_since new.bay (bays.moment old.bay) image → IsSound old.counts.listing.settings old.counts.listing.cone history image)
  pub unflushed : last_flush old.counts.listing.settings (length old.counts.listing.events + length items) ≤ max n0 (length old.counts.listing.events) → new.bay ≡ old.bay
  pub framed : IfTold (bays.files old.bay) (λ seen. HoldsSome old.counts.listing.version old.counts.listing.settings (max n0 (length old.counts.listing.events)) old.counts.rows (seen FRAMES) →
      OnOk result (IfTold (bays.files new.bay) (λ after. HoldsSome new.counts.listing.version new.counts.listing.settings (max n0 (length new.counts.listing.events)) new.counts.rows (after FRAMES))))
  pub whole : IfTold (bays.files old.bay) (λ seen. HoldsSome old.counts.listing.version old.counts.listing.settings (max n0 (length old.counts.listing.events)) old.counts.rows (seen FRAMES) →
      (at : ℕ) → result ≢ Err (Unsound FRAMES at))
  pub log : KeepsLogOf bays old.counts.listing.version old.counts.listing.settings (replayed_head n0 old) (replayed_head n0 new) old.bay new.bay result
  pub keeps : KeepsJournal bays old new result

-- The end: all levels are scanned, the reports listed that are left, and the closing record appended.
pub record TakesEnd {B : Type 0} (bays : Bays B) (old new : Workplace B) (result : Result (Unit {0}) TakeFault) : Type 0 where
  pub listing : new.counts.listing ≡ record old.counts.listing { closed = new.counts.listing.closed }
  pub rows : new.counts.rows ≡ old.counts.rows
  pub closed : OnOk result (new.counts.listing.closed ≡ true)
  pub counted : OnOk result (IsCounted new.counts)
  pub in_step : IfTold (bays.files old.bay) (λ seen. (history : List Packet) → old.counts.listing.events ≡ events_of history → AreInStep bays old seen history →
      OnOk result (IfTold (bays.files new.bay) (λ after. AreInStep bays new after history)))
  pub each_moment : IfTold (bays.files old.bay) (λ seen. (history : List Packet) → old.counts.listing.events ≡ events_of history → AreInStep bays old seen history →
      (image : Files) → bays.left_since new.bay (bays.moment old.bay) image → IsSound old.counts.listing.settings old.counts.listing.cone history image)
  pub sound : IfTold (bays.files old.bay) (λ seen. (history : List Packet) → AreInStep bays old seen history → IsLightWith old.counts [] → (file at : ℕ) → result ≢ Err (Unsound file at))
  pub whole : IfTold (bays.files old.bay) (λ seen. OnOk result (rows_left old.counts.listing.settings old.counts.listing.version (seen FRAMES) old.counts.rows ≡ None))
  pub room : new.room ≡ old.room
  pub keeps : KeepsJournal bays old new result
