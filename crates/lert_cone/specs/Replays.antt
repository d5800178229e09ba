-- What the record at a gate makes of a cone whose journal is read again.
use Rattle.std.specs.Prelude.{◌≡◌, ℕ, ◌+◌, ◌≤◌, max, List, [], ◌∷◌, ◌++◌, length, take, Option, Some, None, Result, Ok, Err}
use Rattle.lert_base.specs.Packet.{Packet, events_of}
use Rattle.lert_spec.specs.{Counts.{weighed, weight_of}, Edges.edge}
use Rattle.lert_bay.specs.{Files.{Files, IfTold}, Images.KeepsImages, Kept.Bays, declared.bay.TheConstants.JOURNAL}
use Rattle.lert_gatelog.specs.{declared.fault.LogFault.LogFault, declared.fault.LogFault.TheVariants.{Failed as LogFailed, Malformed as LogMalformed}, Gated.{IsClosed, next_gate}}
use Rattle.lert_journal.specs.{Journal.HoldsPacket, Payload.{IsJournaled, payload_of}}
use Rattle.lert_levels.specs.declared.rows.bin_at.BinAt.{BinAt}
use Rattle.lert_spec.specs.declared.report.Report.{Report}
use Rattle.lert_cone.specs.{declared.refusal.ReplayFault.ReplayFault, declared.refusal.ReplayFault.TheVariants.{Failed, Malformed, Unsound}, declared.tally.TakeFault.TakeFault}
use Rattle.lert_cone.specs.{declared.tally.TakeFault.TheVariants.{Failed as TakeFailed, Unsound as TakeUnsound}, Framed.last_flush, Record.LogPlace}
use Rattle.lert_cone.specs.{Replay.{IsOnWay, IsPast, MayFollow, ReplayLeavesAt, weight_behind}, Replaying.Replaying, Wrote.IsShutIfTold}
use Rattle.lert_journal.specs.Payload.{most_payload}

-- the cone has the items of the first packets of its journal, which is that of a history, and where its bay tells its files, these and
-- its memory are on their way through it, and what the named frames hold weighs what the history's items do that they hold
pub record Replays {B : Type 0} (files : B → Option Files) (leaves : B → Files → Type 0) (cone : Replaying B) (history done : List Packet) : Type 0 where
  pub taking : cone.stopped ≡ None
  pub past : IsPast cone.listing.version history done cone.listing.events cone.gate
  pub on_way : IfTold (files cone.bay) (λ seen. IsOnWay (leaves cone.bay) seen history cone.listing cone.rows cone.reports cone.log cone.last.n0)
  pub weighed_is : IfTold (files cone.bay) (λ _. weight_of weighed (take (edge cone.listing.settings 0 cone.last.n0) (events_of history)) ≡ cone.last.weight)

-- a packet that this cone's journal may hold stands in a file at a gate
abbrev pub HoldsNext : {B : Type 0} → Replaying B → List ℕ → ℕ → Packet → Type 0
HoldsNext cone bytes gate packet = HoldsPacket cone.listing.version cone.listing.settings cone.listing.cone (most_payload cone.listing.version cone.listing.settings) bytes gate packet

-- and may stand behind the items that the cone has
abbrev pub MayTake : {B : Type 0} → Replaying B → Packet → Type 0
MayTake cone packet = MayFollow cone.listing.settings cone.last.n0 cone.last.closed (length cone.listing.events) cone.weight packet

-- the place at which what stands at a gate leaves the format, behind the items that the cone has
abbrev pub LeavesBehind : {B : Type 0} → Replaying B → List ℕ → ℕ → ℕ → Type 0
LeavesBehind cone bytes gate at = ReplayLeavesAt cone.listing.version cone.listing.settings cone.listing.cone cone.last.n0 cone.last.closed (length cone.listing.events) cone.weight bytes gate at

-- a cone with the items of a packet more, and what that makes of the rest: those up to the edge of level 0 at the log's last record are
-- in the frames' weight already
abbrev pub with_packet : {B : Type 0} → Replaying B → Packet → ℕ → B → List (List BinAt) → List Report → LogPlace → Replaying B
with_packet cone packet gate bay rows reports log = record cone {
  bay = bay;
  listing = record cone.listing { events = cone.listing.events ++ packet.items };
  rows = rows;
  reports = reports;
  events = cone.events + length packet.items;
  weight = cone.weight + weight_behind (edge cone.listing.settings 0 cone.last.n0) (length cone.listing.events) packet.items;
  gate = gate;
  log = log;
}

-- a packet was taken that stands at a gate, where the files are told
pub record HasTaken {B : Type 0} (files : B → Option Files) (old new : Replaying B) (gate next : ℕ) : Type 0 where
  pub packet : Packet
  pub stands : IfTold (files old.bay) (λ seen. HoldsNext old (seen JOURNAL) gate packet)
  pub journaled : IsJournaled old.listing.version old.listing.settings old.listing.cone packet
  pub follows : MayTake old packet
  pub next_is : next ≡ next_gate gate (payload_of old.listing.version packet)
  pub is : new ≡ with_packet old packet next new.bay new.rows new.reports new.log

-- a closed gate was found, where the files are told, behind enough items, and nothing else changed
pub record HasEnded {B : Type 0} (files : B → Option Files) (leaves : B → Files → Type 0) (old new : Replaying B) (gate : ℕ) : Type 0 where
  pub enough : old.last.n0 ≤ length old.listing.events
  pub stands : IfTold (files old.bay) (λ seen. IsClosed (seen JOURNAL) gate)
  pub shut : IsShutIfTold (files new.bay) (leaves new.bay) JOURNAL gate
  pub seen : files new.bay ≡ files old.bay
  pub images : KeepsImages (leaves old.bay) (leaves new.bay)
  pub is : new ≡ record old { bay = new.bay; gate = gate }

-- No flush comes with what stands at a gate of told files: behind the items of a packet there that the cone may take the last flush
-- position is n0 at most, or one of the items so far.
abbrev pub BringsNoFlush : {B : Type 0} → Replaying B → List ℕ → ℕ → Type 0
BringsNoFlush cone bytes gate = (packet : Packet) → HoldsNext cone bytes gate packet → MayTake cone packet →
    last_flush cone.listing.settings (length cone.listing.events + length packet.items) ≤ max cone.last.n0 (length cone.listing.events)

-- from one state of a bay to another the files are as they were, byte for byte, and so are the images, also at each moment
-- between
pub record IsUnwritten {B : Type 0} (bays : Bays B) (before after : B) : Type 0 where
  pub seen : bays.files after ≡ bays.files before
  pub images : KeepsImages (bays.leaves before) (bays.leaves after)
  pub moments : (image : Files) → bays.left_since after (bays.moment before) image → bays.leaves before image

-- a packet stands at a gate that the cone may take
pub record IsThere {B : Type 0} (cone : Replaying B) (bytes : List ℕ) (gate : ℕ) : Type 0 where
  pub packet : Packet
  pub stands : HoldsNext cone bytes gate packet
  pub follows : MayTake cone packet

-- what stands at a gate of told files where a record isn't taken: a place at which the format is left; or a packet, of which
-- the items weren't all taken
abbrev pub WhyRefused : {B : Type 0} → Replaying B → List ℕ → ℕ → ReplayFault → Type 0
WhyRefused cone bytes gate Failed = Unit {0}
WhyRefused cone bytes gate (Malformed at) = LeavesBehind cone bytes gate at
WhyRefused cone bytes gate (Unsound file at) = IsThere cone bytes gate

-- what becomes of a cone on its way through the journal of a history, of whose first packets it has the items: it took one more,
-- or it has those of all; or a call of its bay failed
abbrev pub GoesOn : {B : Type 0} → (B → Option Files) → (B → Files → Type 0) → Replaying B → List Packet → List Packet → Result (Option ℕ) ReplayFault → Type 0
GoesOn files leaves new history done (Ok (Some next)) = (packet : Packet) × Replays files leaves new history (done ++ packet ∷ [])
GoesOn files leaves new history done (Ok None) = (done ≡ history) × Replays files leaves new history done
GoesOn files leaves new history done (Err fault) = fault ≡ Failed

-- why a record isn't taken
abbrev pub of_take_fault : TakeFault → ReplayFault
of_take_fault TakeFailed = Failed
of_take_fault (TakeUnsound file at) = Unsound file at

abbrev pub of_log_fault : LogFault → ReplayFault
of_log_fault LogFailed = Failed
of_log_fault (LogMalformed at) = Malformed at
