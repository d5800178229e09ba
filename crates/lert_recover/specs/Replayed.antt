-- The packets of a journal as they are replayed, and where the files of a cone first leave their format.
use Rattle.std.specs.Prelude.{◌≡◌, ℕ, ◌+◌, ◌-◌, ◌≤◌, Bool, List, [], ◌∷◌, ◌++◌, length, map, Option}
use Rattle.lert_base.specs.Packet.{Packet, events_of}
use Rattle.lert_bay.specs.{declared.bay.TheConstants.{JOURNAL, FRAMES}, Files.{Files, Turns}}
use Rattle.lert_cone.specs.{Framed.last_flush, History.end_of, Replay.{MayFollow, ReplayLeavesAt, weight_behind}, Replaying.Replaying, Replays.Replays}
use Rattle.lert_gatelog.specs.Gated.{IsClosed, Records, next_gate}
use Rattle.lert_journal.specs.{Journal.HoldsPacket, Payload.{most_payload, payload_of}}
use Rattle.lert_levels.specs.declared.rows.bin_at.BinAt.{BinAt}
use Rattle.lert_files.specs.Opened.{AreOpened, LeaveAt}
use Rattle.lert_reports.specs.{Log.{is_closed, last_first, last_n0, last_offset}, LogText.LogRecord}
use Rattle.lert_spec.specs.declared.{item.Item.Item, numbers.Numbers.Numbers}
use Rattle.lert_journal.specs.Header.{version_in}
use Rattle.lert_levels.specs.rows.Checked.{rows_total}
use Rattle.lert_spec.specs.Edges.{edge}

-- these packets stand one behind the other from a gate on up to another, and each may follow the events before it, of which
-- n are before the first
abbrev pub AreReplayed : ℕ → Numbers → ℕ → ℕ → Bool → List ℕ → ℕ → ℕ → ℕ → List Packet → ℕ → Type 0
AreReplayed version s cone n0 closed bytes n w gate [] end = end ≡ gate
AreReplayed version s cone n0 closed bytes n w gate (packet ∷ rest) end =
    HoldsPacket version s cone (most_payload version s) bytes gate packet
    × MayFollow s n0 closed n w packet
    × AreReplayed version s cone n0 closed bytes (n + length packet.items)
    (w + weight_behind (edge s 0 n0) n packet.items) (next_gate gate (payload_of version packet)) rest end

-- some packets so stand from a gate on, and behind them the format is left at this place
pub record JournalLeavesAt (version : ℕ) (s : Numbers) (cone n0 : ℕ) (closed : Bool) (bytes : List ℕ) (n w gate at : ℕ) : Type 0 where
  pub packets : List Packet
  pub end : ℕ
  pub stand : AreReplayed version s cone n0 closed bytes n w gate packets end
  pub leaves : ReplayLeavesAt version s cone n0 closed (n + length (events_of packets)) (w + weight_behind (edge s 0 n0) n (events_of packets)) bytes end at

-- some packets so stand from a gate on, and behind them a closed gate, with as many events as the log says at least
pub record JournalEnds (version : ℕ) (s : Numbers) (cone n0 : ℕ) (closed : Bool) (bytes : List ℕ) (n w gate : ℕ) : Type 0 where
  pub packets : List Packet
  pub end : ℕ
  pub stand : AreReplayed version s cone n0 closed bytes n w gate packets end
  pub shut : IsClosed bytes end
  pub enough : n0 ≤ n + length (events_of packets)

-- behind these items, which weigh w, some packets so stand from the gate `first` on up to another one, and with theirs the items are `events`, which weigh `weight`
pub record HasReplayed (version : ℕ) (s : Numbers) (cone n0 : ℕ) (closed : Bool) (bytes : List ℕ) (before : List Item) (w first gate : ℕ) (events : List Item) (weight : ℕ) : Type 0
  where
    pub packets : List Packet
    pub stand : AreReplayed version s cone n0 closed bytes (length before) w first packets gate
    pub events_are : events ≡ before ++ events_of packets
    pub weight_is : weight ≡ w + weight_behind (edge s 0 n0) (length before) (events_of packets)

-- what the items weigh that these rows hold in frames of the files: the sum of all counts
abbrev pub frames_weigh : Numbers → Files → List (List BinAt) → ℕ
frames_weigh s seen rows = rows_total s (version_in (seen JOURNAL)) (seen FRAMES) 1 rows

-- The files of a cone first leave their format at this place, in the order in which they are read: before the records of the
-- journal, or, behind what is in its format, at one of these. The journal is read from the record on that the log's last one
-- names, behind the positions before that, with the weight of the frames that it names; what stands before it is no part of the format here.
pub data FirstLeaves (s : Numbers) (cone : ℕ) (seen : Files) (file at : ℕ) : Type 0 where
  Before_records : LeaveAt s cone seen file at → FirstLeaves s cone seen file at
  In_records : (records : List LogRecord) (log_end : ℕ) (rows : List (List BinAt)) → AreOpened s cone seen records log_end rows → file ≡ JOURNAL →
      JournalLeavesAt (version_in (seen JOURNAL)) s cone (last_n0 records) (is_closed records) (seen JOURNAL) (last_first records - 1) (frames_weigh s seen rows) (last_offset records) at →
      FirstLeaves s cone seen file at

-- they are in it to their end
pub record AreInFormat (s : Numbers) (cone : ℕ) (seen : Files) : Type 0 where
  pub records : List LogRecord
  pub log_end : ℕ
  pub rows : List (List BinAt)
  pub opened : AreOpened s cone seen records log_end rows
  pub journal : JournalEnds (version_in (seen JOURNAL)) s cone (last_n0 records) (is_closed records) (seen JOURNAL) (last_first records - 1) (frames_weigh s seen rows) (last_offset records)

-- However many packets are read from a gate of a journal on, behind n keys, no flush position above n0 lies among the keys.
abbrev pub FlushesNothing : ℕ → Numbers → ℕ → List ℕ → ℕ → ℕ → Type 0
FlushesNothing version s n0 bytes n gate = (packets : List Packet) (end : ℕ) → Records (most_payload version s) bytes gate (map (payload_of version) packets) end →
    last_flush s (n + length (events_of packets)) ≤ n0

-- ---- while packets are replayed

-- a cone is on its way through the packets of a list, wherever on it
abbrev pub ReplaysSome : {B : Type 0} → (B → Option Files) → (B → Files → Type 0) → Replaying B → List Packet → Type 0
ReplaysSome files leaves cone history = (done : List Packet) × Replays files leaves cone history done

-- the journal reads as before
abbrev pub IsJournalSame : Option Files → Option Files → Type 0
IsJournalSame before after = Turns (λ old new. new JOURNAL ≡ old JOURNAL) before after

-- how many bytes of it reads have handed out before and after: from the gate `first` on up to the end of a list's journal, and as many as its
-- greatest record has
abbrev pub ReadsRest : ℕ → Numbers → ℕ → List Packet → ℕ → ℕ → Type 0
ReadsRest version s first history before after = after + first ≤ before + end_of version history + 5 + most_payload version s
