-- A cone on its way through the journal of a stopped run: what its memory and its files have by then, and where a record
-- leaves the format.
use Rattle.lert_spec.specs.declared.item.Item.{Item}
use Rattle.std.specs.Prelude.{◌≡◌, ◌⊎◌, ℕ, ◌+◌, ◌-◌, ◌<◌, ◌≤◌, max, Bool, true, false, List, ◌∷◌, ◌++◌, length, take, drop}
use Rattle.lert_base.specs.Packet.{Packet, events_of}
use Rattle.lert_bay.specs.Files.{Files}
use Rattle.lert_gatelog.specs.Gated.{IsClosed}
use Rattle.lert_journal.specs.Journal.{HoldsPacket, LeavesAt}
use Rattle.lert_levels.specs.declared.rows.bin_at.BinAt.{BinAt}
use Rattle.lert_reports.specs.{Log.{last_n0, last_offset, last_first, last_directory, listed_in, is_closed}, LogText.LogRecord}
use Rattle.lert_spec.specs.{declared.numbers.Numbers.Numbers, declared.report.Report.Report, Counts.{weighed, weight_of}, Edges.{edge, capacity, weight_room}}
use Rattle.lert_cone.specs.{Framed.last_flush, History.{end_of}, InStep.IsInStep, Listing.Listing, Logged.frames_of, Record.LogPlace, Sound.but_last}
use Rattle.lert_journal.specs.Payload.{most_payload}

-- what the last of some records says, as it is in memory: after how many events it was written, from which record of the
-- journal on that is to be read and the position of its first item, whether it is a closing one, and the frames of the rows;
-- and the reports of all records
pub record IsLastOf (s : Numbers) (n0 offset first : ℕ) (closed : Bool) (rows : List (List BinAt)) (reports : List Report) (records : List LogRecord) : Type 0 where
  pub n0_is : n0 ≡ last_n0 records
  pub offset_is : offset ≡ last_offset records
  pub first_is : first ≡ last_first records
  pub closed_is : closed ≡ is_closed records
  pub directory_is : last_directory s records ≡ frames_of rows
  pub reports_are : reports ≡ listed_in records

-- The journal has the packets of a history, of which the listing has the items so far. Memory and files go together as after
-- n0 events, the place of the log's last record, until more are there, and from then on as after the items so far. No flush
-- position lies between n0 and the last packet, and a closing record stands behind all events.
pub record IsOnWay (leaves : Files → Type 0) (seen : Files) (history : List Packet) (listing : Listing) (rows : List (List BinAt)) (reports : List Report) (log : LogPlace) (n0 : ℕ) : Type 0
  where
    pub n0_most : n0 ≤ length (events_of history)
    pub n0_least : last_flush listing.settings (length (events_of (but_last history))) ≤ n0
    pub closed_behind : listing.closed ≡ true → n0 ≡ length (events_of history)
    pub in_step : IsInStep leaves seen history (record listing { events = take (max n0 (length listing.events)) (events_of history) }) rows reports log

-- the first packets of a history were read, or needn't be: these are their items, and the gate behind them is the next one
pub record IsPast (version : ℕ) (history done : List Packet) (events : List Item) (gate : ℕ) : Type 0 where
  pub rest : List Packet
  pub is : history ≡ done ++ rest
  pub keys : events ≡ events_of done
  pub gate_is : gate ≡ end_of version done

-- this packet of a history stands behind the first ones
pub record IsNext (history done : List Packet) (packet : Packet) : Type 0 where
  pub rest : List Packet
  pub is : history ≡ done ++ packet ∷ rest

-- what items weigh, of which n stand before, behind a position: those up to it are counted elsewhere
abbrev pub weight_behind : ℕ → ℕ → List Item → ℕ
weight_behind from n items = weight_of weighed (drop (from - n) items)

-- A packet may stand behind n events, where w is what those weigh that the frames hold which the log's last record names, with
-- those behind them, and this record was written after n0 events: with it they are no more than a cone takes, weigh no more,
-- and are no more than n0, where that record is a closing one.
pub record MayFollow (s : Numbers) (n0 : ℕ) (closed : Bool) (n w : ℕ) (packet : Packet) : Type 0 where
  pub within : n + length packet.items ≤ capacity s
  pub before_closing : closed ≡ true → n + length packet.items ≤ n0
  pub light : w + weight_behind (edge s 0 n0) n packet.items ≤ weight_room s

-- so by the numbers of a packet: of its items, and of what they add to the weight
abbrev pub IsFollowing : Numbers → (n0 : ℕ) → Bool → (n len w more : ℕ) → Type 0
IsFollowing s n0 closed n len w more = (n + len ≤ capacity s) × (closed ≡ true → n + len ≤ n0) × (w + more ≤ weight_room s)

-- and the place at which it is left: at its gate, where it goes past a closing record; and else at its length
abbrev pub IsLeftBy : Numbers → (n0 : ℕ) → Bool → (n len w more gate at : ℕ) → Type 0
IsLeftBy s n0 closed n len w more gate at =
    ((closed ≡ true) × (n0 < n + len) × (at ≡ gate))
    ⊎ (((closed ≡ false) × (capacity s < n + len) × (at ≡ gate + 1))
    ⊎ ((closed ≡ true → n + len ≤ n0) × (n + len ≤ capacity s) × (weight_room s < w + more) × (at ≡ gate + 1)))

-- The place at which what stands at a gate, behind n events that weigh w (as above), leaves the format, in a journal whose log's
-- last record was written after n0 events: as a record of the journal; a closed gate before n0 events are there, and a record
-- that goes past a closing one, at the gate; one with which the events are above the capacity, at its length; and there too one
-- with which they are within it, and weigh more than a cone takes.
pub data ReplayLeavesAt (version : ℕ) (s : Numbers) (cone n0 : ℕ) (closed : Bool) (n w : ℕ) (bytes : List ℕ) (gate at : ℕ) : Type 0 where
  In_record : LeavesAt version s cone (most_payload version s) bytes gate at → ReplayLeavesAt version s cone n0 closed n w bytes gate at
  Too_few : IsClosed bytes gate → n < n0 → at ≡ gate → ReplayLeavesAt version s cone n0 closed n w bytes gate at
  Past_the_end : (packet : Packet) → HoldsPacket version s cone (most_payload version s) bytes gate packet → closed ≡ true → n0 < n + length packet.items → at ≡ gate →
      ReplayLeavesAt version s cone n0 closed n w bytes gate at
  Too_many : (packet : Packet) → HoldsPacket version s cone (most_payload version s) bytes gate packet → closed ≡ false → capacity s < n + length packet.items → at ≡ gate + 1 →
      ReplayLeavesAt version s cone n0 closed n w bytes gate at
  Too_heavy : (packet : Packet) → HoldsPacket version s cone (most_payload version s) bytes gate packet → (closed ≡ true → n + length packet.items ≤ n0) →
      n + length packet.items ≤ capacity s → weight_room s < w + weight_behind (edge s 0 n0) n packet.items → at ≡ gate + 1 →
      ReplayLeavesAt version s cone n0 closed n w bytes gate at
