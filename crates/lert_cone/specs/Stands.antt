-- What a cone is seen as, and which lists of packets it stands for.
use Rattle.lert_spec.specs.Counts.{weighed, weight_of}
use Rattle.std.specs.{Prelude.{◌≡◌, ℕ, ◌+◌, ◌*◌, ◌^◌, ◌<◌, ◌≤◌, Bool, true, false, List, [], ◌∷◌, ◌++◌, length, All, Option, None, option_map}, declared.snapshot.Snapshot.Snapshot}
use Rattle.lert_base.specs.{declared.entry.Entry.Entry, Entries.packet_of, Packet.{Packet, events_of}, declared.cone_fault.ConeFault.ConeFault}
use Rattle.lert_base.specs.declared.cone_fault.ConeFault.TheVariants.{Closed, Broken, CapacityFull, WeightFull, OldJournal, BayFailed, Unsound}
use Rattle.lert_bay.specs.{Files.{Files, IfTold, Turns}, declared.bay.TheConstants.{JOURNAL, LOG}}
use Rattle.lert_gatelog.specs.Gated.{Log}
use Rattle.lert_io.specs.Fault.{HasRisen}
use Rattle.lert_levels.specs.declared.rows.bin_at.BinAt.{BinAt}
use Rattle.lert_spec.specs.{declared.numbers.Numbers.Numbers, declared.report.Report.Report, Edges.{capacity}, Limits.IsValid, Look.look_of}
use Rattle.lert_cone.specs.{declared.state.ConeState.ConeState, declared.state.ConeState.TheVariants.{Running, Finished, BrokenByBay, BrokenByRead}, declared.acked.Acked.Acked}
use Rattle.lert_cone.specs.{History.{end_of}, InStep.{IsInStep, IsLogging}, Listing.Listing, Record.LogPlace, Room.{room_of, weight_from}}
use Rattle.lert_cone.specs.{Sound.{IsSound, IsSoundAs, IsSoundOver, IsKept, IsKeptWhole}, Tally.{Tallied, IsCounted}, Wrote.{Anything, IsShutIfTold}, declared.tally.TakeFault.TakeFault}
use Rattle.lert_cone.specs.declared.tally.TakeFault.TheVariants.{Failed as TakeFailed, Unsound as TakeUnsound}
use Rattle.lert_reports.specs.declared.log_point.LogPoint.{LogPoint}
use Rattle.lert_journal.specs.Payload.{most_payload}
use Rattle.lert_levels.specs.rows.Checked.{IsWeightOf}

-- a call broke off in the middle, and none writes any more
abbrev pub is_broken : ConeState → Bool
is_broken Running = false
is_broken Finished = false
is_broken BrokenByBay = true
is_broken (BrokenByRead file at) = true

abbrev pub is_finished : ConeState → Bool
is_finished Running = false
is_finished Finished = true
is_finished BrokenByBay = false
is_finished (BrokenByRead file at) = false

-- a call was refused before its first step
abbrev pub is_refusal : ConeFault → Bool
is_refusal Closed = true
is_refusal Broken = true
is_refusal (CapacityFull n len) = true
is_refusal (WeightFull weight more) = true
is_refusal (OldJournal place) = true
is_refusal BayFailed = false
is_refusal (Unsound file at) = false

-- the state that a fault in the middle leaves, and the answer
abbrev pub broken_by : TakeFault → ConeState
broken_by TakeFailed = BrokenByBay
broken_by (TakeUnsound file at) = BrokenByRead file at

abbrev pub cone_fault : TakeFault → ConeFault
cone_fault TakeFailed = BayFailed
cone_fault (TakeUnsound file at) = Unsound file at

-- the packet of an entry that is kept
abbrev pub over_of : Option (Snapshot Entry) → Option Packet
over_of over = option_map (λ kept. packet_of kept.value) over

-- a cone: its bay now and as it was when the cone was made, its items, the rows of its levels, its reports, how many items it
-- acknowledged and what these weigh, its state, the packet that a broken call left over, the journal's gate, its log, and what the log's last
-- record said when the cone was made
pub record Standing (B : Type 0) : Type 0 where
  pub bay : B
  pub made : B
  pub listing : Listing
  pub rows : List (List BinAt)
  pub reports : List Report
  pub events : ℕ
  pub weight : ℕ
  pub state : ConeState
  pub over : Option Packet
  pub gate : ℕ
  pub log : LogPlace
  pub last : LogPoint

-- what no call changes of a cone: its settings, its number, its bay as it was when the cone was made, and what the log said then
pub record IsSameCone {B : Type 0} (old new : Standing B) : Type 0 where
  pub settings : new.listing.settings ≡ old.listing.settings
  pub cone : new.listing.cone ≡ old.listing.cone
  pub made : new.made ≡ old.made
  pub last : new.last ≡ old.last

-- the version of its files
abbrev pub version_of : {B : Type 0} → Standing B → ℕ
version_of cone = cone.last.version

-- What a cone shows of itself under a lock, and no packet changes: its settings, its number, the version of its files, its bay as it
-- was when the cone was made, off which it is read whether that told its files, whether the cone is finished, and that bay's count of
-- faults and its mark
pub record Terms (B : Type 0) : Type 0 where
  pub settings : Numbers
  pub cone : ℕ
  pub version : ℕ
  pub made : B
  pub finished : Bool
  pub faults : ℕ
  pub mark : ℕ

abbrev pub terms_of : {B : Type 0} → (B → ℕ) → (B → ℕ) → Standing B → Terms B
terms_of faults mark cone = record {
  settings = cone.listing.settings;
  cone = cone.listing.cone;
  version = version_of cone;
  made = cone.made;
  finished = is_finished cone.state;
  faults = faults cone.made;
  mark = mark cone.made;
}

-- as a bay was when a cone was made over it, its files were sound for a list, where it told them. There may be such a list or not,
-- which is no value that a program can keep
abbrev pub WereSoundAs : {B : Type 0} → (B → Option Files) → Numbers → ℕ → B → Type 0
WereSoundAs files s cone made = IfTold (files made) (λ first. (history : List Packet) × IsSound s cone history first)

-- so by the terms of a cone, and of a cone itself
abbrev pub WereSound : {B : Type 0} → (B → Option Files) → Terms B → Type 0
WereSound files terms = WereSoundAs files terms.settings terms.cone terms.made

abbrev pub WasSound : {B : Type 0} → (B → Option Files) → Standing B → Type 0
WasSound files cone = WereSoundAs files cone.listing.settings cone.listing.cone cone.made

-- A cone that isn't broken stands for a list, where its bay tells its files. As a read gives them, and in every image, they
-- are sound for it, with a closing record exactly where the cone is finished, and with the last record of a running one
-- at the last flush. The journal and the log are settled. In every image the log has its records, which say of the items
-- what memory has of them, and the frames that the rows name hold the older levels. Memory holds the items and reports.
pub record IsWhole (leaves : Files → Type 0) (seen : Files) (listing : Listing) (rows : List (List BinAt)) (reports : List Report) (gate : ℕ) (log : LogPlace) (history : List Packet) : Type 0
  where
    pub files : IsKeptWhole leaves seen (IsSoundAs listing.settings listing.cone listing.closed history)
    pub gate_is : gate ≡ end_of listing.version history
    pub keys : listing.events ≡ events_of history
    pub in_step : IsInStep leaves seen history listing rows reports log

-- A cone stands for a list of packets. Each has an item, and together they have as many as the cone acknowledged, which are
-- no more than it takes, and weigh as much; of a broken cone's weight nothing is said. Where its bay tells its files, they are
-- sound for the list; of a broken cone for the list or for the list and the packet that was left over. It is broken by its bay
-- only where the bay's count of faults rose since the cone was made, and by a read only where the bay doesn't tell its files.
-- Where the bay told files that were sound for no list when the cone was made, nothing is said of them, as of files that aren't
-- told.
pub record StandsFor {B : Type 0} (files : B → Option Files) (leaves : B → Files → Type 0) (faults : B → ℕ) (cone : Standing B) (history : List Packet) : Type 0 where
  pub some : All (λ packet. 0 < length packet.items) history
  pub counted : length (events_of history) ≡ cone.events
  pub within : cone.events ≤ capacity cone.listing.settings
  pub weighed : is_broken cone.state ≡ false → weight_of weighed (events_of history) ≡ cone.weight
  pub valid : IsValid cone.listing.settings
  pub whole : is_broken cone.state ≡ false → WasSound files cone → IfTold (files cone.bay)
      (λ seen. IsWhole (leaves cone.bay) seen cone.listing cone.rows cone.reports cone.gate cone.log history)
  pub broken : is_broken cone.state ≡ true → WasSound files cone → IfTold (files cone.bay) (λ seen.
      IsKept (leaves cone.bay) seen (IsSoundOver cone.listing.settings cone.listing.cone history cone.over))
  pub none_over : is_broken cone.state ≡ false → cone.over ≡ None
  pub by_bay : cone.state ≡ BrokenByBay → HasRisen (faults cone.made) (faults cone.bay)
  pub by_read : (file at : ℕ) → cone.state ≡ BrokenByRead file at → WasSound files cone → files cone.bay ≡ None

-- what is so of every cone, of its journal's place and of the rooms of its buffer and of its list of keys. Its bay is the one
-- that it was made with, which tells its files exactly where it did then. A cone that isn't broken has nothing left over, its
-- counts are those of its items, its weight is that of the frames that the log named as it was made and of the items behind
-- them, and an item takes at most 22 bytes of its journal. Its weight is one that so many items of its version may have, and
-- they are no fewer than those of the log's record that it began with. The gates of a running one are closed in every image,
-- and the journal and the log are settled
pub record IsCone {B : Type 0} (files : B → Option Files) (leaves : B → Files → Type 0) (faults mark : B → ℕ) (cone : Standing B) (tally : Tallied) (journal : Log) (room keys_room : ℕ)
    : Type 0 where
  pub file : journal.file ≡ JOURNAL
  pub most : journal.most ≡ most_payload cone.listing.version cone.listing.settings
  pub roomy : room ≡ room_of cone.listing.settings
  pub keys_roomy : keys_room ≡ 4 * cone.listing.settings.packet
  pub within : cone.events ≤ capacity cone.listing.settings
  pub weighs : IsWeightOf cone.last.version cone.events cone.weight
  pub passed : cone.last.n0 ≤ cone.events
  pub version : cone.listing.version ≡ cone.last.version
  pub valid : IsValid cone.listing.settings
  pub never_falls : faults cone.made ≤ faults cone.bay
  pub marked : mark cone.bay ≡ mark cone.made
  pub tells : Turns Anything (files cone.made) (files cone.bay)
  pub by_bay : cone.state ≡ BrokenByBay → HasRisen (faults cone.made) (faults cone.bay)
  pub none_over : is_broken cone.state ≡ false → cone.over ≡ None
  pub counted : is_broken cone.state ≡ false → length cone.listing.events ≡ cone.events
  pub weight_is : is_broken cone.state ≡ false → cone.weight ≡ weight_from cone.listing.settings cone.last cone.listing.events
  pub tallied : is_broken cone.state ≡ false → IsCounted tally
  pub closed : is_broken cone.state ≡ false → cone.listing.closed ≡ is_finished cone.state
  pub near : is_broken cone.state ≡ false → cone.gate ≤ 2 ^ 62 + 22 * cone.events
  pub shut : cone.state ≡ Running → IsShutIfTold (files cone.bay) (leaves cone.bay) JOURNAL cone.gate
  pub logging : cone.state ≡ Running → IsLogging tally cone.log room
  pub log_shut : cone.state ≡ Running → IsShutIfTold (files cone.bay) (leaves cone.bay) LOG cone.log.gate

-- the reply of a cone to a packet behind a list: the positions of its first and its last item, and, where its bay tells its
-- files, how many reports stand with it
pub record Answers {B : Type 0} (files : B → Option Files) (cone : Standing B) (history : List Packet) (packet : Packet) (acked : Acked) : Type 0 where
  pub from_is : acked.from ≡ length (events_of history) + 1
  pub to_is : acked.to ≡ length (events_of history) + length packet.items
  pub reports_are : WasSound files cone → IfTold (files cone.bay) (λ _. acked.reports ≡ length (look_of weighed cone.listing.settings (events_of (history ++ packet ∷ []))))
