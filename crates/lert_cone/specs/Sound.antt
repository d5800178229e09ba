-- What the files of a cone hold for a list of packets, and what a bay keeps of that.
use Rattle.std.specs.Prelude.{◌≡◌, ℕ, ◌-◌, ◌<◌, ◌≤◌, Bool, true, List, [], ◌∷◌, ◌++◌, length, take, All, Option, Some, slice_index_or, if◌then◌else◌}
use Rattle.std.proofs.Common.{◌⊎◌}
use Rattle.lert_base.specs.Packet.{keys_of, Packet, events_of}
use Rattle.lert_bay.specs.{Files.{Files, IfTold}, Kept.Bays, Settled.part, declared.bay.TheConstants.{JOURNAL, LOG, FRAMES}}
use Rattle.lert_frames.specs.Frame.{HoldsFrame}
use Rattle.lert_gatelog.specs.Kept.{IsWhollySettled}
use Rattle.lert_journal.specs.{Header.{magic, header}, Journal.HasPackets, Payload.{IsJournaled, most_payload}}
use Rattle.lert_reports.specs.{Log.{HasLog, listed_in, last_n0, last_directory, is_closed}, LogText.LogRecord}
use Rattle.lert_spec.specs.{Counts.{weighed, weight_of}, declared.item.Item.Item, declared.numbers.Numbers.Numbers}
use Rattle.lert_spec.specs.{Bins.{Bin, bins_of}, Edges.{key_limit, capacity, weight_room}, Look.{look_of, closing_of}}
use Rattle.lert_cone.specs.{Framed.last_flush, History.{end_of}, JournalPlaces.{NamesRecord, last_place}}
use Rattle.lert_spec.specs.Items.{IsVersion}

-- ---- the journal

-- keys below the limit
abbrev pub KeysFit : Numbers → List Packet → Type 0
KeysFit s history = All (λ packet. All (λ key. key < key_limit s) (keys_of packet)) history

-- the bytes are the journal of a list of packets, of a version: the header of the cone, and open records of these packets, each of which
-- a journal may hold, and which together have no more items than a cone takes, and weigh no more
pub record IsJournal (version : ℕ) (s : Numbers) (cone : ℕ) (history : List Packet) (bytes : List ℕ) : Type 0 where
  pub headed : part bytes 0 32 ≡ header (magic version) s cone
  pub records : HasPackets version (most_payload version s) bytes 32 history (end_of version history)
  pub journaled : All (IsJournaled version s cone) history
  pub fit : KeysFit s history
  pub within : length (events_of history) ≤ capacity s
  pub light : weight_of weighed (events_of history) ≤ weight_room s

-- all packets but the last
abbrev pub but_last : List Packet → List Packet
but_last history = take (length history - 1) history

-- ---- the frames

-- the frames of a level with these numbers hold these bins, one after another
abbrev pub HoldFrames : ℕ → Numbers → ℕ → List ℕ → List ℕ → List Bin → Type 0
HoldFrames version s level file [] [] = Unit {0}
HoldFrames version s level file [] (bin ∷ bins) = ⊥
HoldFrames version s level file (frame ∷ frames) [] = ⊥
HoldFrames version s level file (frame ∷ frames) (bin ∷ bins) =
    HoldsFrame s version level frame file bin.pieces × HoldFrames version s level file frames bins

-- those that a directory names hold the bins of each level from 1 on after these events
pub record HoldsDirectory (version : ℕ) (s : Numbers) (events : List Item) (directory : List (List ℕ)) (file : List ℕ) : Type 0 where
  pub each : (level : ℕ) → 1 ≤ level → level ≤ s.levels → HoldFrames version s level file (slice_index_or directory (level - 1) []) (bins_of weighed s events level)

-- ---- all three files

-- The files of a cone are sound for a list of packets: the journal is that of the list, and the log has records that keep
-- the rules. The last of them was written after n0 events, 0 where there is none. These are no more than those of the list,
-- and no flush position lies between them and the last packet. The frames that it names hold the bins of the first n0
-- events, and the reports of all records are those that the definition makes of these, or, behind a closing record, which
-- stands behind all events, those at the end. The last record says where the journal's record begins that holds the first item
-- of level 0 after n0 events.
pub record IsSound (s : Numbers) (cone : ℕ) (history : List Packet) (files : Files) : Type 0 where
  pub version : ℕ
  pub known : IsVersion version
  pub journal : IsJournal version s cone history (files JOURNAL)
  pub logged : List LogRecord
  pub log_end : ℕ
  pub log : HasLog s cone (files LOG) logged log_end
  pub n0_most : last_n0 logged ≤ length (events_of history)
  pub n0_least : last_flush s (length (events_of (but_last history))) ≤ last_n0 logged
  pub frames : HoldsDirectory version s (take (last_n0 logged) (events_of history)) (last_directory s logged) (files FRAMES)
  pub reports_are : listed_in logged ≡ (if is_closed logged then closing_of weighed s (events_of history) else look_of weighed s (take (last_n0 logged) (events_of history)))
  pub closed_behind : is_closed logged ≡ true → last_n0 logged ≡ length (events_of history)
  pub begins : NamesRecord version s history (last_n0 logged) (last_place logged)

-- sound, and its last record is a closing one or not: a closing one stands behind all events, and where there is none the
-- last one stands at the last flush position
pub record IsSoundAs (s : Numbers) (cone : ℕ) (closed : Bool) (history : List Packet) (files : Files) : Type 0 where
  pub sound : IsSound s cone history files
  pub closed_is : is_closed sound.logged ≡ closed
  pub n0_is : last_n0 sound.logged ≡ (if closed then length (events_of history) else last_flush s (length (events_of history)))

-- sound, and closed
abbrev pub IsSoundClosed : Numbers → ℕ → List Packet → Files → Type 0
IsSoundClosed s cone history files = IsSoundAs s cone true history files

-- sound for the list, or for the list and the packet that is left over, where there is one
abbrev pub IsSoundOver : Numbers → ℕ → List Packet → Option Packet → Files → Type 0
IsSoundOver s cone history over files =
    IsSound s cone history files
    ⊎ ((packet : Packet) × (over ≡ Some packet) × IsSound s cone (history ++ packet ∷ []) files)

-- ---- what a bay keeps

-- as a read gives the files, and in every image, they are so
pub record IsKept (leaves : Files → Type 0) (seen : Files) (P : Files → Type 0) : Type 0 where
  pub as_read : P seen
  pub images : (image : Files) → leaves image → P image

-- and the journal and the log are settled from the first byte to the last
pub record IsKeptWhole (leaves : Files → Type 0) (seen : Files) (P : Files → Type 0) : Type 0 where
  pub kept : IsKept leaves seen P
  pub journal : IsWhollySettled leaves seen JOURNAL
  pub log : IsWhollySettled leaves seen LOG

-- from one state of a bay to another the files stay sound for a list: in each image of each moment between, and as the bay then
-- reads them
pub record StaysSound {B : Type 0} (bays : Bays B) (s : Numbers) (cone : ℕ) (history : List Packet) (before after : B) : Type 0 where
  pub each_moment : (image : Files) → bays.left_since after (bays.moment before) image → IsSound s cone history image
  pub as_read : IfTold (bays.files after) (IsSound s cone history)

-- all three files are empty
pub record AreEmpty (seen : Files) : Type 0 where
  pub journal : seen JOURNAL ≡ []
  pub log : seen LOG ≡ []
  pub frames : seen FRAMES ≡ []

-- the frames stay as a read gives them
abbrev pub FramesStay : Files → Files → Type 0
FramesStay old new = new FRAMES ≡ old FRAMES
