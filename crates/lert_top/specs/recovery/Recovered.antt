-- What a recovery says of the bays that it opened, and of the text that it wrote.
use Rattle.std.specs.Prelude.{◌≡◌, ◌≢◌, ◌⊎◌, ℕ, ◌+◌, ◌-◌, Bool, ◌^◌, ◌<◌, List, ◌++◌, length, Option, Some, slice_get, if◌then◌else◌}
use Rattle.lert_base.specs.{declared.kept.Kept.Kept, Packet.{Packet, events_of}}
use Rattle.lert_bay.specs.Files.{Files, IfTold}
use Rattle.lert_cone.specs.{JournalPlaces.{IsPlaceIn, last_place}, Sound.{IsJournal, IsSound, IsSoundAs}, Stands.{Standing, StandsFor, WasSound}}
use Rattle.lert_io.specs.Fault.{HasRisen, IsFaultless}
use Rattle.lert_io.specs.Reading as reading
use Rattle.lert_files.specs.declared.fault.ReopenFault.{ReopenFault}
use Rattle.lert_files.specs.declared.fault.ReopenFault.TheVariants as fault
use Rattle.lert_files.specs.{Headed.HasOther, Opened.{AreLastRows, LeaveAt}}
use Rattle.lert_journal.specs.Header.{version_in}
use Rattle.lert_levels.specs.declared.rows.bin_at.BinAt.{BinAt}
use Rattle.lert_recover.specs.{Reopened.{IsReadOn, IsUnsoundAt}, Replayed.{FirstLeaves, frames_weigh, IsJournalSame, JournalEnds}}
use Rattle.lert_reports.specs.{Log.{is_closed, last_first, last_n0, last_offset, HasLog}, LogText.LogRecord}
use Rattle.lert_spec.specs.{declared.numbers.Numbers.Numbers, Counts.weighed, Lines.{Printed, lines}, Look.{closing_of, look_of}}
use Rattle.lert_ingest.specs.{Bays.{AreFaultless, AreFaultlessTo, AreUntouched, EachBay, HasFailed, IfHeld}, declared.status.Status.Status}
use Rattle.lert_ingest.specs.declared.status.Status.TheVariants.{Done, BayFault, Malformed, OtherSettings, OutFault, OutOfMemory}
use Rattle.lert_top.specs.cones.Print.{state_of}
use Rattle.lert_text.specs.Page.{IsCut}

-- ---- one cone

-- what is printed of a cone whose files are sound for a list: its events, and its reports, which are those at the end where the
-- log's last record is a closing one, and else those that are made while events come
abbrev pub printed_for : Numbers → List Packet → Bool → Printed
printed_for s history closed = record {
  events = length (events_of history);
  reports = if closed then closing_of weighed s (events_of history) else look_of weighed s (events_of history);
  closed = closed;
}

-- so many events are counted of files: those before the record of the journal that the log's last one names, by what that says,
-- and those of the packets that stand from there on up to a closed gate, as far as they weigh no more than a cone takes with what the
-- frames hold that this record names
pub record AreCounted (s : Numbers) (cone : ℕ) (seen : Files) (events : ℕ) : Type 0 where
  pub records : List LogRecord
  pub log_end : ℕ
  pub log : HasLog s cone (seen 1) records log_end
  pub rows : List (List BinAt)
  pub named : AreLastRows s records rows
  pub ends : JournalEnds (version_in (seen 0)) s cone (last_n0 records) (is_closed records) (seen 0) (last_first records - 1) (frames_weigh s seen rows) (last_offset records)
  pub count : events ≡ last_first records - 1 + length (events_of ends.packets)

-- the journal is that of a list, and the record that the log's last one names is one of the list's
pub record IsNamed (s : Numbers) (cone : ℕ) (seen : Files) (history : List Packet) : Type 0 where
  pub journal : IsJournal (version_in (seen 0)) s cone history (seen 0)
  pub records : List LogRecord
  pub log_end : ℕ
  pub log : HasLog s cone (seen 1) records log_end
  pub place : IsPlaceIn (version_in (seen 0)) history (last_place records)

-- Of a cone was printed what its files are sound for, and they are so as they were put back. Of files that are told and in their
-- format, but sound for no list, the events are those that are counted of them, and those of the whole journal, where the log names a
-- record of it
pub record IsRecovered {B : Type 0} (files : B → Option Files) (s : Numbers) (bays later : List B) (cone : ℕ) (one : Printed) : Type 0 where
  pub sound : IfHeld files bays cone (λ seen. (history : List Packet) (sound : IsSound s cone history seen) →
      (one ≡ printed_for s history (is_closed sound.logged)) × IfHeld files later cone (IsSoundAs s cone (is_closed sound.logged) history))
  pub journal : IfHeld files bays cone (λ seen. AreCounted s cone seen one.events)
  pub whole : IfHeld files bays cone (λ seen. (history : List Packet) → IsNamed s cone seen history → one.events ≡ length (events_of history))

-- that was printed of all of them
pub record AreRecovered {B : Type 0} (files : B → Option Files) (s : Numbers) (bays later : List B) (cones : List Printed) : Type 0 where
  pub number_is : length cones ≡ 2 ^ s.cone_bits
  pub each : (cone : ℕ) (one : Printed) → slice_get cones cone ≡ Some one → IsRecovered files s bays later cone one

-- a cone of a number was opened over a bay: it stands for the list for which its files are sound
pub record IsOpenOver {B : Type 0} (files : B → Option Files) (leaves : B → Files → Type 0) (faults : B → ℕ) (s : Numbers) (number : ℕ) (bay : B) (cone : Standing B) : Type 0 where
  pub settings_are : cone.listing.settings ≡ s
  pub number_is : cone.listing.cone ≡ number
  pub state_is : cone.state ≡ state_of cone.listing.closed
  pub counted : cone.events ≡ length cone.listing.events
  pub sound : IfTold (files bay) (λ seen. (history : List Packet) (sound : IsSound s number history seen) →
      StandsFor files leaves faults cone history × WasSound files cone × (cone.listing.closed ≡ is_closed sound.logged))
  pub journal : IfTold (files bay) (λ seen. IsReadOn s number seen cone.listing.events cone.weight cone.gate)
  pub whole : IfTold (files bay) (λ seen. (history : List Packet) → IsNamed s number seen history → cone.listing.events ≡ events_of history)
  pub formed : IfTold (files bay) (λ seen. (file at : ℕ) → FirstLeaves s number seen file at → ⊥)
  pub own : IfTold (files bay) (λ seen. (kept : Kept) → HasOther s number (seen 0) kept → ⊥)

-- one over each bay
abbrev pub AreOpenOver : {B : Type 0} → (B → Option Files) → (B → Files → Type 0) → (B → ℕ) → Numbers → List B → List (Standing B) → Type 0
AreOpenOver {B = B} files leaves faults s bays cones = (number : ℕ) (cone : Standing B) → slice_get cones number ≡ Some cone →
    (bay : B) → slice_get bays number ≡ Some bay → IsOpenOver files leaves faults s number bay cone

-- ---- why cones aren't opened

-- the files of a cone are sound for no list
abbrev pub NoneIsSound : Numbers → ℕ → Files → Type 0
NoneIsSound s cone seen = (history : List Packet) → IsSound s cone history seen → ⊥

-- what is so of the bay of a cone, as it was and as it is
abbrev pub OfBay : {B : Type 0} → ℕ → (B → B → Type 0) → List B → List B → Type 0
OfBay {B = B} cone R bays later = (before now : B) → slice_get bays cone ≡ Some before → slice_get later cone ≡ Some now → R before now

-- The files of a cone are sound for no list. They first leave their format at this place, or, where they leave it nowhere, it is the
-- start of the log. They don't begin with other numbers. Where the place stands before the records of the journal, they are as they were,
-- byte for byte.
pub record IsSpoiled {B : Type 0} (files : B → Option Files) (s : Numbers) (bays later : List B) (cone file at : ℕ) : Type 0 where
  pub named : cone < length bays
  pub told : IfHeld files bays cone (λ seen. FirstLeaves s cone seen file at ⊎ IsUnsoundAt s cone seen file at)
  pub first : IfHeld files bays cone (λ seen. (other place : ℕ) → FirstLeaves s cone seen other place → (file ≡ other) × (at ≡ place))
  pub unsound : IfHeld files bays cone (NoneIsSound s cone)
  pub own : IfHeld files bays cone (λ seen. (kept : Kept) → HasOther s cone (seen 0) kept → ⊥)
  pub kept : OfBay cone (λ before now. IfTold (files before) (λ seen. LeaveAt s cone seen file at → files now ≡ files before)) bays later

-- The journal of a cone begins with other numbers, and so the files are sound for no list and leave no format. They are as they were,
-- byte for byte.
pub record IsOther {B : Type 0} (files : B → Option Files) (s : Numbers) (bays later : List B) (cone : ℕ) : Type 0 where
  pub named : cone < length bays
  pub told : IfHeld files bays cone (λ seen. (kept : Kept) × HasOther s cone (seen 0) kept)
  pub unsound : IfHeld files bays cone (NoneIsSound s cone)
  pub formed : IfHeld files bays cone (λ seen. (file at : ℕ) → FirstLeaves s cone seen file at → ⊥)
  pub kept : OfBay cone (λ before now. files now ≡ files before) bays later

-- no cone below one leaves its format, or begins with other numbers
abbrev pub LowerAreFormed : {B : Type 0} → (B → Option Files) → Numbers → List B → ℕ → Type 0
LowerAreFormed files s bays cone = (other : ℕ) → other < cone → IfHeld files bays other (λ seen.
    ((file at : ℕ) → FirstLeaves s other seen file at → ⊥) × ((kept : Kept) → HasOther s other (seen 0) kept → ⊥))

-- the status of a recovery that a cone's fault stops
abbrev pub reopen_status : ℕ → ReopenFault → Status
reopen_status cone fault.Failed = BayFault cone
reopen_status cone (fault.Malformed file at) = Malformed cone file at
reopen_status cone (fault.OtherSettings kept) = OtherSettings cone

-- Why it stops, by the bays as they were opened and as they are put back. A cone that is named is the first that isn't opened:
-- those below it were, and the bays behind it are as they were handed out. With want of memory no cone is opened, and all bays are as
-- they were handed out.
pub data IsUnopened {B : Type 0} (files : B → Option Files) (faults : B → ℕ) (s : Numbers) (bays later : List B) : Status → Type 0 where
  unopened_failed : (cone : ℕ) → HasFailed faults bays later cone → LowerAreFormed files s bays cone → AreUntouched cone bays later → IsUnopened files faults s bays later (BayFault cone)
  unopened_spoiled : (cone file at : ℕ) → IsSpoiled files s bays later cone file at → LowerAreFormed files s bays cone → AreUntouched cone bays later →
      IsUnopened files faults s bays later (Malformed cone file at)
  unopened_other : (cone : ℕ) → IsOther files s bays later cone → LowerAreFormed files s bays cone → AreUntouched cone bays later →
      IsUnopened files faults s bays later (OtherSettings cone)
  unopened_memory : later ≡ bays → IsUnopened files faults s bays later OutOfMemory

-- ---- the whole

-- the journal of each bay is as it was
abbrev pub AreJournalsSame : {B : Type 0} → (B → Option Files) → List B → List B → Type 0
AreJournalsSame files bays later = EachBay (λ _ before now. IsJournalSame (files before) (files now)) bays later

-- files of a cone that were told, and sound for a list, are told later, and sound for it
abbrev pub IsSoundStill : {B : Type 0} → (B → Option Files) → Numbers → ℕ → B → B → Type 0
IsSoundStill files s cone before now = IfTold (files before) (λ seen. (history : List Packet) → IsSound s cone history seen →
    (there : Files) × (files now ≡ Some there) × IsSound s cone history there)

-- that of each bay
abbrev pub AreSoundStill : {B : Type 0} → (B → Option Files) → Numbers → List B → List B → Type 0
AreSoundStill files s bays later = EachBay (IsSoundStill files s) bays later

-- all bays below a number tell files that are sound for some list
abbrev pub AreSoundBelow : {B : Type 0} → (B → Option Files) → Numbers → List B → ℕ → Type 0
AreSoundBelow {B = B} files s bays number = (cone : ℕ) (bay : B) → cone < number → slice_get bays cone ≡ Some bay →
    (seen : Files) × (files bay ≡ Some seen) × ((history : List Packet) × IsSound s cone history seen)

module _ {K B : Type 0} (taken : K → Option (List ℕ)) (sink_faults : K → ℕ) (files : B → Option Files) (bay_faults : B → ℕ) (s : Numbers)
    (before after : K) (bays later : List B) where
  -- what the status of a recovery says: the text of all cones was written, or a part of it, or nothing was
  pub data RecoveryShows : Status → Type 0 where
    printed : LowerAreFormed files s bays (length bays) → (cones : List Printed) → AreRecovered files s bays later cones →
        reading.IfTold (taken before) (λ text. taken after ≡ Some (text ++ lines cones)) → RecoveryShows Done
    printed_partly : LowerAreFormed files s bays (length bays) → (cones : List Printed) → AreRecovered files s bays later cones →
        HasRisen (sink_faults before) (sink_faults after) → IsCut (taken before) (taken after) (lines cones) → RecoveryShows OutFault
    unopened : {status : Status} → IsUnopened files bay_faults s bays later status → after ≡ before → RecoveryShows status

  -- A recovery over bays that were opened: what its status says, and which one comes where no fault was counted. Bays that all
  -- tell sound files are answered with the text; and where those below a cone do, and that one's files leave their format or
  -- begin with other numbers, with this place, or with other settings, whatever the bays behind it do. Whatever comes, the
  -- journals are as they were, and files that were sound for a list are sound for it.
  pub record HasRecovered (status : Status) : Type 0 where
    pub shows : RecoveryShows status
    pub number : status ≢ OutOfMemory → length bays ≡ 2 ^ s.cone_bits
    pub journals : AreJournalsSame files bays later
    pub stays_sound : AreSoundStill files s bays later
    pub opens : AreFaultless bay_faults bays later → IsFaultless (sink_faults before) (sink_faults after) → AreSoundBelow files s bays (length bays) →
        (status ≡ Done) ⊎ (status ≡ OutOfMemory)
    pub spoiled_exactly : (cone : ℕ) → AreFaultlessTo bay_faults cone bays later → (bay : B) → slice_get bays cone ≡ Some bay → AreSoundBelow files s bays cone →
        IfTold (files bay) (λ seen. (file at : ℕ) → FirstLeaves s cone seen file at →
        (status ≡ Malformed cone file at) ⊎ (status ≡ OutOfMemory))
    pub other_exactly : (cone : ℕ) → AreFaultlessTo bay_faults cone bays later → (bay : B) → slice_get bays cone ≡ Some bay → AreSoundBelow files s bays cone →
        IfTold (files bay) (λ seen. (kept : Kept) → HasOther s cone (seen 0) kept → (status ≡ OtherSettings cone) ⊎ (status ≡ OutOfMemory))
