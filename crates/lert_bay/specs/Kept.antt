-- What calls keep of a bay, one or several in turn, and what those keep that read alone.
use Rattle.std.specs.Prelude.{◌≡◌, ℕ, ◌≤◌, Option}
use Rattle.lert_bay.specs.{Files.Files, Images.{KeepsImages, Lasts}, declared.bay.Bay.Ghosts as Told, declared.bay.TheConstants.JOURNAL}
use Rattle.lert_io.specs.{Fault.HasRisen, declared.faulty.Faulty.Ghosts as Counted}

-- what bays of a type are seen by: the count of faults of each and its mark, its files, its images, its moment, its images
-- since a time, and how many bytes reads have handed out of each file
abbrev pub Bays : Type 0 → Type 1
Bays B = record {
  faults : B → ℕ;
  mark : B → ℕ;
  files : B → Option Files;
  leaves : B → Files → Type 0;
  moment : B → ℕ;
  left_since : B → ℕ → Files → Type 0;
  handed_out : B → ℕ → ℕ;
}

-- and these, from the ghost members of their traits
abbrev pub seen_by : {B : Type 0} → Counted B → Told B → Bays B
seen_by counted told = record {
  faults = counted.faults;
  mark = counted.mark;
  files = told.files;
  leaves = told.leaves;
  moment = told.moment;
  left_since = told.left_since;
  handed_out = told.handed_out;
}

-- Whatever the calls answer: time goes on, the count of faults doesn't fall, and rose where one of them is said to have failed,
-- and the mark is the same.
pub record CallsBay {B : Type 0} (bays : Bays B) (before after : B) (Failed : Type 0) : Type 0 where
  pub time : Lasts (bays.moment before) (bays.moment after) (bays.left_since before) (bays.left_since after)
  pub never_falls : bays.faults before ≤ bays.faults after
  pub failed : Failed → HasRisen (bays.faults before) (bays.faults after)
  pub mark : bays.mark after ≡ bays.mark before

-- The calls read alone: no file and no image changed, also at no moment between.
pub record ReadsBay {B : Type 0} (bays : Bays B) (before after : B) (Failed : Type 0) : Type 0 where
  pub kept : CallsBay bays before after Failed
  pub seen : bays.files after ≡ bays.files before
  pub images : KeepsImages (bays.leaves before) (bays.leaves after)
  pub moments : (image : Files) → bays.left_since after (bays.moment before) image → bays.leaves before image

-- What `CallsBay` says, and no byte of the journal was handed out.
pub record KeepsBay {B : Type 0} (bays : Bays B) (before after : B) (Failed : Type 0) : Type 0 where
  pub time : Lasts (bays.moment before) (bays.moment after) (bays.left_since before) (bays.left_since after)
  pub never_falls : bays.faults before ≤ bays.faults after
  pub failed : Failed → HasRisen (bays.faults before) (bays.faults after)
  pub mark : bays.mark after ≡ bays.mark before
  pub journal : bays.handed_out after JOURNAL ≡ bays.handed_out before JOURNAL

-- What `ReadsBay` says, and no byte of the journal was handed out.
pub record OnlyReads {B : Type 0} (bays : Bays B) (before after : B) (Failed : Type 0) : Type 0 where
  pub kept : KeepsBay bays before after Failed
  pub seen : bays.files after ≡ bays.files before
  pub images : KeepsImages (bays.leaves before) (bays.leaves after)
  pub moments : (image : Files) → bays.left_since after (bays.moment before) image → bays.leaves before image
