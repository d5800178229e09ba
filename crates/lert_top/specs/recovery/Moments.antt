-- What a recovery leaves of its bays, and a stop inside it.
use Rattle.std.specs.Prelude.{◌≡◌, ℕ, List, Option, Some, slice_get}
use Rattle.lert_base.specs.Packet.{Packet}
use Rattle.lert_bay.specs.{Files.{Files, IfTold}, Images.Lasts, Kept.Bays}
use Rattle.lert_cone.specs.Sound.{StaysSound}
use Rattle.lert_recover.specs.{Moments.AreSound, Unharmed.IsUnharmed}
use Rattle.lert_spec.specs.declared.numbers.Numbers.{Numbers}
use Rattle.lert_ingest.specs.Bays.{AreLater, EachBay}
use Rattle.lert_top.specs.recovery.Recovered.{AreJournalsSame, AreSoundStill}

-- From one state of a cone's bay to another time goes on, and told files stay told. Where they are told and every image is sound
-- for a list, so is every image of each moment between, and so are the files as they are read then. And files for which there is no
-- such list are unharmed: where they leave their format before the records of the journal, or begin with other numbers, nothing is
-- written over them, and else a log in its format keeps its records.
pub record IsSpared {B : Type 0} (bays : Bays B) (s : Numbers) (cone : ℕ) (before now : B) : Type 0 where
  pub time : Lasts (bays.moment before) (bays.moment now) (bays.left_since before) (bays.left_since now)
  pub told : (seen : Files) → bays.files before ≡ Some seen → (there : Files) × (bays.files now ≡ Some there)
  pub stays : IfTold (bays.files before) (λ _. (history : List Packet) → AreSound (bays.leaves before) s cone history → StaysSound bays s cone history before now)
  pub unharmed : IsUnharmed bays s cone before now

-- that of each bay
abbrev pub AreSpared : {B : Type 0} → Bays B → Numbers → List B → List B → Type 0
AreSpared bays s first later = EachBay (IsSpared bays s) first later

-- what calls of a recovery leave of all bays: the same ones later, with the same journals, those sound that were so, and each spared
pub record AreReread {B : Type 0} (bays : Bays B) (s : Numbers) (first now : List B) : Type 0 where
  pub later : AreLater bays.files bays.faults bays.mark first now
  pub journals : AreJournalsSame bays.files first now
  pub stays_sound : AreSoundStill bays.files s first now
  pub each_moment : AreSpared bays s first now

-- that of each bay that was handed out and put back
abbrev pub AreReturnedSpared : {B : Type 0} → Bays B → Numbers → List B → (ℕ → Option B) → Type 0
AreReturnedSpared {B = B} bays s handed returned = (cone : ℕ) (before now : B) → slice_get handed cone ≡ Some before → returned cone ≡ Some now → IsSpared bays s cone before now
