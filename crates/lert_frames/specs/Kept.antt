-- What several calls make of a bay, seen as one.
use Rattle.std.specs.Prelude.{◌≢◌, ℕ, ◌-◌, ◌≤◌, List}
use Rattle.std.proofs.Common.{◌⊎◌}
use Rattle.lert_bay.specs.Files.{Files, Turns, Changes, LeftByFailure}
use Rattle.lert_bay.specs.Images.{ComesByWrite}
use Rattle.lert_bay.specs.Kept.{Bays}
use Rattle.lert_bay.specs.Settled.{Keeps, IsSettled}
use Rattle.lert_bay.specs.declared.bay.TheConstants.{FRAMES}

-- the calls wrote into this range of a file and nowhere else: the files made this step, and each image of each moment
-- since comes by one write into the range from an image of before
pub record Wrote {B : Type 0} (bays : Bays B) (step : List ℕ → List ℕ → Type 0) (file at count : ℕ) (before after : B) : Type 0 where
  pub seen : Turns (Changes step file) (bays.files before) (bays.files after)
  pub images : (image : Files) → bays.leaves after image → ComesByWrite (bays.leaves before) file at count image
  pub moments : (image : Files) → bays.left_since after (bays.moment before) image → ComesByWrite (bays.leaves before) file at count image

-- what was settled outside of a range of a file, or in another file, is so in each image of each moment since
abbrev pub KeepsOutside : {B : Type 0} → Bays B → B → B → Files → ℕ → ℕ → ℕ → Type 0
KeepsOutside bays before after seen file begin end =
    (number from to : ℕ) → (number ≢ file) ⊎ ((to ≤ begin) ⊎ (end ≤ from)) →
    IsSettled (bays.leaves before) seen number from to → Keeps (bays.left_since after (bays.moment before)) seen number from to

-- Writers' calls: they wrote into the range of the file of frames from one place up to another, whatever they answered, and nowhere
-- else. Any bytes may stand in the range; where the file ended before it, zero bytes stand between.
pub record WritesWithin {B : Type 0} (bays : Bays B) (begin end : ℕ) (before after : B) : Type 0 where
  pub wrote : Wrote bays (LeftByFailure begin (end - begin)) FRAMES begin (end - begin) before after
