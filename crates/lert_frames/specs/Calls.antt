-- What a writer's calls leave of a bay.
use Rattle.std.specs.Prelude.{ℕ}
use Rattle.lert_bay.specs.Kept.{Bays, KeepsBay}
use Rattle.lert_frames.specs.Kept.{WritesWithin}

-- whatever they answered, they wrote into a range of the file of frames and nowhere else, and time went on
pub record Writes {B : Type 0} (bays : Bays B) (begin end : ℕ) (before after : B) (Failed : Type 0) : Type 0 where
  pub within : WritesWithin bays begin end before after
  pub kept : KeepsBay bays before after Failed
