-- What a write and its sync make of a bay.
use Rattle.std.specs.Prelude.{◌≡◌, ℕ, List, length, Result, OnOk, IsErr}
use Rattle.lert_bay.specs.{Files.{Files, IfTold, Turns, Changes, Holds, LeftByFailure}, Images.ComesByWrite, Kept.{Bays, KeepsBay}}

-- Bytes were written into a file at a place, and the file was synced. After an error any bytes stand in their range. Each image
-- of each moment comes by the write from one at the start, and after Ok each image has the file as a read gives it.
pub record WritesDurably {B T E : Type 0} (bays : Bays B) (file at : ℕ) (bytes : List ℕ) (before after : B)
    (result : Result T E) : Type 0 where
  pub written : OnOk result (Turns (Changes (Holds at bytes) file) (bays.files before) (bays.files after))
  pub seen : Turns (Changes (LeftByFailure at (length bytes)) file) (bays.files before) (bays.files after)
  pub moments : IfTold (bays.files before) (λ _. (image : Files) → bays.left_since after (bays.moment before) image →
      ComesByWrite (bays.leaves before) file at (length bytes) image)
  pub durable : OnOk result (IfTold (bays.files after) (λ seen. (image : Files) → bays.leaves after image → image file ≡ seen file))
  pub kept : KeepsBay bays before after (IsErr result)
