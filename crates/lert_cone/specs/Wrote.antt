-- What calls make of a bay that leave one of its files alone.
use Rattle.std.specs.Prelude.{◌≡◌, ℕ, Option, Some}
use Rattle.lert_bay.specs.{Kept.Bays, Files.{Files, IfTold, Turns}, Images.Lasts, Settled.{Keeps, IsSettled}}
use Rattle.lert_gatelog.specs.{Gated.IsClosed, Kept.{InEach, IsWhollySettled}}

-- the file reads as before, what is settled in it stays settled at each moment, and time goes on
pub record LeavesFile (file : ℕ) (files_before files_after : Option Files) (leaves_before leaves_after : Files → Type 0) (first last : ℕ) (since_before since_after : ℕ → Files →
    Type 0) : Type 0 where
  pub seen : Turns (λ old new. new file ≡ old file) files_before files_after
  pub settled : (old : Files) → files_before ≡ Some old → (from to : ℕ) → IsSettled leaves_before old file from to → Keeps (since_after first) old file from to
  pub now : (image : Files) → leaves_after image → since_after first image
  pub time : Lasts first last since_before since_after

-- so from one state of a bay to another
abbrev pub LeavesAlone : {B : Type 0} → Bays B → ℕ → B → B → Type 0
LeavesAlone bays file before after =
    LeavesFile file (bays.files before) (bays.files after) (bays.leaves before) (bays.leaves after) (bays.moment before) (bays.moment after) (bays.left_since before) (bays.left_since after)

-- a file is settled from its first byte to its length, and a gate in it is closed in every image
pub record IsShut (leaves : Files → Type 0) (seen : Files) (file gate : ℕ) : Type 0 where
  pub settled : IsWhollySettled leaves seen file
  pub closed : InEach leaves file (λ bytes. IsClosed bytes gate)

-- it is so where the bay tells its files
abbrev pub IsShutIfTold : Option Files → (Files → Type 0) → ℕ → ℕ → Type 0
IsShutIfTold told leaves file gate = IfTold told (λ seen. IsShut leaves seen file gate)

-- files that are told stay told
abbrev pub Anything : Files → Files → Type 0
Anything old new = Unit {0}
