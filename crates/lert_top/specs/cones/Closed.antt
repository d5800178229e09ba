-- Bays of which a crash leaves closed journals alone.
use Rattle.std.specs.Prelude.{◌≡◌, ℕ, ◌^◌, ◌<◌, List, Option, Some, slice_get}
use Rattle.lert_base.specs.Packet.{Packet}
use Rattle.lert_bay.specs.Files.{Files, IfTold}
use Rattle.lert_cone.specs.Sound.{IsKept, IsSoundClosed}
use Rattle.lert_spec.specs.declared.numbers.Numbers.{Numbers}

-- the files of a bay that tells them are sound for the packets of their journal, and closed, as a read gives them and in every
-- image
abbrev pub IsClosedInEach : {B : Type 0} → (B → Option Files) → (B → Files → Type 0) → Numbers → ℕ → B → Type 0
IsClosedInEach files leaves s cone bay = IfTold (files bay) (λ seen. (history : List Packet) × IsKept (leaves bay) seen (IsSoundClosed s cone history))

-- so of each of some bays, in ascending cones
abbrev pub AreClosedInEach : {B : Type 0} → (B → Option Files) → (B → Files → Type 0) → Numbers → List B → Type 0
AreClosedInEach {B = B} files leaves s bays = (cone : ℕ) (bay : B) → slice_get bays cone ≡ Some bay → IsClosedInEach files leaves s cone bay

-- so of the bay of each cone that was put back
abbrev pub AreReturnedClosed : {B : Type 0} → (B → Option Files) → (B → Files → Type 0) → Numbers → (ℕ → Option B) → Type 0
AreReturnedClosed {B = B} files leaves s returned = (cone : ℕ) (bay : B) → cone < 2 ^ s.cone_bits → returned cone ≡ Some bay → IsClosedInEach files leaves s cone bay
