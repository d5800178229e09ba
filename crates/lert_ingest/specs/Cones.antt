-- Cones that were just made, and their memory.
use Rattle.std.specs.Prelude.{◌≡◌, ℕ, length, map, false, List, [], Option, Some, slice_get}
use Rattle.lert_base.specs.Packet.{Packet}
use Rattle.lert_bay.specs.Files.{Files}
use Rattle.lert_cone.specs.{declared.room.ConeRoom.ConeRoom, History.most_version, Room.IsRoom, Stands.{Standing, StandsFor, WasSound, version_of}, declared.state.ConeState.TheVariants.Running}
use Rattle.lert_spec.specs.declared.numbers.Numbers.{Numbers}

-- the memory of a cone with these settings, as it is made
abbrev pub IsNewRoom : {T C : Type 0} → Numbers → ConeRoom T C → Type 0
IsNewRoom s room = (room.settings ≡ s) × IsRoom room.settings room.zero room.levels room.store room.entry.keys (length room.buffer.items)

-- a cone of a number was just made: it stands for no packet yet, over files that were sound for none, of the greatest version, and
-- may take some
pub record IsNew {B : Type 0} (files : B → Option Files) (leaves : B → Files → Type 0) (faults : B → ℕ) (s : Numbers) (number : ℕ) (cone : Standing B) : Type 0 where
  pub stands : StandsFor files leaves faults cone []
  pub sound : WasSound files cone
  pub made_is : cone.made ≡ cone.bay
  pub listing_is : cone.listing ≡ record { settings = s; version = most_version; cone = number; events = []; closed = false }
  pub version_is : version_of cone ≡ most_version
  pub state_is : cone.state ≡ Running

-- each cone of a list, by its place
abbrev pub AreNew : {B : Type 0} → (B → Option Files) → (B → Files → Type 0) → (B → ℕ) → Numbers → List (Standing B) → Type 0
AreNew {B = B} files leaves faults s cones = (number : ℕ) (cone : Standing B) → slice_get cones number ≡ Some cone → IsNew files leaves faults s number cone

-- A cone of a number takes packets, of all weights, and stands for a list, over files that were sound for some as it was made
pub record IsHeld {B : Type 0} (files : B → Option Files) (leaves : B → Files → Type 0) (faults : B → ℕ) (s : Numbers) (number : ℕ) (before : List Packet) (cone : Standing B) : Type 0 where
  pub stands : StandsFor files leaves faults cone before
  pub sound : WasSound files cone
  pub settings_is : cone.listing.settings ≡ s
  pub number_is : cone.listing.cone ≡ number
  pub version_is : version_of cone ≡ most_version
  pub state_is : cone.state ≡ Running

-- each cone of a list, by its place
abbrev pub AreHeld : {B : Type 0} → (B → Option Files) → (B → Files → Type 0) → (B → ℕ) → Numbers → (ℕ → List Packet) → List (Standing B) → Type 0
AreHeld {B = B} files leaves faults s before cones = (number : ℕ) (cone : Standing B) → slice_get cones number ≡ Some cone → IsHeld files leaves faults s number (before number) cone

-- the bays with which cones were made
abbrev pub mades_of : {B : Type 0} → List (Standing B) → List B
mades_of cones = map (λ cone. cone.made) cones
