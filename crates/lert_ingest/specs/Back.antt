-- What is known of a cone that came back from its lock.
use Rattle.std.specs.Prelude.{◌≡◌, ◌≢◌, ◌⊎◌, ℕ, ◌<◌, ◌≤◌, ◌++◌, false, All, Contains, List, length, Option, Some, slice_get}
use Rattle.lert_base.specs.{Packet.{Packet, events_of, own}, declared.cone_fault.ConeFault.ConeFault}
use Rattle.lert_bay.specs.Files.{Files, Turns}
use Rattle.lert_cone.specs.{History.most_version, Refuses.IsRefused, Stands.{Standing, StandsFor, WasSound, is_broken, is_finished}, declared.state.ConeState.TheVariants.Running, Wrote.Anything}
use Rattle.lert_conelock.specs.Prefix.{IsPrefix}
use Rattle.lert_spec.specs.{declared.numbers.Numbers.Numbers, Counts.{weighed, weight_of}}
use Rattle.lert_ingest.specs.Bays.{IsLater}

-- a packet was refused by its cone's rule, as the cone had the items of some packets and behind them of the first of a history
pub record IsFullAt (s : Numbers) (before history : List Packet) (packet : Packet) (fault : ConeFault) : Type 0 where
  pub past : List Packet
  pub begins : IsPrefix past history
  pub refused : IsRefused s most_version (length (events_of (before ++ past))) (weight_of weighed (events_of (before ++ past))) packet.items fault

-- what a look at a cone says of its bay since the cone was made, and of its closing record
pub record IsSeen {B : Type 0} (files : B → Option Files) (faults mark : B → ℕ) (cone : Standing B) : Type 0 where
  pub later : (faults cone.made ≤ faults cone.bay) × (mark cone.bay ≡ mark cone.made) × Turns Anything (files cone.made) (files cone.bay)
  pub closed : is_broken cone.state ≡ false → cone.listing.closed ≡ is_finished cone.state

abbrev pub AreSeen : {B : Type 0} → (B → Option Files) → (B → ℕ) → (B → ℕ) → List (Standing B) → Type 0
AreSeen {B = B} files faults mark cones = (place : ℕ) (cone : Standing B) → slice_get cones place ≡ Some cone → IsSeen files faults mark cone

-- A cone of a number came back from its lock: it stands for what there was before and behind it for what its numbers' calls brought, in
-- some order, and it isn't finished. Its bay is later than the one with which it was made.
-- What it left over was refused, and each refusal is one by its rule, or the cone takes no more
pub record IsBack {B : Type 0} (files : B → Option Files) (leaves : B → Files → Type 0) (faults mark : B → ℕ) (s : Numbers) (workers number : ℕ)
    (before : List Packet) (added : ℕ → List Packet) (turned : ℕ → List (Packet × ConeFault)) (first closed : Standing B) : Type 0 where
  pub history : List Packet
  pub own_are : (by : ℕ) → by < workers → own history by ≡ added by
  pub numbered : All (λ packet. packet.by < workers) history
  pub stands : StandsFor files leaves faults closed (before ++ history)
  pub sound : WasSound files closed
  pub settings_is : closed.listing.settings ≡ s
  pub number_is : closed.listing.cone ≡ number
  pub unfinished : is_finished closed.state ≡ false
  pub made_is : closed.made ≡ first.made
  pub over_is : (over : Packet) → closed.over ≡ Some over → (fault : ConeFault) × (over.by < workers) × Contains (turned over.by) (over, fault)
  pub refusals : (by : ℕ) → by < workers → (packet : Packet) (fault : ConeFault) → Contains (turned by) (packet, fault)
      → (closed.state ≢ Running) ⊎ IsFullAt s before history packet fault
  pub later : IsLater files faults mark first.made closed.bay
  pub closed_is : is_broken closed.state ≡ false → closed.listing.closed ≡ is_finished closed.state
