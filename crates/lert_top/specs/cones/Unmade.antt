-- Why no cones were made over the bays of a run.
use Rattle.std.specs.Prelude.{◌≡◌, ◌⊎◌, ℕ, List, Option, Some, slice_get}
use Rattle.lert_bay.specs.Files.{Files, Turns}
use Rattle.lert_cone.specs.Sound.{FramesStay}
use Rattle.lert_spec.specs.declared.numbers.Numbers.{Numbers}
use Rattle.lert_ingest.specs.{Bays.{AreFresh, AreFreshBelow, AreKept, AreUnused, AreUnusedBut, HasFailed, IfHeld, IsStale}, declared.status.Status.Status}
use Rattle.lert_ingest.specs.declared.status.Status.TheVariants.{NotFresh, BayFault, OutOfMemory}

-- how long a cone's files are wasn't answered: the files of those below it have no byte, and all files are as they were
pub record IsUnasked {B : Type 0} (files : B → Option Files) (bays later : List B) (cone : ℕ) : Type 0 where
  pub below : AreFreshBelow files bays cone
  pub kept : AreKept files bays later

-- A cone wasn't made over its bay, and no file had a byte. Any bytes may stand in its journal and its log, its frames are as they
-- were, and no other journal has a packet.
pub record IsUnheaded {B : Type 0} (files : B → Option Files) (settings : Numbers) (bays later : List B) (cone : ℕ) : Type 0 where
  pub fresh : AreFresh files bays
  pub frames : (before now : B) → slice_get bays cone ≡ Some before → slice_get later cone ≡ Some now → Turns FramesStay (files before) (files now)
  pub others : AreUnusedBut files settings (λ other. other ≡ cone) bays later

-- what a bay leaves that failed before the first byte of a trace was read
abbrev pub BrokeEarly : {B : Type 0} → (B → Option Files) → Numbers → List B → List B → ℕ → Type 0
BrokeEarly files settings bays later cone = IsUnasked files bays later cone ⊎ IsUnheaded files settings bays later cone

-- Why no cones were made over bays: a file of one isn't empty, a bay failed, or there is no memory. No journal has a packet
-- then, but for that of the bay that failed; and where the cone that isn't fresh tells its files, all files are as they were.
pub data IsUnmade {B : Type 0} (files : B → Option Files) (faults : B → ℕ) (settings : Numbers) (bays later : List B) : Status → Type 0 where
  unmade_stale : (cone : ℕ) → IsStale files bays cone → IfHeld files bays cone (λ _. AreKept files bays later) → AreUnused files settings bays later →
      IsUnmade files faults settings bays later (NotFresh cone)
  unmade_failed : (cone : ℕ) → HasFailed faults bays later cone → BrokeEarly files settings bays later cone → IsUnmade files faults settings bays later (BayFault cone)
  unmade_memory : AreUnused files settings bays later → IsUnmade files faults settings bays later OutOfMemory
