-- What is known of the bays of a run: those that were opened, and the same ones later, both in ascending cones.
use Rattle.std.specs.Prelude.{◌≡◌, ◌⊎◌, ℕ, ◌<◌, ◌≤◌, ◌++◌, false, All, List, [], length, map, Option, Some, slice_get, ⊤}
use Rattle.lert_base.specs.{Packet.{Packet, events_of, of_trace}, Weave.{IsWhole, IsWoven, IsPartWoven}}
use Rattle.lert_bay.specs.Files.{Files, IfTold, Turns}
use Rattle.lert_cone.specs.{Sound.{AreEmpty, IsSound, IsSoundAs, IsSoundClosed}, Stands.Standing}
use Rattle.lert_io.specs.Fault.{HasRisen, IsFaultless}
use Rattle.lert_spec.specs.{declared.item.Item.Item, declared.numbers.Numbers.Numbers, Counts.{weighed, weight_of}}

-- the bays of cones
abbrev pub bays_of : {B : Type 0} → List (Standing B) → List B
bays_of cones = map (λ cone. cone.bay) cones

-- the same bay later: its mark is the same, its count of faults never falls, and it tells its files where it did before
pub record IsLater {B : Type 0} (files : B → Option Files) (faults mark : B → ℕ) (before now : B) : Type 0 where
  pub marked : mark now ≡ mark before
  pub never_falls : faults before ≤ faults now
  pub tells : Turns (λ old new. ⊤) (files before) (files now)

-- the same bays later
pub record AreLater {B : Type 0} (files : B → Option Files) (faults mark : B → ℕ) (bays later : List B) : Type 0 where
  pub number : length later ≡ length bays
  pub each : (cone : ℕ) (before now : B) → slice_get bays cone ≡ Some before → slice_get later cone ≡ Some now → IsLater files faults mark before now

-- what is so of each bay, as it was and as it is
abbrev pub EachBay : {B : Type 0} → (ℕ → B → B → Type 0) → List B → List B → Type 0
EachBay {B = B} R bays later = (cone : ℕ) (before now : B) → slice_get bays cone ≡ Some before → slice_get later cone ≡ Some now → R cone before now

-- the files of each bay are as they were
abbrev pub AreKept : {B : Type 0} → (B → Option Files) → List B → List B → Type 0
AreKept files bays later = EachBay (λ _ before now. files now ≡ files before) bays later

-- the bays behind that of a cone are as they were handed out
abbrev pub AreUntouched : {B : Type 0} → ℕ → List B → List B → Type 0
AreUntouched cone bays later = (other : ℕ) → cone < other → slice_get later other ≡ slice_get bays other

-- each bay has its place as its mark
abbrev pub AreMarked : {B : Type 0} → (B → ℕ) → List B → Type 0
AreMarked {B = B} mark bays = (cone : ℕ) (bay : B) → slice_get bays cone ≡ Some bay → mark bay ≡ cone

-- what is so of the bay of a cone, where it is there and tells its files
abbrev pub IfHeld : {B : Type 0} → (B → Option Files) → List B → ℕ → (Files → Type 0) → Type 0
IfHeld {B = B} files bays cone P = (bay : B) → slice_get bays cone ≡ Some bay → IfTold (files bay) P

-- each bay tells its files
abbrev pub AreTold : {B : Type 0} → (B → Option Files) → List B → Type 0
AreTold {B = B} files bays = (cone : ℕ) (bay : B) → slice_get bays cone ≡ Some bay → (seen : Files) × (files bay ≡ Some seen)

-- the bay of a cone doesn't tell its files
pub record IsUntold {B : Type 0} (files : B → Option Files) (bays : List B) (cone : ℕ) : Type 0 where
  pub named : cone < length bays
  pub untold : IfHeld files bays cone (λ _. ⊥)

-- no bay that tells its files has a byte in them
abbrev pub AreFresh : {B : Type 0} → (B → Option Files) → List B → Type 0
AreFresh {B = B} files bays = (cone : ℕ) → IfHeld files bays cone AreEmpty

-- no bay below a number that tells its files has a byte in them
abbrev pub AreFreshBelow : {B : Type 0} → (B → Option Files) → List B → ℕ → Type 0
AreFreshBelow files bays number = (cone : ℕ) → cone < number → IfHeld files bays cone AreEmpty

-- a cone is the first of which a file has a byte, as far as the bays tell
pub record IsStale {B : Type 0} (files : B → Option Files) (bays : List B) (cone : ℕ) : Type 0 where
  pub named : cone < length bays
  pub not_empty : IfHeld files bays cone (λ seen. AreEmpty seen → ⊥)
  pub lower : AreFreshBelow files bays cone

-- the count of faults of a cone's bay rose
pub record HasFailed {B : Type 0} (faults : B → ℕ) (bays later : List B) (cone : ℕ) : Type 0 where
  pub before : B
  pub now : B
  pub was : slice_get bays cone ≡ Some before
  pub is : slice_get later cone ≡ Some now
  pub rose : HasRisen (faults before) (faults now)

-- no fault of a bay was counted
abbrev pub AreFaultless : {B : Type 0} → (B → ℕ) → List B → List B → Type 0
AreFaultless {B = B} faults bays later = (cone : ℕ) (before now : B) → slice_get bays cone ≡ Some before → slice_get later cone ≡ Some now → IsFaultless (faults before)
    (faults now)

-- none of the bays up to and with that of a cone
abbrev pub AreFaultlessTo : {B : Type 0} → (B → ℕ) → ℕ → List B → List B → Type 0
AreFaultlessTo faults last bays later = EachBay (λ cone before now. cone ≤ last → IsFaultless (faults before) (faults now)) bays later

-- all bays tell their files, which are empty
abbrev pub AreToldFresh : {B : Type 0} → (B → Option Files) → List B → Type 0
AreToldFresh {B = B} files bays = (cone : ℕ) (bay : B) → slice_get bays cone ≡ Some bay → (seen : Files) × (files bay ≡ Some seen) × AreEmpty seen

-- the files of a cone are so for a weave of its part of the items of all traces
pub record HoldsAll (s : Numbers) (workers : ℕ) (traces : List (List Item)) (cone : ℕ) (are_so : List Packet → Files → Type 0) (seen : Files) : Type 0 where
  pub history : List Packet
  pub woven : IsWoven s cone workers traces history
  pub sound : are_so history seen

-- they are sound for one, and closed
abbrev pub HoldsWeave : Numbers → ℕ → List (List Item) → ℕ → Files → Type 0
HoldsWeave s workers traces cone = HoldsAll s workers traces cone (IsSoundClosed s cone)

-- the files of a cone are sound for a weave of beginnings of its part of the items of all traces, behind what there was before
pub record HoldsPartBehind (before : ℕ → List Packet) (s : Numbers) (workers : ℕ) (traces : List (List Item)) (cone : ℕ) (seen : Files) : Type 0 where
  pub history : List Packet
  pub woven : IsPartWoven s cone workers traces history
  pub sound : IsSound s cone (before cone ++ history) seen

abbrev pub HoldsPart : Numbers → ℕ → List (List Item) → ℕ → Files → Type 0
HoldsPart = HoldsPartBehind (λ _. [])

-- the files of a cone are sound for packets of which this is so of the items of the first so many
pub record HoldsFirst (s : Numbers) (are_so : List Item → Type 0) (cone : ℕ) (seen : Files) : Type 0 where
  pub history : List Packet
  pub before : List Packet
  pub behind : List Packet
  pub history_is : history ≡ before ++ behind
  pub first : are_so (events_of before)
  pub sound : IsSound s cone history seen

-- they have a number of items together
abbrev pub HoldsItems : Numbers → ℕ → ℕ → Files → Type 0
HoldsItems s number cone = HoldsFirst s (λ items. length items ≡ number) cone

-- they weigh so much together
abbrev pub HoldsWeight : Numbers → ℕ → ℕ → Files → Type 0
HoldsWeight s weight cone = HoldsFirst s (λ items. weight_of weighed items ≡ weight) cone

-- The files of a cone are sound for a weave of beginnings of its part of the items of all traces, and not closed. Of a trace that
-- was still open there each packet is whole, so that nothing of what waits for a whole packet was handed out.
pub record HoldsOpenBehind (before : ℕ → List Packet) (s : Numbers) (workers : ℕ) (traces : List (List Item)) (open_trace : ℕ → ℕ → Type 0) (cone : ℕ) (seen : Files) : Type 0 where
  pub history : List Packet
  pub woven : IsPartWoven s cone workers traces history
  pub sound : IsSoundAs s cone false (before cone ++ history) seen
  pub no_rest : (trace : ℕ) → open_trace cone trace → All (IsWhole s.packet) (of_trace history trace)

abbrev pub HoldsOpen : Numbers → ℕ → List (List Item) → (ℕ → ℕ → Type 0) → ℕ → Files → Type 0
HoldsOpen = HoldsOpenBehind (λ _. [])

-- A run left the files of a cone without a packet: as they were, or, where they had no byte, sound for no packet, and not
-- closed. A journal with a packet of the run is neither.
abbrev pub IsUnused : {B : Type 0} → (B → Option Files) → Numbers → ℕ → B → B → Type 0
IsUnused files s cone before now =
    (files now ≡ files before) ⊎ (IfTold (files before) AreEmpty × IfTold (files now) (IsSoundAs s cone false []))

-- so it left all of them, but for the cone at which it broke off
abbrev pub AreUnusedBut : {B : Type 0} → (B → Option Files) → Numbers → (ℕ → Type 0) → List B → List B → Type 0
AreUnusedBut files s broke bays later = EachBay (λ cone before now. (broke cone → ⊥) → IsUnused files s cone before now) bays later

abbrev pub AreUnused : {B : Type 0} → (B → Option Files) → Numbers → List B → List B → Type 0
AreUnused files s bays later = EachBay (IsUnused files s) bays later

-- each bay that tells its files holds a weave
abbrev pub AreWoven : {B : Type 0} → (B → Option Files) → Numbers → ℕ → List B → List (List Item) → Type 0
AreWoven {B = B} files s workers bays traces = (cone : ℕ) → IfHeld files bays cone (HoldsWeave s workers traces cone)

-- each bay that tells its files holds a weave of beginnings
abbrev pub ArePartWovenBehind : {B : Type 0} → (ℕ → List Packet) → (B → Option Files) → Numbers → ℕ → List B → List (List Item) → Type 0
ArePartWovenBehind {B = B} before files s workers bays traces = (cone : ℕ) → IfHeld files bays cone (HoldsPartBehind before s workers traces cone)

abbrev pub ArePartWoven : {B : Type 0} → (B → Option Files) → Numbers → ℕ → List B → List (List Item) → Type 0
ArePartWoven files s workers bays traces = ArePartWovenBehind (λ _. []) files s workers bays traces

-- and each of which no fault was counted holds one that isn't closed
abbrev pub AreOpenWovenBehind : {B : Type 0} → (ℕ → List Packet) → (B → Option Files) → (B → ℕ) → Numbers → ℕ → (ℕ → ℕ → Type 0) → List B → List B → List (List Item) → Type 0
AreOpenWovenBehind past files faults s workers open_trace bays later traces = EachBay (λ cone before now. IsFaultless (faults before) (faults now)
    → IfTold (files now) (HoldsOpenBehind past s workers traces open_trace cone)) bays later

abbrev pub AreOpenWoven : {B : Type 0} → (B → Option Files) → (B → ℕ) → Numbers → ℕ → (ℕ → ℕ → Type 0) → List B → List B → List (List Item) → Type 0
AreOpenWoven files faults s workers open_trace bays later traces = AreOpenWovenBehind (λ _. []) files faults s workers open_trace bays later traces
