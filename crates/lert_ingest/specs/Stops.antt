-- What workers leave that read traces into cones: all of them, or why not.
use Rattle.std.specs.Prelude.{◌≡◌, ◌⊎◌, ℕ, ◌+◌, ◌*◌, ◌^◌, ◌<◌, ◌≤◌, ◌++◌, false, All, List, [], length, Option, Some, None, slice_get}
use Rattle.lert_base.specs.{Packet.Packet, Weave.IsWoven}
use Rattle.lert_bay.specs.Files.{Files, IfTold}
use Rattle.lert_cone.specs.{Stands.{Standing, StandsFor, WasSound}, declared.state.ConeState.TheVariants.Running}
use Rattle.lert_spec.specs.{declared.item.Item.Item, declared.numbers.Numbers.Numbers, Edges.{capacity, weight_room}}
use Rattle.lert_trace.specs.Trace.{left, whole}
use Rattle.lert_ingest.specs.Past.{AllFitBehind, IsOverBehind, Past, no_past}
use Rattle.lert_ingest.specs.Bays.{AreFaultless, AreOpenWovenBehind, ArePartWovenBehind, AreTold, HasFailed, HoldsItems, HoldsWeight, IfHeld, IsUntold, bays_of}
use Rattle.lert_ingest.specs.{Traces.{AreBytesOf, AreReadToEnd, AreRestsOf, AreTracesFaultless, HasTraceFailed, IsOpened, most_items}, declared.status.Status.Status}
use Rattle.lert_ingest.specs.declared.status.Status.TheVariants.{TraceFault, BadTrace, TooLong, BayFault, CapacityFull, Malformed, OutOfMemory, WeightFull}

-- a cone of a number may still take packets, and stands for a weave of its part of the items of all traces, behind what there was
-- before, over files that were sound as it was made
pub record IsWeavingBehind {B : Type 0} (before : ℕ → List Packet) (files : B → Option Files) (leaves : B → Files → Type 0) (faults : B → ℕ) (s : Numbers) (workers : ℕ)
    (traces : List (List Item)) (number : ℕ) (cone : Standing B) : Type 0 where
  pub history : List Packet
  pub woven : IsWoven s number workers traces history
  pub stands : StandsFor files leaves faults cone (before number ++ history)
  pub sound : WasSound files cone
  pub settings_are : cone.listing.settings ≡ s
  pub number_is : cone.listing.cone ≡ number
  pub state_is : cone.state ≡ Running
  pub closed_is : cone.listing.closed ≡ false

abbrev pub IsWeaving : {B : Type 0} → (B → Option Files) → (B → Files → Type 0) → (B → ℕ) → Numbers → ℕ → List (List Item) → ℕ → Standing B → Type 0
IsWeaving files leaves faults s workers traces number cone = IsWeavingBehind (λ _. []) files leaves faults s workers traces number cone

-- each cone of a list, by its place
abbrev pub AreWeavingBehind : {B : Type 0} → (ℕ → List Packet) → (B → Option Files) → (B → Files → Type 0) → (B → ℕ) → Numbers → ℕ → List (List Item) → List (Standing B) → Type 0
AreWeavingBehind {B = B} before files leaves faults s workers traces cones = (number : ℕ) (cone : Standing B) → slice_get cones number ≡ Some cone
    → IsWeavingBehind before files leaves faults s workers traces number cone

abbrev pub AreWeaving : {B : Type 0} → (B → Option Files) → (B → Files → Type 0) → (B → ℕ) → Numbers → ℕ → List (List Item) → List (Standing B) → Type 0
AreWeaving files leaves faults s workers traces cones = AreWeavingBehind (λ _. []) files leaves faults s workers traces cones

-- each cone takes its part of the items of all traces by their number, and by their weight where its bay tells its files: of another
-- one a cone's contract doesn't say that it weighs no more than it takes
abbrev pub AreTakenBehind : {B : Type 0} → Past → (B → Option Files) → Numbers → List (List Item) → List B → Type 0
AreTakenBehind {B = B} past files s traces bays = (number : ℕ) (bay : B) → slice_get bays number ≡ Some bay
    → (past.many number traces ≤ capacity s) × IfTold (files bay) (λ _. past.heavy number traces ≤ weight_room s)

abbrev pub AreTaken : {B : Type 0} → (B → Option Files) → Numbers → List (List Item) → List B → Type 0
AreTaken files s traces bays = AreTakenBehind (no_past s) files s traces bays

-- All traces were read into cones: each that tells its bytes is well formed, within the limit and read to its end, and each cone may
-- still take packets and stands for a weave of its part of their items, which it takes all
pub record AreIngestedBehind {S B : Type 0} (past : Past) (remaining : S → Option (List ℕ)) (files : B → Option Files) (leaves : B → Files → Type 0) (faults : B → ℕ)
    (s : Numbers) (workers : ℕ) (opened now : List S) (cones : List (Standing B)) : Type 0 where
  pub traces : List (List Item)
  pub items : AreRestsOf remaining past.given opened traces
  pub read : AreReadToEnd remaining opened now
  pub weaving : AreWeavingBehind past.before files leaves faults s workers traces cones
  pub fits : AreTakenBehind past files s traces (bays_of cones)

abbrev pub AreIngested : {S B : Type 0} → (S → Option (List ℕ)) → (B → Option Files) → (B → Files → Type 0) → (B → ℕ) → Numbers → ℕ → List S → List S → List (Standing B) → Type 0
AreIngested remaining files leaves faults s workers opened now cones = AreIngestedBehind (no_past s) remaining files leaves faults s workers opened now cones

-- the first packets of a cone's journal have n items, and the `len` of another packet are more than it takes besides
pub record IsFull {B : Type 0} (files : B → Option Files) (s : Numbers) (bays : List B) (cone n len : ℕ) : Type 0 where
  pub named : cone < 2 ^ s.cone_bits
  pub some : 1 ≤ len
  pub few : len ≤ 4 * s.packet
  pub over : capacity s < n + len
  pub journal : IfHeld files bays cone (HoldsItems s n cone)

-- they weigh so much, and what another packet weighs is more than it takes besides: a packet has at most four times as many items
-- as the settings name, of at most 255 each
pub record IsHeavy {B : Type 0} (files : B → Option Files) (s : Numbers) (bays : List B) (cone weight more : ℕ) : Type 0 where
  pub named : cone < 2 ^ s.cone_bits
  pub some : 1 ≤ more
  pub few : more ≤ 1020 * s.packet
  pub over : weight_room s < weight + more
  pub journal : IfHeld files bays cone (HoldsWeight s weight cone)

module _ {S B : Type 0} (remaining : S → Option (List ℕ)) (faults : S → ℕ) (files : B → Option Files) (bay_faults : B → ℕ)
    (s : Numbers) (workers : ℕ) (opened now : List S) (bays later : List B) where
  -- all traces and bays tell, these are the bytes of the traces, none has more items than are read, and no fault was counted
  pub record AreTelling (texts : List (List ℕ)) : Type 0 where
    pub told : AreTold files bays
    pub faultless : AreFaultless bay_faults bays later
    pub traces_faultless : AreTracesFaultless faults opened now
    pub bytes_are : AreBytesOf remaining opened texts
    pub few : All (λ bytes. length (whole bytes) ≤ most_items) texts

-- the traces and the bays are given as they were opened, as they were when the run began, and as they are
module _ {S B : Type 0} (past : Past) (remaining : S → Option (List ℕ)) (faults : S → ℕ) (files : B → Option Files) (bay_faults : B → ℕ)
    (s : Numbers) (workers : ℕ) (opened were now : List S) (bays held later : List B) where
  -- each journal is a weave of beginnings of the cone's items of all traces, none is closed of which no fault was counted, and of a
  -- trace that was still open each packet is whole there
  pub record AreOpenPartlyBehind (open_trace : ℕ → ℕ → Type 0) : Type 0 where
    pub traces : List (List Item)
    pub items : AreRestsOf remaining past.given opened traces
    pub woven : ArePartWovenBehind past.before files s workers later traces
    pub still : AreOpenWovenBehind past.before files bay_faults s workers open_trace bays later traces

  -- the items of all traces are enough for a full cone
  pub record AreEnoughBehind (cone n len : ℕ) : Type 0 where
    pub traces : List (List Item)
    pub items : AreRestsOf remaining past.given opened traces
    pub enough : n + len ≤ past.many cone traces

  -- they weigh enough for one that takes no more weight
  pub record AreHeavyEnoughBehind (cone weight more : ℕ) : Type 0 where
    pub traces : List (List Item)
    pub items : AreRestsOf remaining past.given opened traces
    pub enough : weight + more ≤ past.heavy cone traces

  -- why traces weren't all read into cones, by the traces and the bays as they were and as they are: a row for each status that can
  -- come
  pub data StopShowsBehind : Status → Type 0 where
    trace_fault : (trace : ℕ) → HasTraceFailed faults opened now trace → AreOpenPartlyBehind (λ _ other. other ≡ trace) → StopShowsBehind (TraceFault trace)
    bad_trace : (trace at : ℕ) → IsOpened remaining opened trace (λ bytes. left bytes ≡ Some at) → AreOpenPartlyBehind (λ _ other. other ≡ trace) → StopShowsBehind (BadTrace trace at)
    too_long : (trace : ℕ) → IsOpened remaining opened trace (λ bytes. most_items < length (whole bytes)) → AreOpenPartlyBehind (λ _ other. other ≡ trace) → StopShowsBehind (TooLong trace)
    -- where a cone broke it isn't said which traces were still open
    bay_fault : (cone : ℕ) → HasFailed bay_faults bays later cone → AreOpenPartlyBehind (λ _ _. ⊥) → StopShowsBehind (BayFault cone)
    malformed : (cone file at : ℕ) → IsUntold files bays cone → AreOpenPartlyBehind (λ _ _. ⊥) → StopShowsBehind (Malformed cone file at)
    -- the trace whose packet was refused has no rest in the cone, nor in those above it
    capacity_full : (cone n len : ℕ) → IsFull files s later cone n len → AreEnoughBehind cone n len →
        (trace : ℕ) → AreOpenPartlyBehind (λ other t. (cone ≤ other) × (t ≡ trace)) → StopShowsBehind (CapacityFull cone n len)
    weight_full : (cone weight more : ℕ) → IsHeavy files s later cone weight more → AreHeavyEnoughBehind cone weight more →
        (trace : ℕ) → AreOpenPartlyBehind (λ other t. (cone ≤ other) × (t ≡ trace)) → StopShowsBehind (WeightFull cone weight more)
    -- memory is wanted before the first item is read alone: nothing was read, and no file was changed
    out_of_memory : now ≡ were → later ≡ held → StopShowsBehind OutOfMemory

  -- Which outcome comes then: where the cones take all whole items, the first trace that leaves the format stops the workers, with
  -- the place at which it does, and else all is read; and over well-formed traces of which some cone has more items than it takes, or
  -- more weight, a cone that takes no more items or no more weight does. Want of memory may come in the place of each
  pub record IsExactBehind (ok : Type 0) (fails : Status → Type 0) : Type 0 where
    pub bad : (texts : List (List ℕ)) → AreTelling remaining faults files bay_faults s workers opened now bays later texts → AllFitBehind past s (past.rests texts) →
        (trace at : ℕ) (bytes : List ℕ) → slice_get texts trace ≡ Some bytes → left bytes ≡ Some at →
        ((other : ℕ) (lower : List ℕ) → other < trace → slice_get texts other ≡ Some lower → left lower ≡ None) →
        fails (BadTrace trace at) ⊎ fails OutOfMemory
    pub full : (texts : List (List ℕ)) → AreTelling remaining faults files bay_faults s workers opened now bays later texts → All (λ bytes. left bytes ≡ None) texts →
        (over : ℕ) → over < 2 ^ s.cone_bits → IsOverBehind past s (past.rests texts) over →
        ((cone n len : ℕ) × fails (CapacityFull cone n len)) ⊎ (((cone weight more : ℕ) × fails (WeightFull cone weight more)) ⊎ fails OutOfMemory)
    pub complete : (texts : List (List ℕ)) → AreTelling remaining faults files bay_faults s workers opened now bays later texts → All (λ bytes. left bytes ≡ None) texts →
        AllFitBehind past s (past.rests texts) → ok ⊎ fails OutOfMemory

-- where there was nothing before
module _ {S B : Type 0} (remaining : S → Option (List ℕ)) (faults : S → ℕ) (files : B → Option Files) (bay_faults : B → ℕ)
    (s : Numbers) (workers : ℕ) (opened now : List S) (bays later : List B) where
  abbrev pub AreOpenPartly : (ℕ → ℕ → Type 0) → Type 0
  AreOpenPartly = AreOpenPartlyBehind (no_past s) remaining faults files bay_faults s workers opened opened now bays bays later

  abbrev pub StopShows : Status → Type 0
  StopShows = StopShowsBehind (no_past s) remaining faults files bay_faults s workers opened opened now bays bays later

  abbrev pub IsExact : Type 0 → (Status → Type 0) → Type 0
  IsExact = IsExactBehind (no_past s) remaining faults files bay_faults s workers opened opened now bays bays later
