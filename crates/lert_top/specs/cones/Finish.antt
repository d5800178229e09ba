-- What the end of all cones of a run leaves, and what is printed of them.
use Rattle.std.specs.Prelude.{◌≡◌, ℕ, ◌+◌, ◌<◌, ◌≤◌, true, false, List, ◌++◌, length, Option, Some, None, slice_get}
use Rattle.lert_base.specs.{Packet.Packet, declared.cone_fault.ConeFault.ConeFault, declared.cone_fault.ConeFault.TheVariants.{BayFailed, Unsound}}
use Rattle.lert_bay.specs.Files.{Files}
use Rattle.lert_cone.specs.{Sound.{IsSound, IsSoundAs}, Stands.{IsSameCone, Standing, StandsFor, WasSound, is_refusal}, declared.state.ConeState.TheVariants.{Finished, Running}}
use Rattle.lert_io.specs.{Fault.HasRisen, Reading.IfTold}
use Rattle.lert_spec.specs.{declared.item.Item.Item, declared.numbers.Numbers.Numbers, Lines.{Printed, lines}}
use Rattle.lert_ingest.specs.{Bays.{AreWoven, HasFailed, HoldsAll, HoldsWeave, IfHeld, IsLater, IsUntold}, Status.cone_status, Stops.AreTaken, declared.status.Status.Status}
use Rattle.lert_ingest.specs.declared.status.Status.TheVariants.{Done, BayFault, Malformed, OutFault}
use Rattle.lert_top.specs.cones.Printed.{ArePrinted}
use Rattle.lert_text.specs.Page.{IsCut}

-- each cone may still take packets
abbrev pub AreRunning : {B : Type 0} → List (Standing B) → Type 0
AreRunning {B = B} cones = (number : ℕ) (cone : Standing B) → slice_get cones number ≡ Some cone → cone.state ≡ Running

module _ {B : Type 0} (files : B → Option Files) (leaves : B → Files → Type 0) (faults mark : B → ℕ) where
  -- a call leaves the same cone over the same bay, which stands for the same packets
  pub record IsEnded (old new : Standing B) : Type 0 where
    pub same : IsSameCone old new
    pub later : IsLater files faults mark old.bay new.bay
    pub stands : (history : List Packet) → StandsFor files leaves faults old history → StandsFor files leaves faults new history

  -- and it finished it
  pub record IsFinished (old new : Standing B) : Type 0 where
    pub ended : IsEnded old new
    pub listing_is : new.listing ≡ record old.listing { closed = true }
    pub state_is : new.state ≡ Finished

  -- or it broke off with this refusal
  pub record HasBroken (fault : ConeFault) (old new : Standing B) : Type 0 where
    pub ended : IsEnded old new
    pub broke : is_refusal fault ≡ false
    pub over_is : new.over ≡ old.over
    pub by_bay : fault ≡ BayFailed → HasRisen (faults old.bay) (faults new.bay)
    pub by_read : (file at : ℕ) → fault ≡ Unsound file at → (history : List Packet) → StandsFor files leaves faults old history → WasSound files old → files old.bay ≡ None

  -- the cones below a number were finished, and those from another number on are as they were
  pub record AreFinishedTo (number from : ℕ) (old new : List (Standing B)) : Type 0 where
    pub number_is : length new ≡ length old
    pub below : (cone : ℕ) (before now : Standing B) → cone < number → slice_get old cone ≡ Some before → slice_get new cone ≡ Some now → IsFinished before now
    pub above : (cone : ℕ) → from ≤ cone → slice_get new cone ≡ slice_get old cone

  -- all were finished
  abbrev pub AreFinished : List (Standing B) → List (Standing B) → Type 0
  AreFinished old new = AreFinishedTo (length old) (length old) old new

  -- the first that a call broke off at ended it, with this status
  pub record HasStopped (old new : List (Standing B)) (status : Status) : Type 0 where
    pub cone : ℕ
    pub fault : ConeFault
    pub before : Standing B
    pub now : Standing B
    pub was : slice_get old cone ≡ Some before
    pub is : slice_get new cone ≡ Some now
    pub broke : HasBroken fault before now
    pub others : AreFinishedTo cone (cone + 1) old new
    pub status_is : status ≡ cone_status cone fault

-- the items of traces are all in journals, which are closed, and this is so of what is printed of them
pub record AreClosed {B : Type 0} (files : B → Option Files) (s : Numbers) (workers : ℕ) (traces : List (List Item)) (later : List B) (P : List ℕ → Type 0) : Type 0 where
  pub fits : AreTaken files s traces later
  pub woven : AreWoven files s workers later traces
  pub cones : List Printed
  pub printed : ArePrinted files s workers later traces cones
  pub text : P (lines cones)

-- The end broke off at a cone. The items of traces are all in the journals. Those of the cones below it are closed, those of the
-- cones above it aren't, and its own may be.
pub record AreEndedTo {B : Type 0} (files : B → Option Files) (s : Numbers) (workers : ℕ) (traces : List (List Item)) (later : List B) (cone : ℕ) : Type 0 where
  pub below : (other : ℕ) → other < cone → IfHeld files later other (HoldsWeave s workers traces other)
  pub here : IfHeld files later cone (HoldsAll s workers traces cone (IsSound s cone))
  pub above : (other : ℕ) → cone < other → IfHeld files later other (HoldsAll s workers traces other (IsSoundAs s other false))

-- what the status says of cones that were to be finished and printed, by their bays as they were and as they are
module _ {K B : Type 0} (taken : K → Option (List ℕ)) (sink_faults : K → ℕ) (files : B → Option Files) (faults : B → ℕ) (s : Numbers) (workers : ℕ) (traces : List (List Item))
    (before after : K) (bays later : List B) where
  pub data EndShows : Status → Type 0 where
    end_done : AreClosed files s workers traces later (λ all. IfTold (taken before) (λ text. taken after ≡ Some (text ++ all))) → EndShows Done
    end_failed : (cone : ℕ) → HasFailed faults bays later cone → after ≡ before → AreEndedTo files s workers traces later cone → EndShows (BayFault cone)
    end_malformed : (cone file at : ℕ) → IsUntold files bays cone → after ≡ before → AreEndedTo files s workers traces later cone → EndShows (Malformed cone file at)
    end_cut : HasRisen (sink_faults before) (sink_faults after) → AreClosed files s workers traces later (IsCut (taken before) (taken after)) → EndShows OutFault
