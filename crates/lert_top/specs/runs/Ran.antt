-- What a run leaves of the traces and bays that it opened.
use Rattle.std.specs.Prelude.{◌≡◌, ◌⊎◌, ℕ, ◌<◌, List, length, Option, slice_get}
use Rattle.lert_bay.specs.Files.{Files}
use Rattle.lert_io.specs.Fault.{IsFaultless}
use Rattle.lert_ingest.specs.{Bays.AreLater, Traces.AreTracesLater, declared.status.Status.Status, declared.status.Status.TheVariants.{Done, OutOfMemory}}

-- with a content output the text comes, or want of memory
abbrev pub IsDone : {K : Type 0} → (K → ℕ) → K → K → Status → Type 0
IsDone faults before after status = IsFaultless (faults before) (faults after) → (status ≡ Done) ⊎ (status ≡ OutOfMemory)

-- the traces and the bays that were handed out were put back under their numbers, as the same ones later
pub record HasPutBack {S B : Type 0} (faults mark : S → ℕ) (files : B → Option Files) (bay_faults bay_mark : B → ℕ)
    (opened backs : List S) (returned : ℕ → Option S) (bays later : List B) (returned_bay : ℕ → Option B) : Type 0 where
  pub traces_later : AreTracesLater faults mark opened backs
  pub traces_back : (trace : ℕ) → trace < length backs → returned trace ≡ slice_get backs trace
  pub bays_later : AreLater files bay_faults bay_mark bays later
  pub bays_back : (cone : ℕ) → cone < length later → returned_bay cone ≡ slice_get later cone
