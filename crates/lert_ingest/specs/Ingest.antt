-- What reading traces into cones by workers leaves.
use Rattle.std.specs.Prelude.{◌≡◌, ℕ, List, length, Option, Some, None, Result, Ok, Err, OnOk, IfErr}
use Rattle.lert_bay.specs.Files.{Files}
use Rattle.lert_cone.specs.Stands.{Standing}
use Rattle.lert_spec.specs.declared.numbers.Numbers.{Numbers}
use Rattle.lert_worker.specs.{crew.Crewed.end_at, declared.end.WorkerEnd.WorkerEnd}
use Rattle.lert_ingest.specs.{Bays.{AreLater, bays_of}, Faults.{earlier, earliest, end_fault, fault_at}, Past.{Past, no_past}}
use Rattle.lert_ingest.specs.{Stops.{AreIngestedBehind, IsExactBehind, StopShowsBehind}, Traces.AreTracesLater, declared.status.Status.Status}

-- the fault that is answered, by how all workers ended and by the cones that came back
abbrev pub first_of_all : {B : Type 0} → List WorkerEnd → List (Standing B) → Option Status
first_of_all ends cones = earlier (earliest (λ by. end_fault (end_at ends by)) (length ends)) (earliest (fault_at cones) (length cones))

-- the answer, by the first fault
abbrev pub answer_of : Option Status → Result (Unit {0}) Status
answer_of None = Ok tt
answer_of (Some status) = Err status

-- What traces and cones are behind, and what the answer says of them. The traces and the
-- bays are those that were opened, and these as they were when the run began
pub record HasIngestedBehind {S B : Type 0} (past : Past) (remaining : S → Option (List ℕ)) (faults mark : S → ℕ) (files : B → Option Files) (leaves : B → Files → Type 0)
    (bay_faults bay_mark : B → ℕ) (s : Numbers) (workers : ℕ) (opened were now : List S) (bays : List B) (firsts backs : List (Standing B)) (result : Result (Unit {0}) Status) : Type 0 where
  pub later : AreLater files bay_faults bay_mark bays (bays_of backs)
  pub traces_later : AreTracesLater faults mark were now
  pub read : OnOk result (AreIngestedBehind past remaining files leaves bay_faults s workers opened now backs)
  pub stopped : IfErr result (StopShowsBehind past remaining faults files bay_faults s workers opened were now bays (bays_of firsts) (bays_of backs))
  pub exact : IsExactBehind past remaining faults files bay_faults s workers opened were now bays (bays_of firsts) (bays_of backs) (result ≡ Ok tt) (λ status. result ≡ Err status)

abbrev pub HasIngested : {S B : Type 0} → (S → Option (List ℕ)) → (S → ℕ) → (S → ℕ) → (B → Option Files) → (B → Files → Type 0) → (B → ℕ) → (B → ℕ) → Numbers → ℕ → List S → List S →
    List (Standing B) → List (Standing B) → Result (Unit {0}) Status → Type 0
HasIngested remaining faults mark files leaves bay_faults bay_mark s workers opened now firsts backs result =
    HasIngestedBehind (no_past s) remaining faults mark files leaves bay_faults bay_mark s workers opened opened now (bays_of firsts) firsts backs result
