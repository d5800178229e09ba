-- How a worker ends, and what that says of its readers.
use Rattle.std.specs.Prelude.{◌≡◌, ℕ, ◌+◌, ◌<◌, ◌≤◌, List, [], length, take, drop, Option, Some, None, slice_get}
use Rattle.lert_io.specs.Reading.{IfTold}
use Rattle.lert_spec.specs.declared.item.Item.{Item}
use Rattle.lert_trace.specs.{Trace.whole, Reader.{Reading, IsTraceOf, Means}, declared.fault.TraceFault.TraceFault}
use Rattle.lert_worker.specs.{declared.end.WorkerEnd.WorkerEnd, declared.end.WorkerEnd.TheVariants.{Ran, Trace, Cone}}

module _ {S : Type 0} (remaining : S → Option (List ℕ)) (faults mark : S → ℕ) where
  -- The same reader later, and the items that it gave since: what its trace had still to give begins with them. A fault says
  -- why it can't be read on, where it is none from before
  pub record WasRead (old new : Reading S) (items : List Item) : Type 0 where
    pub made_is : new.made ≡ old.made
    pub limit_is : new.limit ≡ old.limit
    pub given_is : new.given ≡ old.given + length items
    pub within : old.given ≤ old.limit → new.given ≤ new.limit
    pub told : IfTold (remaining old.made) (λ bytes. items ≡ take (length items) (drop old.given (whole bytes)))
    pub marked : mark new.source ≡ mark old.source
    pub never_falls : faults old.source ≤ faults new.source
    pub caused : old.fault ≡ None → (fault : TraceFault) → new.fault ≡ Some fault → Means remaining faults new.made new.source new.limit new.given fault

-- a reader stands at the end of its trace
pub record IsAtEnd {S : Type 0} (remaining : S → Option (List ℕ)) (reading : Reading S) : Type 0 where
  pub sound : reading.fault ≡ None
  pub told : IfTold (remaining reading.made) (λ bytes. IsTraceOf bytes reading.given)
  pub read : IfTold (remaining reading.made) (λ _. remaining reading.source ≡ Some [])

-- the readers below a place stand at their ends, and those above it were not asked
pub record StoppedAt {S : Type 0} (remaining : S → Option (List ℕ)) (place : ℕ) (old new : List (Reading S)) : Type 0 where
  pub below : (other : ℕ) (now : Reading S) → other < place → slice_get new other ≡ Some now → IsAtEnd remaining now
  pub above : (other : ℕ) → place < other → slice_get new other ≡ slice_get old other

-- The trace at which a worker stopped, where it did, and the place of its reader: at the end `Trace` this answers that fault
-- from now on, at the end `Cone` it has none
abbrev pub Stopped : {S : Type 0} → (S → Option (List ℕ)) → List ℕ → List (Reading S) → List (Reading S) → ℕ → ℕ → WorkerEnd → Type 0
Stopped remaining traces old new place trace Ran = (other : ℕ) (now : Reading _) → slice_get new other ≡ Some now → IsAtEnd remaining now
Stopped remaining traces old new place trace (Trace t fault) = (t ≡ trace) × (slice_get traces place ≡ Some trace)
    × StoppedAt remaining place old new × ((now : Reading _) → slice_get new place ≡ Some now → now.fault ≡ Some fault)
Stopped remaining traces old new place trace (Cone cone fault) = (slice_get traces place ≡ Some trace)
    × StoppedAt remaining place old new × ((now : Reading _) → slice_get new place ≡ Some now → now.fault ≡ None)
