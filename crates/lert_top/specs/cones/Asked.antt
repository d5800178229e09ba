-- What a place was asked for by a run.
use Rattle.std.specs.Prelude.{◌≡◌, ◌≢◌, ◌⊎◌, ℕ, ◌<◌, ◌≤◌, true, false, List, [], ◌∷◌, ◌++◌, map, take, Some, slice_get}
use Rattle.lert_place.specs.{Openings.{bay_refused, bays_opened, trace_asked}, declared.opening.Opening.Opening}
use Rattle.lert_ingest.specs.{declared.status.Status.Status, declared.status.Status.TheVariants.{Done, OutOfMemory, PlaceFault}}

-- behind what was asked before, a place was asked for the bays of the first cones, and the next one's opening failed
pub record IsBayRefused (dir : List ℕ) (cones : ℕ) (before asked : List Opening) (status : Status) : Type 0 where
  pub number : ℕ
  pub named : number < cones
  pub asked_is : asked ≡ before ++ (bays_opened dir number ++ bay_refused dir number ∷ [])
  pub status_is : status ≡ PlaceFault

-- behind what was asked before, a place was asked for the bays of the first cones, of all where the run is done
pub record AreOpened (dir : List ℕ) (cones : ℕ) (before asked : List Opening) (status : Status) : Type 0 where
  pub number : ℕ
  pub within : number ≤ cones
  pub asked_is : asked ≡ before ++ bays_opened dir number
  pub no_fault : status ≢ PlaceFault
  pub all : status ≡ Done → number ≡ cones

-- behind what was asked before, a place was asked for the bays of cones in a directory, in ascending order, each of them
-- only after the one before it was opened
abbrev pub IsAskedForBays : List ℕ → ℕ → List Opening → List Opening → Status → Type 0
IsAskedForBays dir cones before asked status = IsBayRefused dir cones before asked status ⊎ AreOpened dir cones before asked status

-- the openings of traces, all answered Ok
abbrev pub traces_opened : List (List ℕ) → List Opening
traces_opened names = map (λ name. trace_asked name true) names

-- behind what was asked before, a place was asked for the first traces, and the next one's opening failed
pub record IsNameRefused (names : List (List ℕ)) (before asked : List Opening) : Type 0 where
  pub number : ℕ
  pub name : List ℕ
  pub named : slice_get names number ≡ Some name
  pub asked_is : asked ≡ before ++ (traces_opened (take number names) ++ trace_asked name false ∷ [])

-- a place was asked for nothing, since there was no memory; or for the traces of these names, in their order, each of them only
-- after the one before it was opened, and, where all were opened, for the bays of cones in a directory
abbrev pub IsAsked : List (List ℕ) → List ℕ → ℕ → List Opening → Status → Type 0
IsAsked names dir cones asked status =
    ((asked ≡ []) × (status ≡ OutOfMemory))
    ⊎ ((IsNameRefused names [] asked × (status ≡ PlaceFault))
    ⊎ IsAskedForBays dir cones (traces_opened names) asked status)
