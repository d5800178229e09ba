-- A crew that is ready to run, and what its run leaves.
use Rattle.std.specs.Prelude.{◌≡◌, ◌+◌, ℕ, List, length, map, Option, Some, slice_get}
use Rattle.lert_base.specs.{declared.held.Held.Ghosts as HeldOf, Packet.Packet}
use Rattle.lert_conelock.specs.Sight.{LockSight}
use Rattle.lert_fleet.specs.{Cones.FleetSight, Each.EachTwo}
use Rattle.lert_spec.specs.declared.numbers.Numbers.{Numbers}
use Rattle.lert_trace.specs.Reader.{Reading}
use Rattle.lert_worker.specs.{Brings.MayBring, Ran.{HasRun, Working}, declared.end.WorkerEnd.WorkerEnd}
use Rattle.lert_worker.specs.crew.{Passes.{IsPassFrom, IsQuiet}, Shares.IsShare, Sharing.WereTaken}

-- the states of a fleet as it was made
abbrev pub firsts_of : {H : Type 0} → FleetSight H → List H
firsts_of {H = H} fleet = map (λ (lock : LockSight H). lock.first) fleet

-- each packet that a worker may bring to a state's cone may be applied to it
pub record AllFit {H T R F : Type 0} (held : HeldOf H T R F) (s : Numbers) (states : List H) : Type 0 where
  pub each : (cone : ℕ) (state : H) → slice_get states cone ≡ Some state → (packet : Packet) → MayBring s cone packet → held.fits (held.terms state) packet

-- a worker of a number is ready to read its share of the traces
pub record IsReady {S H : Type 0} (fleet : FleetSight H) (s : Numbers) (workers count : ℕ) (all : List (Reading S)) (by : ℕ) (worker : Working S H) : Type 0 where
  pub number_is : worker.number ≡ by
  pub settings_is : worker.settings ≡ s
  pub pass_is : IsPassFrom fleet by (by + 1) worker.pass
  pub quiet : IsQuiet worker.pass
  pub share : IsShare workers count by worker.traces
  pub as_many : length worker.readers ≡ length worker.traces
  pub readers : (place trace : ℕ) → slice_get worker.traces place ≡ Some trace
      → (reader : Reading S) × (slice_get all trace ≡ Some reader) × (slice_get worker.readers place ≡ Some reader)

abbrev pub AreReady : {S H : Type 0} → FleetSight H → Numbers → ℕ → List (Reading S) → List (Working S H) → Type 0
AreReady {S = S} {H = H} fleet s count all crew = (by : ℕ) (worker : Working S H) → slice_get crew by ≡ Some worker → IsReady fleet s (length crew) count all by worker

-- how workers ended, in their order
abbrev pub ends_of : {S H : Type 0} → List (Working S H) → List WorkerEnd
ends_of {S = S} {H = H} workers = map (λ (worker : Working S H). worker.end) workers

-- a crew ran, all readers were taken back, and these are the ends of its workers
pub record HasCrewRun {S H : Type 0} (remaining : S → Option (List ℕ)) (faults mark : S → ℕ) (fleet : FleetSight H) (count : ℕ) (olds news : List (Working S H))
    (back : List (Reading S)) (ends : List WorkerEnd) : Type 0 where
  pub mids : List (Working S H)
  pub ran : EachTwo (HasRun remaining faults mark fleet) olds mids
  pub taken : WereTaken count mids news back
  pub ends_are : ends ≡ ends_of mids
