-- What a run of a worker leaves.
use Rattle.std.specs.{Prelude.{◌≡◌, ◌≢◌, ℕ, ◌+◌, ◌^◌, ◌<◌, ◌≤◌, All, List, [], ◌∷◌, ◌++◌, length, map, sum_by, Option, Some, slice_get}, List.Sorted.IsStrictlyIncreasing}
use Rattle.lert_base.specs.{declared.held.Held.Ghosts as HeldOf, Packet.Packet, declared.cone_fault.ConeFault.ConeFault}
use Rattle.lert_conelock.specs.Sight.{Sight, LockSight, Counts}
use Rattle.lert_fleet.specs.{Cones.{FleetSight, FleetPassSight, IsPassOf}, Each.EachThree}
use Rattle.lert_spec.specs.{declared.item.Item.Item, declared.numbers.Numbers.Numbers}
use Rattle.lert_trace.specs.Reader.{Reading}
use Rattle.lert_worker.specs.{Brings.{Brings, BringsPart, HasNoRest, MayBring, full_packets, late_tries}, Ends.{Stopped, WasRead}, declared.end.WorkerEnd.WorkerEnd}
use Rattle.lert_worker.specs.declared.end.WorkerEnd.TheVariants.{Ran, Trace, Cone}

-- A worker over readers and a pass of any kind: its number, its settings, the numbers of its traces and their readers, its
-- pass of the fleet, and how it ended. Its rings are empty between calls
pub record Worked (T P : Type 0) : Type 0 where
  pub number : ℕ
  pub settings : Numbers
  pub traces : List ℕ
  pub readers : List T
  pub pass : P
  pub end : WorkerEnd

-- a worker over trace readers and a pass of a fleet
abbrev pub Working : Type 0 → Type 0 → Type 0
Working S H = Worked (Reading S) (FleetPassSight H ConeFault)

-- the numbers of a worker's traces ascend, and each trace has its reader
pub record AreGiven {T : Type 0} (traces : List ℕ) (readers : List T) : Type 0 where
  pub as_many : length readers ≡ length traces
  pub ascend : IsStrictlyIncreasing traces
  pub few : All (λ trace. trace ≤ 1023) traces

-- the first of a worker's traces was handed back with its reader
pub record IsGivenBack {T P : Type 0} (trace : ℕ) (reader : T) (old new : Worked T P) : Type 0 where
  pub traces_are : old.traces ≡ trace ∷ new.traces
  pub readers_are : old.readers ≡ reader ∷ new.readers
  pub others_are : new ≡ record old { traces = new.traces; readers = new.readers }

-- a worker may run over a fleet: its pass is one of the fleet with its number alone, there is a cone for each of its settings,
-- and each packet that it may bring to a cone fits that cone's state
pub record MayRun {S H T R : Type 0} (held : HeldOf H T R ConeFault) (fleet : FleetSight H) (worker : Working S H) : Type 0 where
  pub belongs : IsPassOf worker.pass fleet
  pub lo_is : worker.pass.lo ≡ worker.number
  pub hi_is : worker.pass.hi ≡ worker.number + 1
  pub number_most : worker.number ≤ 63
  pub cones : length fleet ≡ 2 ^ worker.settings.cone_bits
  pub fits : (cone : ℕ) (lock : LockSight H) → slice_get fleet cone ≡ Some lock
      → (packet : Packet) → MayBring worker.settings cone packet → held.fits (held.terms lock.first) packet

-- In each cone a worker waited at most once for each packet of a whole ring, once for each of its traces, and once more; and
-- each packet that might have gone earlier lost that many takes. Each lost take was one that another caller had
pub record WaitsFor {H F : Type 0} (s : Numbers) (readers : ℕ) (old new : Sight H F) (added : List Packet) : Type 0 where
  pub waits : new.waits ≤ old.waits + full_packets s added + readers + 1
  pub met : old.met + sum_by (late_tries s) added ≤ new.met
  pub counts : Counts old new

-- the refused packet that ended a worker, with its refusal, in the cone that refused it and in no other
abbrev pub IsTurned : WorkerEnd → ℕ → List (Packet × ConeFault) → Type 0
IsTurned Ran cone turned = turned ≡ []
IsTurned (Trace trace fault) cone turned = turned ≡ []
IsTurned (Cone at fault) cone turned = (cone ≢ at → turned ≡ []) × (cone ≡ at → (packet : Packet) × (turned ≡ (packet, fault) ∷ []))

-- the trace at which a worker stopped has no rest in a cone: at a fault of the trace in none, at a refusal in the cone that
-- refused and in those above it
abbrev pub StillOpen : WorkerEnd → ℕ → Type 0
StillOpen Ran cone = ⊥
StillOpen (Trace trace fault) cone = Unit {0}
StillOpen (Cone at fault) cone = at ≤ cone

-- what a run of a worker leaves in one cone
pub record RanIn {H : Type 0} (s : Numbers) (number cone : ℕ) (traces : List ℕ) (reads : List (List Item)) (stopped : ℕ) (end : WorkerEnd)
    (old new : Sight H ConeFault) : Type 0 where
  pub added : List Packet
  pub turned : List (Packet × ConeFault)
  pub calls_are : new.calls ≡ old.calls ++ added
  pub refused_are : new.refused ≡ old.refused ++ turned
  pub turned_is : IsTurned end cone turned
  -- with the refused packet behind them, which is one of the trace at which it stopped, they are a beginning
  pub part : BringsPart s number cone traces reads (added ++ map (λ pair. pair.0) turned)
  pub of_stopped : (packet : Packet) (fault : ConeFault) → turned ≡ (packet, fault) ∷ [] → packet.trace ≡ stopped
  pub all : end ≡ Ran → Brings s number cone traces reads added
  pub no_rest : StillOpen end cone → HasNoRest s stopped added
  pub counted : WaitsFor s (length traces) old new added

-- What a run of a worker leaves: it stopped at a trace, or ran to the ends of all
pub record HasRun {S H : Type 0} (remaining : S → Option (List ℕ)) (faults mark : S → ℕ) (fleet : FleetSight H) (old new : Working S H) : Type 0 where
  pub number_is : new.number ≡ old.number
  pub settings_is : new.settings ≡ old.settings
  pub traces_are : new.traces ≡ old.traces
  pub belongs : IsPassOf new.pass fleet
  pub lo_is : new.pass.lo ≡ old.pass.lo
  pub hi_is : new.pass.hi ≡ old.pass.hi
  -- the items that were read of each trace
  pub reads : List (List Item)
  pub read : EachThree (WasRead remaining faults mark) old.readers new.readers reads
  -- the place and the number of the trace at which it stopped
  pub place : ℕ
  pub stopped : ℕ
  pub stopped_is : Stopped remaining old.traces old.readers new.readers place stopped new.end
  pub named : (cone : ℕ) (fault : ConeFault) → new.end ≡ Cone cone fault → cone < length fleet
  pub cones : (cone : ℕ) (before after : Sight H ConeFault) → slice_get old.pass.cones cone ≡ Some before → slice_get new.pass.cones cone ≡ Some after
      → RanIn old.settings old.number cone old.traces reads stopped new.end before after
