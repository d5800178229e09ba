-- A run over several traces, on its way and once it ended.
use Rattle.std.specs.Prelude.{◌≡◌, ℕ, ◌+◌, ◌^◌, ◌<◌, ◌≤◌, All, List, [], ◌++◌, length, sum_by, Option, Some, slice_get}
use Rattle.lert_base.specs.{Packet.Packet, declared.cone_fault.ConeFault.ConeFault}
use Rattle.lert_conelock.specs.Sight.{Sight, Counts}
use Rattle.lert_fleet.specs.{Cones.FleetPassSight, Each.EachThree}
use Rattle.lert_spec.specs.{declared.item.Item.Item, declared.numbers.Numbers.Numbers}
use Rattle.lert_trace.specs.Reader.{Reading}
use Rattle.lert_worker.specs.{Brings.{Brings, full_packets, late_tries}, Ends.{IsAtEnd, Stopped, WasRead}, Ran.RanIn, Trace.IsNamed, declared.end.WorkerEnd.WorkerEnd}

-- what the first so many traces of a worker brought to a cone: all that was read of them
pub record BroughtIn {H F : Type 0} (s : Numbers) (number cone : ℕ) (traces : List ℕ) (reads : List (List Item)) (done : ℕ) (old new : Sight H F) : Type 0 where
  pub added : List Packet
  pub calls_are : new.calls ≡ old.calls ++ added
  pub refused_are : new.refused ≡ old.refused
  pub all : Brings s number cone traces reads added
  pub below : (place trace : ℕ) → done ≤ place → slice_get traces place ≡ Some trace → All (λ packet. packet.trace < trace) added
  pub waits : new.waits ≤ old.waits + full_packets s added + done
  pub met : old.met + sum_by (late_tries s) added ≤ new.met
  pub counts : Counts old new

module _ {S H : Type 0} (remaining : S → Option (List ℕ)) (faults mark : S → ℕ) (s : Numbers) (number : ℕ) (traces : List ℕ) where
  -- the first so many traces were read to their ends, and the others weren't asked
  pub record RunsSoFar (done : ℕ) (old : List (Reading S)) (start : FleetPassSight H ConeFault) (new : List (Reading S)) (pass : FleetPassSight H ConeFault) : Type 0 where
    pub reads : List (List Item)
    pub read : EachThree (WasRead remaining faults mark) old new reads
    pub unread : (other : ℕ) (items : List Item) → done ≤ other → slice_get reads other ≡ Some items → items ≡ []
    pub below : (other : ℕ) (now : Reading S) → other < done → slice_get new other ≡ Some now → IsAtEnd remaining now
    pub above : (other : ℕ) → done ≤ other → slice_get new other ≡ slice_get old other
    pub as_many : length pass.cones ≡ length start.cones
    pub cones : (cone : ℕ) (before after : Sight H ConeFault) → slice_get start.cones cone ≡ Some before → slice_get pass.cones cone ≡ Some after
        → BroughtIn s number cone traces reads done before after

  -- the run ended
  pub record HasEnded (old : List (Reading S)) (start : FleetPassSight H ConeFault) (new : List (Reading S)) (pass : FleetPassSight H ConeFault)
      (end : WorkerEnd) : Type 0 where
    pub reads : List (List Item)
    pub read : EachThree (WasRead remaining faults mark) old new reads
    pub place : ℕ
    pub stopped : ℕ
    pub stopped_is : Stopped remaining traces old new place stopped end
    pub named : IsNamed end (2 ^ s.cone_bits)
    pub cones : (cone : ℕ) (before after : Sight H ConeFault) → slice_get start.cones cone ≡ Some before → slice_get pass.cones cone ≡ Some after
        → RanIn s number cone traces reads stopped end before after
