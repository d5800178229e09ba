-- How traces are shared out among workers, and what each worker leaves in a cone.
use Rattle.std.specs.Prelude.{◌≡◌, ℕ, ◌%◌, ◌<◌, ◌++◌, ◌∷◌, List, [], map, All, Some, slice_get}
use Rattle.lert_base.specs.{Beginning.BeginsWith, Packet.{Packet, events_of, of_trace}, Weave.AreCut, declared.cone_fault.ConeFault.ConeFault}
use Rattle.lert_spec.specs.{declared.item.Item.Item, declared.numbers.Numbers.Numbers, Counts.weighed, Mix.part_in}
use Rattle.lert_worker.specs.{Brings.{HasNoRest, IsOwn}, Ran.{IsTurned, StillOpen}, declared.end.WorkerEnd.WorkerEnd, declared.end.WorkerEnd.TheVariants.Ran}

-- the traces of a worker, of so many workers and traces: all those that leave its number behind, in ascending order
pub record IsShare (workers count number : ℕ) (traces : List ℕ) : Type 0 where
  pub own : All (λ trace. (trace < count) × (trace % workers ≡ number)) traces
  pub all : (trace : ℕ) → trace < count → trace % workers ≡ number → (place : ℕ) × (slice_get traces place ≡ Some trace)
  pub once : (place other trace : ℕ) → slice_get traces place ≡ Some trace → slice_get traces other ≡ Some trace → place ≡ other
  pub ascend : (place other trace later : ℕ) → slice_get traces place ≡ Some trace → slice_get traces other ≡ Some later → trace < later → place < other

-- packets of a worker to a cone, of which the items of each trace's join to the cone's part of the items that were read of it, or to
-- a beginning of that part, in whatever order the traces are
pub record HasAll (s : Numbers) (number cone : ℕ) (share : List ℕ) (reads : List (List Item)) (packets : List Packet) : Type 0 where
  pub each : All (IsOwn s number share) packets
  pub joined : (place trace : ℕ) (items : List Item) → slice_get share place ≡ Some trace → slice_get reads place ≡ Some items
      → events_of (of_trace packets trace) ≡ part_in weighed s cone items
  pub cut : (trace : ℕ) → AreCut s.packet (of_trace packets trace)

pub record HasPart (s : Numbers) (number cone : ℕ) (share : List ℕ) (reads : List (List Item)) (packets : List Packet) : Type 0 where
  pub each : All (IsOwn s number share) packets
  pub joined : (place trace : ℕ) (items : List Item) → slice_get share place ≡ Some trace → slice_get reads place ≡ Some items
      → BeginsWith (part_in weighed s cone items) (events_of (of_trace packets trace))
  pub cut : (trace : ℕ) → AreCut s.packet (of_trace packets trace)

-- what a worker leaves in a cone: the packets that were taken in, and the one that was refused, by how it ended
pub record LeftIn (s : Numbers) (number cone : ℕ) (share : List ℕ) (reads : List (List Item)) (stopped : ℕ) (end : WorkerEnd)
    (added : List Packet) (turned : List (Packet × ConeFault)) : Type 0 where
  pub turned_is : IsTurned end cone turned
  pub part : HasPart s number cone share reads (added ++ map (λ pair. pair.0) turned)
  pub of_stopped : (packet : Packet) (fault : ConeFault) → turned ≡ (packet, fault) ∷ [] → packet.trace ≡ stopped
  pub all : end ≡ Ran → HasAll s number cone share reads added
  pub no_rest : StillOpen end cone → HasNoRest s stopped added
