-- Which fault of several is answered: that of the lowest trace; else the lowest bad trace; else the lowest trace too long; else the
-- lowest cone that its bay broke; else the lowest that a read broke; else the lowest that is full; else the lowest whose weight is.
-- Want of memory is none of these: a cone has all its memory by then, and for the rest it is answered before a trace is read.
use Rattle.std.specs.Prelude.{ℕ, zero, suc, ◌==◌, nat_lt, ◌&&◌, ◌||◌, Bool, List, Option, Some, None, slice_get, if◌then◌else◌}
use Rattle.lert_cone.specs.Stands.{Standing}
use Rattle.lert_base.specs.declared.cone_fault.ConeFault.{ConeFault}
use Rattle.lert_base.specs.declared.cone_fault.ConeFault.TheVariants as cone_fault
use Rattle.lert_cone.specs.declared.state.ConeState.{ConeState}
use Rattle.lert_cone.specs.declared.state.ConeState.TheVariants as state
use Rattle.lert_ingest.specs.{Status.stop_status, declared.status.Status.Status}
use Rattle.lert_ingest.specs.declared.status.Status.TheVariants as status
use Rattle.lert_worker.specs.declared.end.WorkerEnd.{WorkerEnd}
use Rattle.lert_worker.specs.declared.end.WorkerEnd.TheVariants as end

-- the place of a status in the order in which faults are answered
abbrev pub rank : Status → ℕ
rank status.OutOfMemory = 0
rank (status.TraceFault trace) = 1
rank (status.BadTrace trace at) = 2
rank (status.TooLong trace) = 3
rank (status.BayFault cone) = 4
rank (status.Malformed cone file at) = 5
rank (status.CapacityFull cone n len) = 6
rank (status.WeightFull cone weight more) = 7
rank other = 8

-- the trace or the cone of a status
abbrev pub number_in : Status → ℕ
number_in (status.TraceFault trace) = trace
number_in (status.BadTrace trace at) = trace
number_in (status.TooLong trace) = trace
number_in (status.NotFresh cone) = cone
number_in (status.BayFault cone) = cone
number_in (status.CapacityFull cone n len) = cone
number_in (status.WeightFull cone weight more) = cone
number_in (status.Malformed cone file at) = cone
number_in (status.OtherSettings cone) = cone
number_in other = 0

-- of two statuses the first one is answered first
abbrev pub goes_before : Status → Status → Bool
goes_before one other = nat_lt (rank one) (rank other) || ((rank one == rank other) && nat_lt (number_in one) (number_in other))

-- the one of two faults that is answered
abbrev pub earlier : Option Status → Option Status → Option Status
earlier None other = other
earlier (Some one) None = Some one
earlier (Some one) (Some other) = if goes_before other one then Some other else Some one

-- the one of the first so many that is answered
abbrev pub earliest : (ℕ → Option Status) → ℕ → Option Status
earliest faults zero = None
earliest faults (suc count) = earlier (earliest faults count) (faults count)

-- the fault of a cone that refused a packet over its capacity or weight; where it refused for another cause its state says so
abbrev pub full_fault : ℕ → ConeFault → Option Status
full_fault cone cone_fault.Closed = None
full_fault cone cone_fault.Broken = None
full_fault cone (cone_fault.CapacityFull n len) = Some (status.CapacityFull cone n len)
full_fault cone cone_fault.BayFailed = None
full_fault cone (cone_fault.Unsound file at) = None
full_fault cone (cone_fault.WeightFull weight more) = Some (status.WeightFull cone weight more)
full_fault cone (cone_fault.OldJournal place) = None

-- the fault of how a worker ended
abbrev pub end_fault : WorkerEnd → Option Status
end_fault end.Ran = None
end_fault (end.Trace trace fault) = Some (stop_status trace fault)
end_fault (end.Cone cone fault) = full_fault cone fault

-- the fault of the state of a cone
abbrev pub state_fault : ℕ → ConeState → Option Status
state_fault cone state.Running = None
state_fault cone state.Finished = None
state_fault cone state.BrokenByBay = Some (status.BayFault cone)
state_fault cone (state.BrokenByRead file at) = Some (status.Malformed cone file at)

-- the fault of a cone of a list
abbrev pub fault_of : {B : Type 0} → ℕ → Option (Standing B) → Option Status
fault_of cone None = None
fault_of cone (Some standing) = state_fault cone standing.state

abbrev pub fault_at : {B : Type 0} → List (Standing B) → ℕ → Option Status
fault_at cones cone = fault_of cone (slice_get cones cone)
