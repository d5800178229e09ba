-- The numbers and fields of statuses, and the status of a run that a fault of a trace, or a refusal of a cone, stops.
use Rattle.std.specs.Prelude.{ℕ}
use Rattle.lert_base.specs.declared.cone_fault.ConeFault.{ConeFault}
use Rattle.lert_cone.specs.declared.refusal.CreateFault.{CreateFault}
use Rattle.lert_cone.specs.declared.refusal.CreateFault.TheVariants as create_fault
use Rattle.lert_base.specs.declared.cone_fault.ConeFault.TheVariants as cone_fault
use Rattle.lert_ingest.specs.declared.status.Status.{Status}
use Rattle.lert_ingest.specs.declared.status.Status.TheVariants as status
use Rattle.lert_trace.specs.declared.fault.TraceFault.{TraceFault}
use Rattle.lert_trace.specs.declared.fault.TraceFault.TheVariants as fault

abbrev pub status_number : Status → ℕ
status_number status.Done = 0
status_number (status.Usage rule) = 1
status_number status.PlaceFault = 2
status_number (status.TraceFault trace) = 3
status_number (status.BadTrace trace at) = 4
status_number (status.TooLong trace) = 5
status_number (status.NotFresh cone) = 6
status_number (status.BayFault cone) = 7
status_number (status.CapacityFull cone n len) = 8
status_number (status.Malformed cone file at) = 9
status_number (status.OtherSettings cone) = 10
status_number status.OutFault = 11
status_number status.OutOfMemory = 12
status_number (status.WeightFull cone weight more) = 13

-- the fields of a status in their order, with 0 for the rest of three
abbrev pub status_fields : Status → ℕ × ℕ × ℕ
status_fields status.Done = (0, 0, 0)
status_fields (status.Usage rule) = (rule, 0, 0)
status_fields status.PlaceFault = (0, 0, 0)
status_fields (status.TraceFault trace) = (trace, 0, 0)
status_fields (status.BadTrace trace at) = (trace, at, 0)
status_fields (status.TooLong trace) = (trace, 0, 0)
status_fields (status.NotFresh cone) = (cone, 0, 0)
status_fields (status.BayFault cone) = (cone, 0, 0)
status_fields (status.CapacityFull cone n len) = (cone, n, len)
status_fields (status.Malformed cone file at) = (cone, file, at)
status_fields (status.OtherSettings cone) = (cone, 0, 0)
status_fields status.OutFault = (0, 0, 0)
status_fields status.OutOfMemory = (0, 0, 0)
status_fields (status.WeightFull cone weight more) = (cone, weight, more)

abbrev pub stop_status : ℕ → TraceFault → Status
stop_status trace fault.ReadFailed = status.TraceFault trace
stop_status trace (fault.BadHeader at) = status.BadTrace trace at
stop_status trace (fault.CutKey at) = status.BadTrace trace at
stop_status trace fault.TooLong = status.TooLong trace
stop_status trace (fault.ZeroWeight at) = status.BadTrace trace at

-- a finished cone and a broken one refuse every call, and an old journal takes no weights; none is met by a run
abbrev pub cone_status : ℕ → ConeFault → Status
cone_status cone cone_fault.Closed = status.OutOfMemory
cone_status cone cone_fault.Broken = status.OutOfMemory
cone_status cone (cone_fault.CapacityFull n len) = status.CapacityFull cone n len
cone_status cone cone_fault.BayFailed = status.BayFault cone
cone_status cone (cone_fault.Unsound file at) = status.Malformed cone file at
cone_status cone (cone_fault.WeightFull weight more) = status.WeightFull cone weight more
cone_status cone (cone_fault.OldJournal place) = status.OutOfMemory

-- why no cone is made over a bay
abbrev pub create_status : ℕ → CreateFault → Status
create_status cone create_fault.Failed = status.BayFault cone
create_status cone create_fault.NotFresh = status.NotFresh cone
