-- What a command that generates a trace says of the sink.
use Rattle.std.specs.Prelude.{◌≡◌, ℕ, ◌<◌, List, ◌++◌, length, take, Option, Some}
use Rattle.lert_gen.specs.Generated.{generated, trace_of}
use Rattle.lert_io.specs.{Fault.HasRisen, Reading.IfTold}
use Rattle.lert_ingest.specs.{declared.status.Status.Status, declared.status.Status.TheVariants.{Done, OutFault}}

-- the sink took the whole trace, or its count of faults rose and it took a beginning
module _ {K : Type 0} (taken : K → Option (List ℕ)) (faults : K → ℕ) (seed events : ℕ) (before after : K) where
  -- a sink that tells what it took has so many bytes of the trace behind what it had
  pub record HasPart : Type 0 where
    pub rose : HasRisen (faults before) (faults after)
    pub part : IfTold (taken before) (λ text. (count : ℕ) × (count < length (trace_of (generated seed events)))
        × (taken after ≡ Some (text ++ take count (trace_of (generated seed events)))))

  pub data TraceShows : Status → Type 0 where
    trace_done : IfTold (taken before) (λ text. taken after ≡ Some (text ++ trace_of (generated seed events))) → TraceShows Done
    trace_cut : HasPart → TraceShows OutFault
