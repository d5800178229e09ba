-- What a run says of the traces that it read, of the bays of its cones, and of the text that it wrote.
use Rattle.std.specs.Prelude.{◌≡◌, ◌≢◌, ◌⊎◌, ℕ, ◌^◌, ◌<◌, List, length, Option, Some, slice_get}
use Rattle.lert_bay.specs.Files.{Files}
use Rattle.lert_cone.specs.Sound.{AreEmpty}
use Rattle.lert_spec.specs.{declared.item.Item.Item, declared.numbers.Numbers.Numbers}
use Rattle.lert_ingest.specs.{Bays.{AreFaultlessTo, AreFresh, AreToldFresh}, Stops.{AreTaken, IsExact, StopShows}, Traces.{AreItemsOf, AreReadToEnd}, declared.status.Status.Status}
use Rattle.lert_ingest.specs.declared.status.Status.TheVariants.{NotFresh, OutOfMemory}
use Rattle.lert_top.specs.{cones.Finish.EndShows, cones.Unmade.IsUnmade, runs.Ran.IsDone}

-- what the status of a run says, by the traces and the bays as they were opened and as they were put back, and by the sink
-- before and after
module _ {S K B : Type 0} (remaining : S → Option (List ℕ)) (faults : S → ℕ) (taken : K → Option (List ℕ)) (sink_faults : K → ℕ)
    (files : B → Option Files) (bay_faults : B → ℕ) (settings : Numbers) (workers : ℕ) (opened backs : List S) (before after : K) (bays later : List B) where
  -- once cones were made, reading stopped, with nothing written, or all traces were read to their ends, and the cones were ended, in
  -- ascending order
  pub data MadeShows : Status → Type 0 where
    stopped : {status : Status} → StopShows remaining faults files bay_faults settings workers opened backs bays later status → after ≡ before → MadeShows status
    ended : {status : Status} → (traces : List (List Item)) → AreItemsOf remaining opened traces → AreReadToEnd remaining opened backs → AreTaken files settings traces later →
        EndShows taken sink_faults files bay_faults settings workers traces before after bays later status → MadeShows status

  -- no cones were made, before a byte of a trace was read, or some were over files that were all empty, as far as the bays tell
  pub data RunShows : Status → Type 0 where
    unmade : {status : Status} → IsUnmade files bay_faults settings bays later status → after ≡ before → backs ≡ opened → RunShows status
    made : {status : Status} → AreFresh files bays → MadeShows status → RunShows status

  -- A run over traces and bays that were opened: what its status says, and which one comes where no fault was counted. Bays that
  -- aren't all fresh are answered with the first that isn't, whatever those above it do, and what comes over fresh ones is that of reading,
  -- and the text where all is read
  pub record HasRun (status : Status) : Type 0 where
    pub shows : RunShows status
    pub number : status ≢ OutOfMemory → length bays ≡ 2 ^ settings.cone_bits
    pub stale_exactly : (cone : ℕ) → AreFaultlessTo bay_faults cone bays later → (bay : B) → slice_get bays cone ≡ Some bay →
        (seen : Files) → files bay ≡ Some seen → (AreEmpty seen → ⊥) →
        ((other : ℕ) (lower : B) → other < cone → slice_get bays other ≡ Some lower → (held : Files) × (files lower ≡ Some held) × AreEmpty held) →
        (status ≡ NotFresh cone) ⊎ (status ≡ OutOfMemory)
    pub exact : AreToldFresh files bays → IsExact remaining faults files bay_faults settings workers opened backs bays later
        (IsDone sink_faults before after status) (λ other. status ≡ other)
