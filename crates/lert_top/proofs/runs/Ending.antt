-- Which status a run ends with.
use Rattle.std.proofs.{Common.{◌≡◌, ℕ, List, Option, Some, slice_get, refl, sym, subst, inl, arith}, lemmas.Option.slice_get_within}
use Rattle.lert_bay.specs.Files.{Files}
use Rattle.lert_io.specs.Fault.{IsFaultless}
use Rattle.lert_spec.specs.{declared.item.Item.Item, declared.numbers.Numbers.Numbers}
use Rattle.lert_ingest.specs.{declared.status.Status.Status, declared.status.Status.TheVariants.OutOfMemory, Bays.{AreFaultless, AreFresh, AreLater, AreOpenWoven, AreTold, AreToldFresh, AreUnused}}
use Rattle.lert_ingest.specs.Stops.{AreOpenPartly, AreTelling, StopShows, trace_fault, bad_trace, too_long, bay_fault, malformed, capacity_full, out_of_memory, weight_full}
use Rattle.lert_ingest.proofs.BayLaws.{failed_since, slice_get-some, told_later, untold_since}
use Rattle.lert_top.specs.{cones.Finish.{EndShows, end_done, end_failed, end_malformed, end_cut}, cones.Unmade.{IsUnmade, unmade_stale, unmade_failed, unmade_memory}, runs.Ran.IsDone}
use Rattle.lert_top.specs.runs.Run.{MadeShows, RunShows, made, unmade, stopped, ended}
use Rattle.lert_top.proofs.cones.StatusLaws.{failed_or_not, faultless_since, faultless_until, no_rise, stale_or_not, untold_or_not}

module _ {B : Type 0} (files : B → Option Files) (faults mark : B → ℕ) (first then now : List B) (one : AreLater files faults mark first then) (two : AreLater files faults
    mark then now) where
  -- each bay as it was, then and now
  faultless_at : (cone : ℕ) (mid after : B) → slice_get then cone ≡ Some mid → slice_get now cone ≡ Some after →
      ((before : B) → slice_get first cone ≡ Some before → IsFaultless (faults before) (faults after)) → IsFaultless (faults mid) (faults after)
  faultless_at cone mid after was is none =
      let there = slice_get-some first cone (omega (arith, slice_get_within then cone mid was, one.number)) in
      faultless_since (faults there.0) (faults mid) (faults after) (one.each cone there.0 mid there.1 was).never_falls (two.each cone mid after was is).never_falls (none there.0 there.1)

  pub are_faultless_since : AreFaultless faults first now → AreFaultless faults then now
  are_faultless_since none cone mid after was is = faultless_at cone mid after was is (λ before there. none cone before after there is)

  pub are_faultless_until : AreFaultless faults first now → AreFaultless faults first then
  are_faultless_until none cone before mid was is =
      let after = slice_get-some now cone (omega (arith, slice_get_within then cone mid is, two.number)) in
      faultless_until (faults before) (faults mid) (faults after.0) (one.each cone before mid was is).never_falls (two.each cone mid after.0 is after.1).never_falls
      (none cone before after.0 was after.1)

  -- what isn't closed of the bays since a moment isn't since an earlier one
  pub open_since : (s : Numbers) (workers : ℕ) (open_trace : ℕ → ℕ → Type 0) (traces : List (List Item)) → AreOpenWoven files faults s workers open_trace then now traces →
      AreOpenWoven files faults s workers open_trace first now traces
  open_since s workers open_trace traces are cone before after was is none =
      let mid = slice_get-some then cone (omega (arith, slice_get_within now cone after is, two.number)) in
      are cone mid.0 after mid.1 is
      (faultless_since (faults before) (faults mid.0) (faults after) (one.each cone before mid.0 was mid.1).never_falls (two.each cone mid.0 after mid.1 is).never_falls none)

module _ {S K B : Type 0} (remaining : S → Option (List ℕ)) (faults : S → ℕ) (taken : K → Option (List ℕ)) (sink_faults : K → ℕ) (files : B → Option Files)
    (bay_faults : B → ℕ) (settings : Numbers) (workers : ℕ) (mark : B → ℕ) (opened backs : List S) (before after : K) (first then now : List B)
    (one : AreLater files bay_faults mark first then) (two : AreLater files bay_faults mark then now) where
  -- what is said of bays is said of the same bays earlier
  partly_since : (open_trace : ℕ → ℕ → Type 0) → AreOpenPartly remaining faults files bay_faults settings workers opened backs then now open_trace →
      AreOpenPartly remaining faults files bay_faults settings workers opened backs first now open_trace
  partly_since open_trace part = record {
    traces = part.traces;
    items = part.items;
    woven = part.woven;
    still = open_since files bay_faults mark first then now one two settings workers open_trace part.traces part.still;
  }

  pub ends_since : (traces : List (List Item)) {status : Status} → EndShows taken sink_faults files bay_faults settings workers traces before after then now status →
      EndShows taken sink_faults files bay_faults settings workers traces before after first now status
  ends_since traces (end_done closed) = end_done closed
  ends_since traces (end_failed cone risen same to) = end_failed cone (failed_since files bay_faults mark first then now cone one two risen) same to
  ends_since traces (end_malformed cone file at untold same to) = end_malformed cone file at (untold_since files bay_faults mark first then cone one untold) same to
  ends_since traces (end_cut risen closed) = end_cut risen closed

  pub telling_since : (texts : List (List ℕ)) → AreTelling remaining faults files bay_faults settings workers opened backs first now texts →
      AreTelling remaining faults files bay_faults settings workers opened backs then now texts
  telling_since texts are = record {
    told = told_later files bay_faults mark first then one are.told;
    faultless = are_faultless_since files bay_faults mark first then now one two are.faultless;
    traces_faultless = are.traces_faultless;
    bytes_are = are.bytes_are;
    few = are.few;
  }

  -- what a status says of bays over which cones were made it says of the same bays earlier, which had no byte in their files
  module _ (fresh : AreFresh files first) (unused : AreUnused files settings first then) where
    stops_since : {status : Status} → StopShows remaining faults files bay_faults settings workers opened backs then now status → after ≡ before →
        RunShows remaining faults taken sink_faults files bay_faults settings workers opened backs before after first now status
    stops_since (trace_fault trace risen part) same = made fresh (stopped (trace_fault trace risen (partly_since _ part)) same)
    stops_since (bad_trace trace at bad part) same = made fresh (stopped (bad_trace trace at bad (partly_since _ part)) same)
    stops_since (too_long trace long part) same = made fresh (stopped (too_long trace long (partly_since _ part)) same)
    stops_since (bay_fault cone risen part) same = made fresh (stopped (bay_fault cone (failed_since files bay_faults mark first then now cone one two risen) (partly_since _ part)) same)
    stops_since (malformed cone file at untold part) same =
        made fresh (stopped (malformed cone file at (untold_since files bay_faults mark first then cone one untold) (partly_since _ part)) same)
    stops_since (capacity_full cone n len full has trace part) same =
        made fresh (stopped (capacity_full cone n len full (record { traces = has.traces; items = has.items; enough = has.enough }) trace (partly_since _ part)) same)
    stops_since (weight_full cone weight more heavy has trace part) same =
        made fresh (stopped (weight_full cone weight more heavy (record { traces = has.traces; items = has.items; enough = has.enough }) trace (partly_since _ part)) same)
    stops_since (out_of_memory same_traces same_bays) same = unmade (unmade_memory (subst (AreUnused files settings first) (sym same_bays) unused)) same same_traces

    pub shows_since : {status : Status} → MadeShows remaining faults taken sink_faults files bay_faults settings workers opened backs before after then now status →
        RunShows remaining faults taken sink_faults files bay_faults settings workers opened backs before after first now status
    shows_since (stopped shows same) = stops_since shows same
    shows_since (ended traces items read fits shows) = made fresh (ended traces items read fits (ends_since traces shows))

-- where no fault was counted, no cones are made for want of memory alone
pub only_memory : {B : Type 0} (files : B → Option Files) (faults : B → ℕ) (s : Numbers) (bays later : List B) (status : Status) → IsUnmade files faults s bays later status →
    AreToldFresh files bays → AreFaultless faults bays later → status ≡ OutOfMemory
only_memory files faults s bays later status (unmade_stale cone stale same unused) fresh none = absurd (stale_or_not files bays cone fresh stale)
only_memory files faults s bays later status (unmade_failed cone risen early) fresh none = absurd (failed_or_not faults bays later cone none risen)
only_memory files faults s bays later status (unmade_memory unused) fresh none = refl

-- and cones end with the text
pub ends_done : {K B : Type 0} (taken : K → Option (List ℕ)) (sink_faults : K → ℕ) (files : B → Option Files) (faults : B → ℕ) (s : Numbers) (workers : ℕ) (traces : List (List Item))
    (before after : K) (bays later : List B) (status : Status) → EndShows taken sink_faults files faults s workers traces before after bays later status → AreTold files bays →
    AreFaultless faults bays later → IsDone sink_faults before after status
ends_done taken sink_faults files faults s workers traces before after bays later status (end_done closed) told none kept = inl refl
ends_done taken sink_faults files faults s workers traces before after bays later status (end_failed cone risen same to) told none kept =
    absurd (failed_or_not faults bays later cone none risen)
ends_done taken sink_faults files faults s workers traces before after bays later status (end_malformed cone file at untold same to) told none kept =
    absurd (untold_or_not files bays cone told untold)
ends_done taken sink_faults files faults s workers traces before after bays later status (end_cut risen closed) told none kept =
    absurd (no_rise (sink_faults before) (sink_faults after) kept risen)
