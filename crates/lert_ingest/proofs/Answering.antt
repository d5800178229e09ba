-- The exact answer of a crew of workers.
use Rattle.std.proofs.{Common.{◌≡◌, ◌⊎◌, ℕ, ◌+◌, ◌%◌, ◌^◌, ◌<◌, ◌≤◌, List, length, Option, Some, None, slice_get, refl, ap, sym, ◌∙◌, subst, inl, inr, arith}, lemmas.Bool.cases_lt}
use Rattle.std.proofs.lemmas.Option.{get_or_from_slice_get, none-some, same_Some, slice_get_within}
use Rattle.std.specs.Prelude.{All}
use Rattle.lert_base.specs.{Packet.{events_of}, declared.cone_fault.ConeFault.ConeFault}
use Rattle.lert_spec.specs.{declared.item.Item.Item, declared.numbers.Numbers.Numbers, Counts.{weighed, weight_of}, Edges.{capacity, weight_room}}
use Rattle.lert_trace.specs.Trace.{left}
use Rattle.lert_trace.specs.{Reader.Reading, declared.fault.TraceFault.TraceFault}
use Rattle.lert_trace.specs.declared.fault.TraceFault.TheVariants as trace_fault
use Rattle.lert_worker.specs.{Ends.{IsAtEnd, Stopped}, declared.end.WorkerEnd.WorkerEnd}
use Rattle.lert_worker.specs.declared.end.WorkerEnd.TheVariants as end
use Rattle.lert_ingest.specs.{Bays.bays_of, Faults.end_fault, Cones.mades_of}
use Rattle.lert_ingest.specs.{Stops.{AreTelling, IsExactBehind}, Past.{AllFitBehind, IsOverBehind, Past, rests_of}, Traces.{part_length, part_weight}, declared.status.Status.Status}
use Rattle.lert_ingest.specs.declared.status.Status.TheVariants as status
use Rattle.lert_ingest.proofs.{BayLaws.{bay_at, made_at, slice_get-some, told_later}, Completing.{all_fit, read_to_end}, Crewed.{Crewed, IsTraceRead, as_many, first_fault, past, read_at, shared_all}}
use Rattle.lert_ingest.proofs.{Exactly.{MayBe, may_bad, may_full, may_heavy, may_memory, bytes_at, bytes_of, fault_risen, few_at, rests_same, may_be}, FaultOrder.IsNotAfter, Holding.none_full}
use Rattle.lert_ingest.proofs.{Judging.{IsStop, bays_later, begun, cone_at, of_ends, running_told, shared, stop_shows, trace_stop, traces}, Told.{are_items, named, there_is}}

-- a cone that takes all has neither too many items nor too heavy ones
not_over : (past : Past) (s : Numbers) (traces : List (List Item)) (over : ℕ) → (past.many over traces ≤ capacity s) × (past.heavy over traces ≤ weight_room s) → IsOverBehind past s traces over →
    ⊥
not_over past s traces over fits (inl many) = omega (arith, fits.0, many)
not_over past s traces over fits (inr heavy) = omega (arith, fits.1, heavy)

well_at : (texts : List (List ℕ)) → All (λ bytes. left bytes ≡ None) texts → (trace : ℕ) (bytes : List ℕ) → slice_get texts trace ≡ Some bytes → left bytes ≡ None
well_at texts well trace bytes is = subst (λ (b : List ℕ). left b ≡ None) (get_or_from_slice_get texts trace bytes bytes is) (well trace bytes (slice_get_within texts trace bytes is))

module _ {S B : Type 0} (crew : Crewed S B) where
  open crew.read use {remaining, s_faults, s_mark, workers, some, opened, given, were, laters, shares, reads, was, readings, places, stopped, ends, run}
  open crew use {files, leaves, b_faults, b_mark, s, before, firsts, backs, added, turned, left_by}

  -- where all tell and no fault was counted
  abbrev Telling : List (List ℕ) → Type 0
  Telling = AreTelling remaining s_faults files b_faults s workers opened laters (mades_of firsts) (bays_of backs)

  module _ (texts : List (List ℕ)) (are : Telling texts) where
    module _ (one : Status) (found : first_fault crew ≡ Some one) (fits : AllFitBehind (past crew) s (rests_of given texts)) where
      -- no worker stopped at a cone, where the cones take all whole items
      no_cone : (by : ℕ) → by < workers → (cone : ℕ) (f : ConeFault) → ends by ≡ end.Cone cone f → ⊥
      no_cone by below cone f is =
          let within = left_by.named by cone f below is in
          let c = cone_at crew cone within in
          let now = told_later files b_faults b_mark (mades_of firsts) (bays_of backs) (bays_later crew) are.told cone c.closed.bay (bay_at backs cone c.closed c.closed_is) in
          let running = running_told crew one found cone c
          (are.faultless cone c.first.made c.closed.bay (made_at firsts cone c.first c.first_is) (bay_at backs cone c.closed c.closed_is)) now.0 now.1 in
          let same = rests_same remaining given opened texts (traces crew) are.bytes_are (are_items crew.read) in
          let enough = fits cone (subst (λ n. cone < n) left_by.cones_are within) in
          none_full files leaves b_faults b_mark s workers some cone before (traces crew) shares reads stopped ends (shared crew) (added cone) (turned cone) c.left c.first c.closed c.back
          (begun crew) (subst (λ (ts : List (List Item)). (length (events_of (before cone)) + part_length s cone ts ≤ capacity s)
          × (weight_of weighed (events_of (before cone)) + part_weight s cone ts ≤ weight_room s)) (sym same) enough) running by below f is

      module _ (trace at : ℕ) (bytes : List ℕ) (is : slice_get texts trace ≡ Some bytes) (bad : left bytes ≡ Some at)
          (lower : (other : ℕ) (text : List ℕ) → other < trace → slice_get texts other ≡ Some text → left text ≡ None) where
        first : (before : S) × (slice_get opened trace ≡ Some before) × (remaining before ≡ Some bytes)
        first = bytes_at remaining opened texts are.bytes_are trace bytes is

        inside : trace < length opened
        inside = slice_get_within opened trace first.0 first.1

        there : (place : ℕ) × (slice_get (shares (trace % workers)) place ≡ Some trace)
        there = there_is crew.read trace inside

        by_below : trace % workers < workers
        by_below = named crew.read trace

        of : (now : Reading S) × (read : List Item) × (slice_get (readings (trace % workers)) there.0 ≡ Some now) × (slice_get (reads (trace % workers)) there.0 ≡ Some read)
            × IsTraceRead crew.read trace now read
        of = read_at crew.read (trace % workers) there.0 trace by_below there.1

        -- a trace that leaves the format isn't read to an end
        no_end : IsAtEnd remaining of.0 → ⊥
        no_end at_end =
            let made : of.0.made ≡ first.0 = of.4.read_is.made_is ∙ same_Some of.4.first.made first.0 (sym of.4.begun.made_is ∙ first.1) in
            let trace_of = at_end.told bytes (ap remaining made ∙ first.2) in
            none-some at (sym trace_of.well_formed ∙ bad)

        -- no lower trace leaves the format, and no other one is the first of its worker
        no_other : (other place : ℕ) (text : List ℕ) → slice_get texts other ≡ Some text → (left text ≡ Some place) → (trace < other → ⊥)
            → (other ≡ trace) × (place ≡ at)
        no_other other place text text_is leaves_at not_later = elim (cases_lt other trace) [
          | inl less ↦ absurd (none-some place (sym (lower other text less text_is) ∙ leaves_at))
          | inr most ↦ elim (cases_lt trace other) [
            | inl later ↦ absurd (not_later later)
            | inr few ↦
                let same : other ≡ trace = omega (arith, most, few) in
                let text_same : text ≡ bytes = same_Some text bytes (sym text_is ∙ (ap (slice_get texts) same ∙ is)) in
                (same, same_Some place at (sym leaves_at ∙ (ap left text_same ∙ bad)))
          ]
        ]

        -- its worker stops there
        stops : (e : WorkerEnd) → ends (trace % workers) ≡ e → end_fault e ≡ Some (status.BadTrace trace at)
        stops end.Ran ran = absurd (no_end
            ((subst (Stopped remaining (shares (trace % workers)) (was (trace % workers)) (readings (trace % workers)) (places (trace % workers)) (stopped (trace % workers)))
            ran (run.stop (trace % workers) by_below)) there.0 of.0 of.2))
        stops (end.Cone cone f) ended = absurd (no_cone (trace % workers) by_below cone f ended)
        stops (end.Trace other f) ended = by_fault f (trace_stop crew (trace % workers) by_below other f ended)
          where
            stop_is : Stopped remaining (shares (trace % workers)) (was (trace % workers)) (readings (trace % workers)) (places (trace % workers)) (stopped (trace % workers))
                (end.Trace other f)
            stop_is = subst (Stopped remaining (shares (trace % workers)) (was (trace % workers)) (readings (trace % workers)) (places (trace % workers)) (stopped (trace % workers)))
                ended (run.stop (trace % workers) by_below)

            not_later : trace < other → ⊥
            not_later later =
                let place_is : slice_get (shares (trace % workers)) (places (trace % workers)) ≡ Some other = stop_is.1 ∙ ap Some (sym stop_is.0) in
                let before = (shared_all crew.read (trace % workers) by_below).ascend there.0 (places (trace % workers)) trace other there.1 place_is later in
                no_end (stop_is.2.below there.0 of.0 before of.2)

            bad_there : (place : ℕ) (before : S) → slice_get opened other ≡ Some before → ((text : List ℕ) → remaining before ≡ Some text → left text ≡ Some place) →
                Some (status.BadTrace other place) ≡ Some (status.BadTrace trace at)
            bad_there place before opened_is leaves_at =
                let text = bytes_of remaining opened texts are.bytes_are other before opened_is in
                let same = no_other other place text.0 text.1 (leaves_at text.0 text.2) not_later in
                ap (λ t. Some (status.BadTrace t place)) same.0 ∙ ap (λ p. Some (status.BadTrace trace p)) same.1

            by_fault : (g : TraceFault) → IsStop crew other g → end_fault (end.Trace other g) ≡ Some (status.BadTrace trace at)
            by_fault trace_fault.ReadFailed stop = absurd
                (fault_risen (s_faults stop.before) (s_faults stop.now) stop.means (are.traces_faultless other stop.before stop.now stop.opened_is stop.later_is))
            by_fault (trace_fault.BadHeader place) stop = bad_there place stop.before stop.opened_is (λ text told. (stop.means.1 text told).place)
            by_fault (trace_fault.CutKey place) stop = bad_there place stop.before stop.opened_is (λ text told. (stop.means.1 text told).leaves.place)
            by_fault (trace_fault.ZeroWeight place) stop = bad_there place stop.before stop.opened_is (λ text told. (stop.means.1 text told).leaves.place)
            by_fault trace_fault.TooLong stop =
                let text = bytes_of remaining opened texts are.bytes_are other stop.before stop.opened_is in
                absurd (let many = stop.means.1 text.0 text.2 in let most =
                few_at remaining s_faults files b_faults s given before workers opened were laters (mades_of firsts) (bays_of firsts) (bays_of backs) texts are other text.0 text.1 in
                omega (arith, many, most))

        -- so it is answered, or want of memory
        pub lowest : (other place : ℕ) (text : List ℕ) → one ≡ status.BadTrace other place → slice_get texts other ≡ Some text → left text ≡ Some place
            → one ≡ status.BadTrace trace at
        lowest other place text one_is text_is leaves_at =
            let not_after = of_ends crew one found (trace % workers) by_below (status.BadTrace trace at) (stops (ends (trace % workers)) refl) in
            let numbered = subst (λ (x : Status). IsNotAfter x (status.BadTrace trace at)) one_is not_after in
            let not_later = numbered.numbered refl in
            let same = no_other other place text text_is leaves_at (λ later. omega (arith, later, not_later)) in
            one_is ∙ (ap (λ t. status.BadTrace t place) same.0 ∙ ap (λ p. status.BadTrace trace p) same.1)

  -- the answer
  module _ (ok : Type 0) (fails : Status → Type 0) (when_none : first_fault crew ≡ None → ok) (when_some : (one : Status) → first_fault crew ≡ Some one → fails one) where
    module _ (texts : List (List ℕ)) (are : Telling texts) where
      by_answer : {P : Type 0} → (first_fault crew ≡ None → P) → ((one : Status) → first_fault crew ≡ Some one → MayBe (past crew) s texts one → P) → P
      by_answer {P} if_none if_some = go (first_fault crew) refl
        where
          go : (answer : Option Status) → first_fault crew ≡ answer → P
          go None is = if_none is
          go (Some one) is = if_some one is
              (may_be remaining s_faults files b_faults s given before workers opened were laters (mades_of firsts) (bays_of firsts) (bays_of backs) texts are one (stop_shows crew one is))

      if_bad : AllFitBehind (past crew) s (rests_of given texts) → (trace at : ℕ) (bytes : List ℕ) → slice_get texts trace ≡ Some bytes → left bytes ≡ Some at →
          ((other : ℕ) (lower : List ℕ) → other < trace → slice_get texts other ≡ Some lower → left lower ≡ None) → fails (status.BadTrace trace at) ⊎ fails status.OutOfMemory
      if_bad fits trace at bytes is leaves lower = by_answer (λ none.
          let first = bytes_at remaining opened texts are.bytes_are trace bytes is in
          let now = slice_get-some laters trace (let n = as_many crew.read in let below = slice_get_within opened trace first.0 first.1 in omega (arith, n, below)) in
          let end = read_to_end crew none trace first.0 now.0 first.1 now.1 bytes first.2 in
          absurd (none-some at (sym end.well_formed ∙ leaves))) which
        where
          which : (one : Status) → first_fault crew ≡ Some one → MayBe (past crew) s texts one → fails (status.BadTrace trace at) ⊎ fails status.OutOfMemory
          which one found (may_bad other place text there leaves_at) =
              inl (subst fails (lowest texts are (status.BadTrace other place) found fits trace at bytes is leaves lower other place text refl there leaves_at) (when_some _ found))
          which one found (may_full cone n len named over) = absurd (let most = fits cone named in omega (arith, most.0, over))
          which one found (may_heavy cone weight more named over) = absurd (let most = fits cone named in omega (arith, most.1, over))
          which one found may_memory = inr (when_some _ found)

      if_full : All (λ bytes. left bytes ≡ None) texts → (over : ℕ) → over < 2 ^ s.cone_bits → IsOverBehind (past crew) s (rests_of given texts) over →
          ((cone n len : ℕ) × fails (status.CapacityFull cone n len)) ⊎ (((cone weight more : ℕ) × fails (status.WeightFull cone weight more)) ⊎ fails status.OutOfMemory)
      if_full well over below is_over = by_answer (λ none.
          let same = rests_same remaining given opened texts (traces crew) are.bytes_are (are_items crew.read) in
          let closed = slice_get-some backs over (let n = left_by.number in let m = left_by.cones_are in omega (arith, n, m, below)) in
          let now = told_later files b_faults b_mark (mades_of firsts) (bays_of backs) (bays_later crew) are.told over closed.0.bay (bay_at backs over closed.0 closed.1) in
          let taken = all_fit crew none over closed.0.bay (bay_at backs over closed.0 closed.1) in
          absurd (not_over (past crew) s (rests_of given texts) over (subst (λ (ts : List (List Item)). (length (events_of (before over)) + part_length s over ts ≤ capacity s)
          × (weight_of weighed (events_of (before over)) + part_weight s over ts ≤ weight_room s)) same
          (taken.0, taken.1 now.0 now.1)) is_over)) which
        where
          which : (one : Status) → first_fault crew ≡ Some one → MayBe (past crew) s texts one →
              ((cone n len : ℕ) × fails (status.CapacityFull cone n len)) ⊎ (((cone weight more : ℕ) × fails (status.WeightFull cone weight more)) ⊎ fails status.OutOfMemory)
          which one found (may_bad other place text there leaves_at) = absurd (none-some place (sym (well_at texts well other text there) ∙ leaves_at))
          which one found (may_full cone n len named is) = inl (cone, n, len, when_some _ found)
          which one found (may_heavy cone weight more named is) = inr (inl (cone, weight, more, when_some _ found))
          which one found may_memory = inr (inr (when_some _ found))

      if_complete : All (λ bytes. left bytes ≡ None) texts → AllFitBehind (past crew) s (rests_of given texts) → ok ⊎ fails status.OutOfMemory
      if_complete well fits = by_answer (λ none. inl (when_none none)) which
        where
          which : (one : Status) → first_fault crew ≡ Some one → MayBe (past crew) s texts one → ok ⊎ fails status.OutOfMemory
          which one found (may_bad other place text there leaves_at) = absurd (none-some place (sym (well_at texts well other text there) ∙ leaves_at))
          which one found (may_full cone n len named over) = absurd (let most = fits cone named in omega (arith, most.0, over))
          which one found (may_heavy cone weight more named over) = absurd (let most = fits cone named in omega (arith, most.1, over))
          which one found may_memory = inr (when_some _ found)

    pub is_exact : IsExactBehind (past crew) remaining s_faults files b_faults s workers opened were laters (mades_of firsts) (bays_of firsts) (bays_of backs) ok fails
    is_exact = record { bad = if_bad; full = if_full; complete = if_complete }
