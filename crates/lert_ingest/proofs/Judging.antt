-- What the fault shows that is answered, where a crew of workers stopped.
use Rattle.std.proofs.{Common.{◌≡◌, ◌≢◌, ◌⊎◌, ℕ, ◌*◌, ◌%◌, ◌^◌, ◌<◌, ◌≤◌, List, [], ◌∷◌, ◌++◌, length, Some, slice_get, refl, ap, sym, ◌∙◌, subst, inl, inr, arith}, lemmas.List.length-map}
use Rattle.std.proofs.{lemmas.List.Elements.{All-contains, Contains-push}, lemmas.Option.{get_or_from_slice_get, none-some, same_Some, slice_get_within}}
use Rattle.std.specs.Prelude.{Contains}
use Rattle.lert_base.specs.{Beginning.BeginsWith, Packet.{Packet, events_of}, declared.cone_fault.ConeFault.ConeFault}
use Rattle.lert_bay.specs.Files.{Files, IfTold}
use Rattle.lert_cone.proofs.WeighLaws.{weight_within}
use Rattle.lert_cone.specs.Stands.{Standing, is_finished}
use Rattle.lert_base.specs.declared.cone_fault.ConeFault.TheVariants as fault
use Rattle.lert_cone.specs.declared.state.ConeState.{ConeState}
use Rattle.lert_cone.specs.declared.state.ConeState.TheVariants as state
use Rattle.lert_conelock.proofs.Contained.{item_here}
use Rattle.lert_io.specs.Fault.{HasRisen, IsFaultless}
use Rattle.lert_spec.specs.{declared.item.Item.Item, Counts.{weighed, weight_of}}
use Rattle.lert_trace.specs.Trace.{left}
use Rattle.lert_trace.specs.{Reader.Means, declared.fault.TraceFault.TraceFault}
use Rattle.lert_trace.specs.declared.fault.TraceFault.TheVariants as trace_fault
use Rattle.lert_worker.specs.{Brings.{HasNoRest, IsOwn}, Ran.StillOpen, Ends.Stopped, declared.end.WorkerEnd.WorkerEnd}
use Rattle.lert_worker.specs.declared.end.WorkerEnd.TheVariants as end
use Rattle.lert_worker.proofs.crew.Weaving.{turned_part, was_turned}
use Rattle.lert_worker.specs.crew.Shares.{IsShare, LeftIn}
use Rattle.lert_ingest.specs.{Back.{IsBack, IsFullAt}, Bays.{AreLater, ArePartWovenBehind, HoldsItems, HoldsPartBehind, HoldsWeight, IfHeld, IsLater, bays_of}}
use Rattle.lert_ingest.specs.{Faults.{earliest, end_fault, fault_at, fault_of, full_fault, rank, state_fault}, Status.stop_status, Stops.{AreOpenPartlyBehind, StopShowsBehind}, Cones.mades_of}
use Rattle.lert_ingest.specs.{Traces.most_items, declared.status.Status.Status}
use Rattle.lert_ingest.specs.declared.status.Status.TheVariants as status
use Rattle.lert_ingest.proofs.{BayLaws.{bay_at, made_at, slice_get-some, untold_since}, Crewed.{Crewed, first_fault, past, read_at, shared_all}, FaultOrder.{IsFirstOf, each_of, of_all, of_two}}
use Rattle.lert_ingest.proofs.{Counting.{length_adds, weight_adds}, Holding.{enough, holds_first, holds_open, holds_part, no_rest_of}}
use Rattle.lert_ingest.proofs.{RuleLaws.{IsOverCapacity, IsOverWeight, by_rule}, Told.{all_begun, all_read, are_items}}

-- a cone that is full, or whose weight is, ranks behind all that break one
full_ranks : (cone : ℕ) (f : ConeFault) (one : Status) → full_fault cone f ≡ Some one → 6 ≤ rank one
full_ranks cone fault.Closed one none = absurd (none-some one none)
full_ranks cone fault.Broken one none = absurd (none-some one none)
full_ranks cone (fault.CapacityFull n len) one some = subst (λ (x : Status). 6 ≤ rank x) (same_Some (status.CapacityFull cone n len) one some) (omega arith)
full_ranks cone fault.BayFailed one none = absurd (none-some one none)
full_ranks cone (fault.Unsound file at) one none = absurd (none-some one none)
full_ranks cone (fault.WeightFull weight more) one some = subst (λ (x : Status). 6 ≤ rank x) (same_Some (status.WeightFull cone weight more) one some) (omega arith)
full_ranks cone (fault.OldJournal place) one none = absurd (none-some one none)

module _ {S B : Type 0} (crew : Crewed S B) where
  open crew.read use {remaining, s_faults, s_mark, workers, some, opened, given, were, laters, shares, reads, was, readings, places, stopped, ends, run}
  open crew use {files, leaves, b_faults, b_mark, s, before, firsts, backs, added, turned, left_by}

  abbrev pub traces : List (List Item)
  traces = (all_read crew.read).items

  traces_number : length traces ≡ length opened
  traces_number = (all_read crew.read).number

  pub shared : (by : ℕ) → by < workers → IsShare workers (length traces) by (shares by)
  shared by below = subst (λ n. IsShare workers n by (shares by)) (sym traces_number) (shared_all crew.read by below)

  pub begun : (by place trace : ℕ) (items : List Item) → by < workers → slice_get (shares by) place ≡ Some trace → slice_get traces trace ≡ Some items →
      (read : List Item) × (slice_get (reads by) place ≡ Some read) × BeginsWith items read
  begun = all_begun crew.read

  -- a cone that came back, by its place
  pub record IsCone (cone : ℕ) : Type 0 where
    pub first : Standing B
    pub closed : Standing B
    pub first_is : slice_get firsts cone ≡ Some first
    pub closed_is : slice_get backs cone ≡ Some closed
    pub back : IsBack files leaves b_faults b_mark s workers cone (before cone) (added cone) (turned cone) first closed
    pub left : (by : ℕ) → by < workers → LeftIn s by cone (shares by) (reads by) (stopped by) (ends by) (added cone by) (turned cone by)

  pub cone_at : (cone : ℕ) → cone < length firsts → IsCone cone
  cone_at cone below =
      let first = slice_get-some firsts cone below in
      let closed = slice_get-some backs cone (let n = left_by.number in omega (arith, n, below)) in
      record {
        first = first.0;
        closed = closed.0;
        first_is = first.1;
        closed_is = closed.1;
        back = left_by.each cone first.0 closed.0 first.1 closed.1;
        left = λ by by_below. left_by.left cone by below by_below;
      }

  pub cone_of_bay : (cone : ℕ) (bay : B) → slice_get (bays_of backs) cone ≡ Some bay → (c : IsCone cone) × (c.closed.bay ≡ bay)
  cone_of_bay cone bay is =
      let sizes = length-map backs (λ (c : Standing B). c.bay) in
      let within = slice_get_within (bays_of backs) cone bay is in
      let c = cone_at cone (let n = left_by.number in omega (arith, sizes, within, n)) in
      (c, same_Some c.closed.bay bay (sym (bay_at backs cone c.closed c.closed_is) ∙ is))

  -- all bays later
  pub bays_later : AreLater files b_faults b_mark (mades_of firsts) (bays_of backs)
  bays_later = record {
    number = length-map backs (λ (c : Standing B). c.bay) ∙ (left_by.number ∙ sym (length-map firsts (λ (c : Standing B). c.made)));
    each = λ cone old now was_is is.
        let c = cone_of_bay cone now is in
        subst (λ (b : B). IsLater files b_faults b_mark b now) (same_Some c.0.first.made old (sym (made_at firsts cone c.0.first c.0.first_is) ∙ was_is))
        (subst (IsLater files b_faults b_mark c.0.first.made) c.1 c.0.back.later);
  }

  pub parts_woven : ArePartWovenBehind before files s workers (bays_of backs) traces
  parts_woven = λ cone bay is.
      let c = cone_of_bay cone bay is in
      subst (λ (b : B). IfTold (files b) (HoldsPartBehind before s workers traces cone)) c.1
      (holds_part files leaves b_faults b_mark s workers some cone before traces shares reads stopped ends shared (added cone) (turned cone) c.0.left c.0.first c.0.closed c.0.back (begun))

  -- the worker of a trace
  pub worker_of : (by place trace : ℕ) → by < workers → slice_get (shares by) place ≡ Some trace → trace % workers ≡ by
  worker_of by place trace below there =
      (subst (λ t. (t < length opened) × (t % workers ≡ by)) (get_or_from_slice_get (shares by) place trace trace there)
      ((shared_all crew.read by below).own place trace (slice_get_within (shares by) place trace there))).1

  -- a worker that stopped at a trace, or at a cone
  pub stop_place : (by : ℕ) → by < workers → (e : WorkerEnd) → ends by ≡ e → (e ≢ end.Ran) → slice_get (shares by) (places by) ≡ Some (stopped by)
  stop_place by below end.Ran is ran = absurd (ran refl)
  stop_place by below (end.Trace trace f) is ran = (subst (Stopped remaining (shares by) (was by) (readings by) (places by) (stopped by)) is (run.stop by below)).1
  stop_place by below (end.Cone cone f) is ran = (subst (Stopped remaining (shares by) (was by) (readings by) (places by) (stopped by)) is (run.stop by below)).0

  pub record IsStop (trace : ℕ) (f : TraceFault) : Type 0 where
    pub before : S
    pub now : S
    pub given : ℕ
    pub opened_is : slice_get opened trace ≡ Some before
    pub later_is : slice_get laters trace ≡ Some now
    pub means : Means remaining s_faults before now most_items given f

  pub trace_stop : (by : ℕ) → by < workers → (trace : ℕ) (f : TraceFault) → ends by ≡ end.Trace trace f → IsStop trace f
  trace_stop by below trace f is =
      let stop = subst (Stopped remaining (shares by) (was by) (readings by) (places by) (stopped by)) is (run.stop by below) in
      let there : slice_get (shares by) (places by) ≡ Some trace = stop.1 ∙ ap Some (sym stop.0) in
      let at = read_at crew.read by (places by) trace below there in
      let of = at.4 in
      let why = of.read_is.caused of.begun.no_fault f (stop.3 at.0 at.2) in
      record {
        before = of.first.made;
        now = at.0.source;
        given = at.0.given;
        opened_is = of.begun.made_is;
        later_is = of.is;
        means = subst (λ n. Means remaining s_faults of.first.made at.0.source n at.0.given f) (of.read_is.limit_is ∙ of.begun.limit_is)
            (subst (λ (m : S). Means remaining s_faults m at.0.source at.0.limit at.0.given f) of.read_is.made_is why);
      }

  abbrev OpenPartly : (ℕ → ℕ → Type 0) → Type 0
  OpenPartly = AreOpenPartlyBehind (past crew) remaining s_faults files b_faults s workers opened were laters (mades_of firsts) (bays_of firsts) (bays_of backs)

  abbrev Shows : Status → Type 0
  Shows = StopShowsBehind (past crew) remaining s_faults files b_faults s workers opened were laters (mades_of firsts) (bays_of firsts) (bays_of backs)

  -- ---- the fault that is answered
  module _ (one : Status) (found : first_fault crew ≡ Some one) where
    pub of_ends : (by : ℕ) → by < workers → IsFirstOf one (end_fault (ends by))
    of_ends = each_of (λ by. end_fault (ends by)) workers one (of_two (earliest (λ by. end_fault (ends by)) workers) (earliest (fault_at backs) (length backs)) one found).1

    of_cone : (cone : ℕ) (c : IsCone cone) → IsFirstOf one (state_fault cone c.closed.state)
    of_cone cone c = subst (IsFirstOf one) (ap (fault_of cone) c.closed_is)
        (each_of (fault_at backs) (length backs) one (of_two (earliest (λ by. end_fault (ends by)) workers) (earliest (fault_at backs) (length backs)) one found).2
        cone (slice_get_within backs cone c.closed c.closed_is))

    rank_below : (cone : ℕ) (c : IsCone cone) (st : ConeState) → c.closed.state ≡ st → (other : Status) → state_fault cone st ≡ Some other → rank one ≤ rank other
    rank_below cone c st is other some = (of_cone cone c other (ap (state_fault cone) is ∙ some)).ranked

    -- a cone of which no fault was counted may take more, where it tells its files
    pub running_told : (cone : ℕ) (c : IsCone cone) → IsFaultless (b_faults c.first.made) (b_faults c.closed.bay) → (seen : Files) → files c.closed.bay ≡ Some
        seen →
        c.closed.state ≡ state.Running
    running_told cone c faultless seen told = by_state c.closed.state refl
      where
        by_state : (st : ConeState) → c.closed.state ≡ st → c.closed.state ≡ state.Running
        by_state state.Running is = is
        by_state state.Finished is = absurd (let over = sym c.back.unfinished ∙ ap is_finished is in cc)
        by_state state.BrokenByBay is = absurd (let rose = subst (λ (m : B). HasRisen (b_faults m) (b_faults c.closed.bay)) c.back.made_is (c.back.stands.by_bay is) in
            let up = rose faultless.below_last in let same = faultless.same in omega (arith, up, same))
        by_state (state.BrokenByRead file at) is = absurd (none-some seen (sym (c.back.stands.by_read file at is c.back.sound) ∙ told))

    -- each cone may take more, where a full cone is answered, or one whose weight is
    running_all : 6 ≤ rank one → (cone : ℕ) (c : IsCone cone) → c.closed.state ≡ state.Running
    running_all above cone c = by_state c.closed.state refl
      where
        by_state : (st : ConeState) → c.closed.state ≡ st → c.closed.state ≡ state.Running
        by_state state.Running is = is
        by_state state.Finished is = absurd (let over = sym c.back.unfinished ∙ ap is_finished is in cc)
        by_state state.BrokenByBay is = absurd (let low = rank_below cone c state.BrokenByBay is (status.BayFault cone) refl in omega (arith, above, low))
        by_state (state.BrokenByRead file at) is = absurd (let low = rank_below cone c (state.BrokenByRead file at) is (status.Malformed cone file at) refl in omega (arith, above, low))

    open_partly : (open_trace : ℕ → ℕ → Type 0)
        → ((cone trace : ℕ) → IsCone cone → open_trace cone trace → HasNoRest s trace (added cone (trace % workers))) →
        OpenPartly open_trace
    open_partly open_trace no_rest = record {
      traces = traces;
      items = are_items crew.read;
      woven = parts_woven;
      still = λ cone old now was_is is faultless seen told.
          let found = cone_of_bay cone now is in
          let c = found.0 in
          let first_is : old ≡ c.first.made = same_Some old c.first.made (sym was_is ∙ made_at firsts cone c.first c.first_is) in
          let here : IsFaultless (b_faults c.first.made) (b_faults c.closed.bay) =
          subst (λ (b : B). IsFaultless (b_faults b) (b_faults c.closed.bay)) first_is (subst (λ (b : B). IsFaultless (b_faults old) (b_faults b)) (sym found.1) faultless) in
          let seen_here = ap files found.1 ∙ told in
          let running = running_told cone c here seen seen_here in
          holds_open files leaves b_faults b_mark s workers some cone before traces shares reads stopped ends shared (added cone) (turned cone) c.left c.first c.closed c.back begun running
          open_trace
          (λ trace opens. no_rest_of files leaves b_faults b_mark s workers some cone before traces shares reads stopped ends shared (added cone) (turned cone) c.left c.first c.closed c.back
          begun trace (no_rest cone trace c opens)) seen seen_here;
    }

    module _ (by : ℕ) (below : by < workers) where
      -- no rest of the trace at which it stopped was handed out
      none_at : (e : WorkerEnd) → ends by ≡ e → (e ≢ end.Ran) → (cone trace : ℕ) (c : IsCone cone) → StillOpen e cone → trace ≡ stopped by → HasNoRest s trace (added cone (trace % workers))
      none_at e is ran cone trace c opens same =
          let here = (c.left by below).no_rest (subst (λ (w : WorkerEnd). StillOpen w cone) (sym is) opens) in
          let by_is : (stopped by) % workers ≡ by = worker_of by (places by) (stopped by) below (stop_place by below e is ran) in
          subst (λ t. HasNoRest s t (added cone (t % workers))) (sym same) (subst (λ n. HasNoRest s (stopped by) (added cone n)) (sym by_is) here)

      by_fault : (trace : ℕ) (f : TraceFault) → ends by ≡ end.Trace trace f →
          Shows (stop_status trace f)
      by_fault trace f is = shows f (trace_stop by below trace f is)
        where
          same : trace ≡ stopped by
          same = (subst (Stopped remaining (shares by) (was by) (readings by) (places by) (stopped by)) is (run.stop by below)).0

          opens : OpenPartly (λ _ other. other ≡ trace)
          opens = open_partly (λ _ other. other ≡ trace) (λ cone other c at. none_at (end.Trace trace f) is (λ e. absurd (let clash = e in cc)) cone other c tt (at ∙ same))

          bad : {f : TraceFault} (at : ℕ) (stop : IsStop trace f) → ((bytes : List ℕ) → remaining stop.before ≡ Some bytes → left bytes ≡ Some at) → Shows (status.BadTrace trace at)
          bad at stop told = StopShowsBehind.bad_trace trace at (record { before = stop.before; was = stop.opened_is; told = told }) opens

          shows : (f : TraceFault) → IsStop trace f → Shows (stop_status trace f)
          shows trace_fault.ReadFailed stop = StopShowsBehind.trace_fault trace (record { before = stop.before; now = stop.now; was = stop.opened_is; is = stop.later_is; rose = stop.means }) opens
          shows (trace_fault.BadHeader at) stop = bad at stop (λ bytes told. (stop.means.1 bytes told).place)
          shows (trace_fault.CutKey at) stop = bad at stop (λ bytes told. (stop.means.1 bytes told).leaves.place)
          shows (trace_fault.ZeroWeight at) stop = bad at stop (λ bytes told. (stop.means.1 bytes told).leaves.place)
          shows trace_fault.TooLong stop = StopShowsBehind.too_long trace (record { before = stop.before; was = stop.opened_is; told = stop.means.1 }) opens

      -- a cone that refused a packet by its rule
      module _ (cone : ℕ) (f : ConeFault) (is : ends by ≡ end.Cone cone f) (above : 6 ≤ rank one) where
        c : IsCone cone
        c = cone_at cone (left_by.named by cone f below is)

        e : (e : Packet) × (turned cone by ≡ (e, f) ∷ [])
        e = was_turned s by cone (shares by) (reads by) (stopped by) (ends by) (added cone by) (turned cone by) (c.left by below) cone f is refl

        has : Contains (turned cone by) (e.0, f)
        has = subst (λ (xs : List (Packet × ConeFault)). Contains xs (e.0, f)) (sym e.1) (item_here (e.0, f) [])

        full : IsFullAt s (before cone) c.back.history e.0 f
        full = elim (c.back.refusals by below e.0 f has) [ inl broke ↦ absurd (broke (running_all above cone c)) | inr refused ↦ refused ]

        abbrev had : List Item
        had = events_of (before cone ++ full.past)

        abbrev refused : List Item
        refused = e.0.items

        opens : OpenPartly (λ other t. (cone ≤ other) × (t ≡ stopped by))
        opens = open_partly (λ other t. (cone ≤ other) × (t ≡ stopped by)) (λ other trace c at. none_at (end.Cone cone f) is (λ e. absurd (let clash = e in cc)) other trace c at.0 at.1)

        named : cone < 2 ^ s.cone_bits
        named = subst (λ k. cone < k) left_by.cones_are (left_by.named by cone f below is)

        own_e : IsOwn s by (shares by) e.0
        own_e = All-contains (IsOwn s by (shares by)) (added cone by ++ e.0 ∷ []) e.0
            (turned_part s by cone (shares by) (reads by) (stopped by) (ends by) (added cone by) (turned cone by) (c.left by below) e.0 f e.1).each (Contains-push (added cone by) e.0)

        -- what is so of its files, where its bay tells them
        held : (P : Files → Type 0) → IfTold (files c.closed.bay) P → IfHeld files (bays_of backs) cone P
        held P so = λ bay there seen told.
            let bay_is = same_Some c.closed.bay bay (sym (bay_at backs cone c.closed c.closed_is) ∙ there) in
            so seen (ap files bay_is ∙ told)

        by_capacity : IsOverCapacity s had refused f → Shows (status.CapacityFull cone (length had) (length refused))
        by_capacity rule = StopShowsBehind.capacity_full cone (length had) (length refused) (record {
          named = named;
          some = own_e.some;
          few = own_e.few;
          over = rule.over;
          journal = held (HoldsItems s (length had) cone) (holds_first files leaves b_faults b_mark s workers some cone before traces shares reads stopped ends shared (added cone) (turned cone)
              c.left c.first c.closed c.back begun (λ items. length items ≡ length had) e.0 f full (running_all above cone c) refl);
        }) (record {
          traces = traces;
          items = are_items crew.read;
          enough = enough files leaves b_faults b_mark s workers some cone before traces shares reads stopped ends shared (added cone) (turned cone) c.left c.first c.closed c.back begun
              (λ items. length items) length_adds by below e.0 f has full;
        }) (stopped by) opens

        by_weight : IsOverWeight s had refused f → Shows (status.WeightFull cone (weight_of weighed had) (weight_of weighed refused))
        by_weight rule = StopShowsBehind.weight_full cone (weight_of weighed had) (weight_of weighed refused) (record {
          named = named;
          some = let w = weighs.0 in let n = own_e.some in omega (arith, w, n);
          few = let w = weighs.1 in let n = own_e.few in omega (arith, w, n);
          over = rule.over;
          journal = held (HoldsWeight s (weight_of weighed had) cone) (holds_first files leaves b_faults b_mark s workers some cone before traces shares reads stopped ends shared (added cone)
              (turned cone) c.left c.first c.closed c.back begun (λ items. weight_of weighed items ≡ weight_of weighed had) e.0 f full (running_all above cone c) refl);
        }) (record {
          traces = traces;
          items = are_items crew.read;
          enough = enough files leaves b_faults b_mark s workers some cone before traces shares reads stopped ends shared (added cone) (turned cone) c.left c.first c.closed c.back begun
              (weight_of weighed) weight_adds by below e.0 f has full;
        }) (stopped by) opens
          where
            -- as many items of the second version weigh so much
            weighs : (length refused ≤ weight_of weighed refused) × (weight_of weighed refused ≤ 255 * length refused)
            weighs = weight_within 2 refused own_e.weights

        by_refusal : full_fault cone f ≡ Some one → Shows one
        by_refusal same = elim (by_rule s had refused f full.refused) [
          | inl rule ↦ subst Shows (same_Some (status.CapacityFull cone (length had) (length refused)) one (sym (ap (full_fault cone) rule.fault_is) ∙ same)) (by_capacity rule)
          | inr rule ↦ subst Shows (same_Some (status.WeightFull cone (weight_of weighed had) (weight_of weighed refused)) one (sym (ap (full_fault cone) rule.fault_is) ∙ same)) (by_weight rule)
        ]

      by_end : (e : WorkerEnd) → ends by ≡ e → end_fault e ≡ Some one → Shows one
      by_end end.Ran is none = absurd (none-some one none)
      by_end (end.Trace trace f) is same =
          subst Shows (same_Some (stop_status trace f) one same) (by_fault trace f is)
      by_end (end.Cone cone f) is same =
          by_refusal cone f is (full_ranks cone f one same) same

    -- a cone broke: which traces were still open isn't said
    open_broken : OpenPartly (λ _ _. ⊥)
    open_broken = open_partly (λ _ _. ⊥) (λ cone trace c none. absurd none)

    by_state : (cone : ℕ) (c : IsCone cone) (st : ConeState) → c.closed.state ≡ st → state_fault cone st ≡ Some one →
        Shows one
    by_state cone c state.Running is none = absurd (none-some one none)
    by_state cone c state.Finished is none = absurd (none-some one none)
    by_state cone c state.BrokenByBay is some =
        subst Shows (same_Some (status.BayFault cone) one some) (StopShowsBehind.bay_fault cone (record {
          before = c.first.made;
          now = c.closed.bay;
          was = made_at firsts cone c.first c.first_is;
          is = bay_at backs cone c.closed c.closed_is;
          rose = subst (λ (m : B). HasRisen (b_faults m) (b_faults c.closed.bay)) c.back.made_is (c.back.stands.by_bay is);
        }) open_broken)
    by_state cone c (state.BrokenByRead file at) is some =
        subst Shows (same_Some (status.Malformed cone file at) one some) (StopShowsBehind.malformed cone file at
        (untold_since files b_faults b_mark (mades_of firsts) (bays_of backs) cone bays_later (record {
          named = slice_get_within (bays_of backs) cone c.closed.bay (bay_at backs cone c.closed c.closed_is);
          untold = λ bay there seen told.
              let bay_is = same_Some c.closed.bay bay (sym (bay_at backs cone c.closed c.closed_is) ∙ there) in
              none-some seen (sym (c.back.stands.by_read file at is c.back.sound) ∙ (ap files bay_is ∙ told));
        })) open_broken)

    -- all that the answer shows
    pub stop_shows : Shows one
    stop_shows = by_origin (of_two (earliest (λ by. end_fault (ends by)) workers) (earliest (fault_at backs) (length backs)) one found).0
      where
        by_origin : (earliest (λ by. end_fault (ends by)) workers ≡ Some one) ⊎ (earliest (fault_at backs) (length backs) ≡ Some one) →
            Shows one
        by_origin (inl of_end) = let first = of_all (λ by. end_fault (ends by)) workers one of_end in by_end first.place first.below (ends first.place) refl first.is
        by_origin (inr of_state) =
            let first = of_all (fault_at backs) (length backs) one of_state in
            let c = cone_at first.place (let n = left_by.number in let below = first.below in omega (arith, n, below)) in
            by_state first.place c c.closed.state refl (sym (ap (fault_of first.place) c.closed_is) ∙ first.is)
