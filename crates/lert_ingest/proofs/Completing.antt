-- A crew of workers that read all, and the exact answers of one that didn't.
use Rattle.std.proofs.Common.{◌≡◌, ◌≢◌, ◌⊎◌, ℕ, ◌+◌, ◌++◌, ◌%◌, ◌<◌, ◌≤◌, List, [], ◌∷◌, length, Some, None, slice_get, refl, ap, sym, ◌∙◌, subst, inl, inr, arith}
use Rattle.std.proofs.lemmas.Option.{none-some, same_Some, slice_get_within}
use Rattle.std.specs.Prelude.{Contains}
use Rattle.lert_base.specs.{Packet.{Packet, events_of}, declared.cone_fault.ConeFault.ConeFault}
use Rattle.lert_cone.specs.{Stands.{Standing, is_finished}, declared.state.ConeState.ConeState}
use Rattle.lert_cone.specs.declared.state.ConeState.TheVariants as state
use Rattle.lert_conelock.proofs.Contained.{item_here}
use Rattle.lert_spec.specs.{Counts.{weighed, weight_of}, Edges.weight_room, declared.item.Item.Item}
use Rattle.lert_trace.specs.Reader.{Reading}
use Rattle.lert_worker.specs.{Ends.{IsAtEnd, Stopped}, declared.end.WorkerEnd.WorkerEnd}
use Rattle.lert_worker.specs.declared.end.WorkerEnd.TheVariants as end
use Rattle.lert_worker.proofs.crew.Weaving.{was_turned}
use Rattle.lert_ingest.specs.{Back.{IsBack, IsFullAt}, Faults.{earliest, end_fault, fault_at, fault_of, full_fault, state_fault}, Stops.{AreTakenBehind, AreWeavingBehind}}
use Rattle.lert_ingest.specs.{Bays.bays_of, Traces.part_weight}
use Rattle.lert_bay.specs.Files.{IfTold}
use Rattle.lert_ingest.specs.Traces.{AreReadToEnd, AreRestsOf, AreTracesLater}
use Rattle.lert_ingest.specs.declared.status.Status.TheVariants as status
use Rattle.lert_ingest.proofs.{BayLaws.slice_get-some, Crewed.{Crewed, IsTraceRead, as_many, first_fault, past, read_at, were_number}}
use Rattle.lert_ingest.proofs.{FaultOrder.{all_none, of_two_none}, Holding.{is_weaving, weaving_fits, weaving_light}}
use Rattle.lert_ingest.proofs.{Judging.{IsCone, cone_at, cone_of_bay, shared, traces}, RuleLaws.by_rule, Told.{all_whole, are_items, named, there_is}}

module _ {S B : Type 0} (crew : Crewed S B) where
  open crew.read use {remaining, s_faults, s_mark, workers, some, opened, given, were, laters, shares, reads, was, readings, places, stopped, ends, run}
  open crew use {files, leaves, b_faults, b_mark, s, before, firsts, backs, added, turned, left_by}

  -- a trace as its reader left it
  read_of : (trace : ℕ) → trace < length opened → (now : Reading S) × (read : List Item) × (place : ℕ) × (slice_get (readings (trace % workers)) place ≡ Some now)
      × IsTraceRead crew.read trace now read
  read_of trace below =
      let there = there_is crew.read trace below in
      let at = read_at crew.read (trace % workers) there.0 trace (named crew.read trace) there.1 in
      (at.0, at.1, there.0, at.2, at.4)

  pub traces_later : AreTracesLater s_faults s_mark were laters
  traces_later = record {
    number = as_many crew.read ∙ sym (were_number crew.read);
    each = λ trace old now was_is is.
        let at = read_of trace (let w = slice_get_within were trace old was_is in let n = were_number crew.read in omega (arith, w, n)) in
        let first = same_Some at.4.first.source old (sym at.4.was ∙ was_is) in
        let last = same_Some at.0.source now (sym at.4.is ∙ is) in
        record {
          marked = ap s_mark (sym last) ∙ (at.4.read_is.marked ∙ ap s_mark first);
          never_falls = (let falls = at.4.read_is.never_falls in let a = ap s_faults first in let b = ap s_faults last in omega (arith, falls, a, b));
        };
  }

  -- ---- none failed
  module _ (found : first_fault crew ≡ None) where
    no_end_fault : (by : ℕ) → by < workers → end_fault (ends by) ≡ None
    no_end_fault = all_none (λ by. end_fault (ends by)) workers (of_two_none (earliest (λ by. end_fault (ends by)) workers) (earliest (fault_at backs) (length backs)) found).0

    all_run : (number : ℕ) (first closed : Standing B) → slice_get firsts number ≡ Some first → slice_get backs number ≡ Some closed → closed.state ≡ state.Running
    all_run number first closed first_is is = by_state closed.state refl
      where
        none : fault_at backs number ≡ None
        none = all_none (fault_at backs) (length backs) (of_two_none (earliest (λ by. end_fault (ends by)) workers) (earliest (fault_at backs) (length backs)) found).1 number
            (slice_get_within backs number closed is)

        here : state_fault number closed.state ≡ None
        here = sym (ap (fault_of number) is) ∙ none

        back : IsBack files leaves b_faults b_mark s workers number (before number) (added number) (turned number) first closed
        back = left_by.each number first closed first_is is

        by_state : (st : ConeState) → closed.state ≡ st → closed.state ≡ state.Running
        by_state state.Running same = same
        by_state state.Finished same = absurd (let over = sym back.unfinished ∙ ap is_finished same in cc)
        by_state state.BrokenByBay same = absurd (none-some (status.BayFault number) (sym here ∙ ap (state_fault number) same))
        by_state (state.BrokenByRead file at) same = absurd (none-some (status.Malformed number file at) (sym here ∙ ap (state_fault number) same))

    all_ran : (by : ℕ) → by < workers → ends by ≡ end.Ran
    all_ran by below = by_end (ends by) refl
      where
        by_end : (e : WorkerEnd) → ends by ≡ e → ends by ≡ end.Ran
        by_end end.Ran is = is
        by_end (end.Trace trace f) is = absurd (none-some _ (sym (no_end_fault by below) ∙ ap end_fault is))
        by_end (end.Cone cone f) is = absurd (by_refusal (c.back.refusals by below e.0 f has))
          where
            c : IsCone crew cone
            c = cone_at crew cone (left_by.named by cone f below is)

            e : (e : Packet) × (turned cone by ≡ (e, f) ∷ [])
            e = was_turned s by cone (shares by) (reads by) (stopped by) (ends by) (added cone by) (turned cone by) (c.left by below) cone f is refl

            has : Contains (turned cone by) (e.0, f)
            has = subst (λ (xs : List (Packet × ConeFault)). Contains xs (e.0, f)) (sym e.1) (item_here (e.0, f) [])

            by_refusal : (c.closed.state ≢ state.Running) ⊎ IsFullAt s (before cone) c.back.history e.0 f → ⊥
            by_refusal (inl broke) = broke (all_run cone c.first c.closed c.first_is c.closed_is)
            by_refusal (inr full) = elim (by_rule s (events_of (before cone ++ full.past)) e.0.items f full.refused) [
              | inl rule ↦ none-some (status.CapacityFull cone (length (events_of (before cone ++ full.past))) (length e.0.items))
                  (sym (no_end_fault by below) ∙ (ap end_fault is ∙ ap (full_fault cone) rule.fault_is))
              | inr rule ↦ none-some (status.WeightFull cone (weight_of weighed (events_of (before cone ++ full.past))) (weight_of weighed e.0.items))
                  (sym (no_end_fault by below) ∙ (ap end_fault is ∙ ap (full_fault cone) rule.fault_is))
            ]

    at_ends : (by place : ℕ) (now : Reading S) → by < workers → slice_get (readings by) place ≡ Some now → IsAtEnd remaining now
    at_ends by place now below is = (subst (Stopped remaining (shares by) (was by) (readings by) (places by) (stopped by)) (all_ran by below) (run.stop by below)) place now is

    pub items_are : AreRestsOf remaining given opened (traces crew)
    items_are = are_items crew.read

    pub read_to_end : AreReadToEnd remaining opened laters
    read_to_end = λ trace old now was_is is bytes told.
        let at = read_of trace (slice_get_within opened trace old was_is) in
        let first = same_Some at.4.first.made old (sym at.4.begun.made_is ∙ was_is) in
        let last = same_Some at.0.source now (sym at.4.is ∙ is) in
        let at_end = at_ends (trace % workers) at.2 at.0 (named crew.read trace) at.3 in
        let made : remaining at.0.made ≡ Some bytes = ap remaining (at.4.read_is.made_is ∙ first) ∙ told in
        let of = at_end.told bytes made in
        let all = of.all_given in
        let limit = at.4.read_is.limit_is ∙ at.4.begun.limit_is in
        let before_limit = at.4.begun.limit_is in
        let few = at.4.begun.within in
        let within = at.4.read_is.within (omega (arith, few, before_limit)) in
        record {
          well_formed = of.well_formed;
          few = omega (arith, all, limit, within);
          read = ap remaining (sym last) ∙ at_end.read bytes made;
        }

    pub are_weaving : AreWeavingBehind before files leaves b_faults s workers (traces crew) backs
    are_weaving = λ number closed is.
        let first = slice_get-some firsts number (let within = slice_get_within backs number closed is in let n = left_by.number in omega (arith, within, n)) in
        is_weaving files leaves b_faults b_mark s workers some number before (traces crew) shares reads stopped ends (shared crew) (added number) (turned number)
        (λ by below. left_by.left number by (slice_get_within firsts number first.0 first.1) below) first.0 closed (left_by.each number first.0 closed first.1 is)
        (all_whole crew.read at_ends) all_ran (all_run number first.0 closed first.1 is)

    pub all_fit : AreTakenBehind (past crew) files s (traces crew) (bays_of backs)
    all_fit number bay is =
        let cone = cone_of_bay crew number bay is in
        let closed = cone.0.closed in
        let weaving = are_weaving number closed cone.0.closed_is in (
          weaving_fits before files leaves b_faults s workers number (traces crew) closed weaving,
          subst (λ (b : B). IfTold (files b) (λ _. weight_of weighed (events_of (before number)) + part_weight s number (traces crew) ≤ weight_room s)) cone.1
              (weaving_light before files leaves b_faults s workers number (traces crew) closed weaving),
        )
