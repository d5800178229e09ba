use Rattle.std.proofs.Common.{◌+◌, ◌≤◌, ◌++◌, ◌∷◌, [], None, true, min, refl, sym, ap, subst, ◌∙◌}
use Rattle.lert_place.proofs.Handing.{at_ok, at_err, faultless, others}
use Rattle.lert_place.specs.{Kept.Shelf, declared.opening.Wanted.TheVariants.Trace}
use Rattle.lert_io.specs.Fault.{HasRisen, last_count}
use Rattle.lert_place.proofs.mem_place.MemPlace.hand_out_trace.Goals as goal

pub same-self : goal.same-self
same-self c = refl

pub same-trace : goal.same-trace
same-trace c = refl

pub refuse-requires : goal.refuse-requires
refuse-requires c = ap (λ o. o.opened) c.of_trace.ensures

pub refuse-requires-then-is_err : goal.refuse-requires-then-is_err
refuse-requires-then-is_err c = ap (λ o. o.opened) c.of_trace-then-is_err.ensures

pub returns-in_default : goal.returns-in_default
returns-in_default c =
    let now = c.args.self.now in
    let refused = c.refuse.ensures in
    let failed = ap (λ (s : Shelf). s.faults) refused.refused in
    record {
      copy = tt;
      asked = refused.asked ∙ ap (λ o. now.ledger.asked ++ o ∷ []) c.of_trace.ensures;
      handed = tt;
      still = refused.traces;
      others = others now c.refuse.new.self _ refused.refused;
      bays = refused.bays;
      no_fault = tt;
      failed = failed;
      cause = record { never_falls = refused.never_falls; failed = λ _. refused.counted };
    }

pub returns-then-is_err : goal.returns-then-is_err
returns-then-is_err c =
    let now = c.args.self.now in
    let refused = c.refuse-then-is_err.ensures in
    let out = c.hand_out_trace.ensures in
    let inside = c.self.view_is in
    let new = c.refuse-then-is_err.new.self in
    let changed = refused.refused ∙ ap (λ (s : Shelf). record s { ledger = new.ledger; faults = min (s.faults + 1) last_count }) inside in
    let is_err = sym c.is_err.ensures.value ∙ c.if-is_err.true in
    let asked = at_err c.hand_out_trace.result is_err out.asked_still ∙ ap (λ (s : Shelf). s.ledger.asked) inside in
    let traces = at_err c.hand_out_trace.result is_err out.traces_still ∙ ap (λ (s : Shelf). s.ledger.traces) inside in
    record {
      copy = tt;
      asked = refused.asked ∙ ap (λ asked. asked ++ c.of_trace-then-is_err.result ∷ []) asked ∙ ap (λ o. now.ledger.asked ++ o ∷ []) c.of_trace-then-is_err.ensures;
      handed = tt;
      still = refused.traces ∙ traces;
      others = others now new _ changed;
      bays = refused.bays ∙ out.bays ∙ ap (λ (s : Shelf). s.ledger.bays) inside;
      no_fault = tt;
      failed = ap (λ (s : Shelf). s.faults) changed;
      cause = record {
        never_falls = subst (λ (s : Shelf). s.faults ≤ new.faults) inside refused.never_falls;
        failed = λ _. subst (λ (s : Shelf). HasRisen s.faults new.faults) inside refused.counted;
      };
    }

pub returns : goal.returns
returns c =
    let now = c.args.self.now in
    let out = c.hand_out_trace.ensures in
    let inside = c.self.view_is in
    let is_ok = sym c.is_err.ensures.value ∙ c.if-is_err.false in
    record {
      copy = c.in-Some.ensures;
      asked = at_ok c.hand_out_trace.result is_ok out.asked
          ∙ ap (λ (s : Shelf). s.ledger.asked ++ record { wanted = Trace c.args.name.now; opened = true } ∷ []) inside;
      handed = at_ok c.hand_out_trace.result is_ok out.traces ∙ ap (λ (s : Shelf). record {
        handed = s.ledger.traces.handed ++ c.in-Some.trace ∷ [];
        returned = s.ledger.traces.returned ++ None ∷ [];
      }) inside;
      still = tt;
      others = ap (λ (s : Shelf). record s { ledger = c.hand_out_trace.new.self; faults = c.self.inside.faults }) inside;
      bays = out.bays ∙ ap (λ (s : Shelf). s.ledger.bays) inside;
      no_fault = ap (λ (s : Shelf). s.faults) inside;
      failed = tt;
      cause = faultless now.faults _ _ (ap (λ (s : Shelf). s.faults) inside);
    }
