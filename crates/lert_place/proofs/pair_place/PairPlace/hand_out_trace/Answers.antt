use Rattle.std.proofs.{lemmas.List.length_push, Common.{◌+◌, inl, inr, arith, refl, sym, ap, ◌∙◌, ◌++◌, ◌∷◌, [], length}}
use Rattle.lert_place.proofs.Handing.{counted, faultless}
use Rattle.lert_place.proofs.pair_place.PairPlace.hand_out_trace.Goals as goal

pub invariant_of-self : goal.invariant_of-self
invariant_of-self c =
    let now = c.args.self.now in
    let kept = c.refuse.ensures in
    record {
      counted = now.counted ∙ ap length (sym kept.traces);
      few = now.few;
      few_bays = rw kept.bays now.few_bays;
      one_bay = rw kept.bays now.one_bay;
    }

pub returns-then-self-eq2 : goal.returns-then-self-eq2
returns-then-self-eq2 c =
    let now = c.args.self.now in
    let kept = c.refuse.ensures in
    record {
      next = tt;
      none = inr (sym now.counted ∙ c.if-self-eq2.true);
      asked = kept.asked ∙ ap (λ o. now.handed.asked ++ o ∷ []) c.of_trace.ensures;
      handed = tt;
      still = kept.traces;
      bays = kept.bays;
      first_back = refl;
      second_back = refl;
      bay_back = refl;
      bay = refl;
      no_fault = tt;
      failed = c.saturating_add-self.ensures;
      cause = counted now.faults c.saturating_add-self.result _ (omega arith) c.saturating_add-self.ensures;
    }

pub invariant_of-self-in_default : goal.invariant_of-self-in_default
invariant_of-self-in_default c =
    let now = c.args.self.now in
    let kept = c.refuse-in_default.ensures in
    record {
      counted = now.counted ∙ ap length (sym kept.traces);
      few = now.few;
      few_bays = rw kept.bays now.few_bays;
      one_bay = rw kept.bays now.one_bay;
    }

pub returns-in_default : goal.returns-in_default
returns-in_default c =
    let now = c.args.self.now in
    let kept = c.refuse-in_default.ensures in
    let added = c.saturating_add-self-in_default in
    record {
      next = tt;
      none = inl c.in_default.ensures;
      asked = kept.asked ∙ ap (λ o. now.handed.asked ++ o ∷ []) c.of_trace-in_default.ensures;
      handed = tt;
      still = kept.traces;
      bays = kept.bays;
      first_back = refl;
      second_back = refl;
      bay_back = refl;
      bay = refl;
      no_fault = tt;
      failed = added.ensures;
      cause = counted now.faults added.result _ (omega arith) added.ensures;
    }

pub invariant_of-self-2 : goal.invariant_of-self-2
invariant_of-self-2 c =
    let now = c.args.self.now in
    let kept = c.hand_out_trace.ensures in
    record {
      counted = ap (λ n. n + 1) now.counted ∙ sym (length_push now.handed.traces _) ∙ sym (ap length kept.traces);
      few = omega (arith, now.few, c.if-self-eq2.false);
      few_bays = rw kept.bays now.few_bays;
      one_bay = rw kept.bays now.one_bay;
    }

pub returns : goal.returns
returns c =
    let now = c.args.self.now in
    let kept = c.hand_out_trace.ensures in
    record {
      next = (c.in-Some.trace, c.in-Some.ensures, c.marked-trace.ensures ∙ ap (λ n. record c.in-Some.trace { mark = n }) (c.from.ensures ∙ now.counted));
      none = tt;
      asked = kept.asked;
      handed = kept.traces;
      still = tt;
      bays = kept.bays;
      first_back = refl;
      second_back = refl;
      bay_back = refl;
      bay = refl;
      no_fault = refl;
      failed = tt;
      cause = faultless now.faults now.faults _ refl;
    }

pub overflow_add-self : goal.overflow_add-self
overflow_add-self c = omega (arith, c.args.self.now.few)
