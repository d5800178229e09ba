use Rattle.std.proofs.Common.{refl, sym, ap, ◌∙◌, ◌++◌, ◌∷◌, [], length, arith}
use Rattle.lert_place.proofs.Handing.{counted, faultless, none_yet}
use Rattle.lert_place.proofs.pair_place.PairPlace.hand_out_bay.Goals as goal

pub invariant_of-self : goal.invariant_of-self
invariant_of-self c =
    let now = c.args.self.now in
    let kept = c.refuse.ensures in
    record {
      counted = now.counted ∙ ap length (sym kept.traces);
      few = now.few;
      few_bays = rw kept.bays now.few_bays;
      one_bay = λ _. c.take.ensures.after;
    }

pub returns-in_default : goal.returns-in_default
returns-in_default c =
    let now = c.args.self.now in
    let kept = c.refuse.ensures in
    record {
      next = tt;
      none = sym c.take.ensures.value ∙ c.in_default.is;
      asked = kept.asked ∙ ap (λ o. now.handed.asked ++ o ∷ []) c.of_bay.ensures;
      first_one = tt;
      handed = tt;
      still = kept.bays;
      traces = kept.traces;
      first_back = refl;
      second_back = refl;
      bay_back = refl;
      no_fault = tt;
      failed = c.saturating_add-self.ensures;
      cause = counted now.faults c.saturating_add-self.result _ (omega arith) c.saturating_add-self.ensures;
    }

pub invariant_of-self-2 : goal.invariant_of-self-2
invariant_of-self-2 c =
    let now = c.args.self.now in
    let kept = c.hand_out_bay.ensures in
    let had = sym c.take.ensures.value ∙ c.in-Some.is in
    let first_one = none_yet now.handed.bays now.bay c.in-Some.bay now.one_bay had in
    record {
      counted = now.counted ∙ ap length (sym kept.traces);
      few = now.few;
      few_bays = rw (kept.bays, first_one) (omega arith);
      one_bay = λ _. c.take.ensures.after;
    }

pub returns : goal.returns
returns c =
    let now = c.args.self.now in
    let kept = c.hand_out_bay.ensures in
    let had = sym c.take.ensures.value ∙ c.in-Some.is in
    let first_one = none_yet now.handed.bays now.bay c.in-Some.bay now.one_bay had in
    record {
      next = (c.in-Some.bay, had, c.take.ensures.after, c.marked-bay.ensures);
      none = tt;
      asked = kept.asked;
      first_one = first_one;
      handed = kept.bays;
      still = tt;
      traces = kept.traces;
      first_back = refl;
      second_back = refl;
      bay_back = refl;
      no_fault = refl;
      failed = tt;
      cause = faultless now.faults now.faults _ refl;
    }
