use Rattle.std.proofs.Common.{◌≡◌, ℕ, ◌<◌, ◌≤◌, List, refl, append-nil, ◌++◌, ◌∷◌, [], length, slice_get, ap, sym, ◌∙◌, arith, append_assoc, length-append}
use Rattle.lert_ingest.proofs.BayLaws.{put_one, slice_get-seam}
use Rattle.lert_top.proofs.runs.traces.put_back_traces.Goals as goal

-- the last that is left is one of those that were handed out
number_below : {X T : Type 0} (left done items : List X) (last : X) (handed : List T) (number : ℕ) → left ++ last ∷ done ≡ items → number ≡ length left →
    length items ≡ length handed → number < length handed
number_below left done items last handed number split is same = omega (arith, length-append left (last ∷ done), ap length split, is, same)

none_left : (len number place : ℕ) → len ≡ number → len ≡ 0 → number ≤ place
none_left len number place is none = omega (arith, is, none)

pub loop-trace-preserved : goal.loop-trace-preserved
loop-trace-preserved g c =
    let here = c.loop-trace.invariant in
    let left = c.pop_back.new.self.items in
    let trace = c.in-Some.trace in
    let split = sym (append_assoc left (trace ∷ []) here.split.0) ∙ (ap (λ xs. xs ++ here.split.0) (sym c.in-Some.ensures.items) ∙ here.split.1) in
    let shorter = ap length c.in-Some.ensures.items ∙ length-append left (trace ∷ []) in
    record {
      split = (trace ∷ here.split.0, split);
      returned = put_one c.args.traces.items left here.split.0 trace _ (g.P.Place.returned_trace c.loop-trace.place) (g.P.Place.returned_trace c.put_back_trace.new.self) split
          c.put_back_trace.ensures.returned c.put_back_trace.ensures.others (c.len.ensures ∙ c.pop_back.new.self.ok.0) (λ cone above below. here.returned cone (omega (arith, above, shorter)) below);
      returned_bays = λ number. c.put_back_trace.ensures.returned_bays number ∙ here.returned_bays number;
      asked = c.put_back_trace.ensures.asked ∙ here.asked;
      traces = c.put_back_trace.ensures.traces ∙ here.traces;
      bays = c.put_back_trace.ensures.bays ∙ here.bays;
      faults = c.put_back_trace.ensures.faults ∙ here.faults;
    }

pub loop-trace-init : goal.loop-trace-init
loop-trace-init g c = record {
  split = ([], append-nil c.args.traces.items);
  returned = λ cone above below. absurd (omega (arith, above, below));
  returned_bays = λ number. refl;
  asked = refl;
  traces = refl;
  bays = refl;
  faults = refl;
}

pub returns : goal.returns
returns g c = record {
  returned = λ number below.
      c.loop-trace.invariant.returned number (none_left c.loop-trace.traces.len (length c.loop-trace.traces.items) number c.loop-trace.traces.ok.0 c.in_default.ensures.cases.0) below;
  returned_bays = c.loop-trace.invariant.returned_bays;
  asked = c.loop-trace.invariant.asked;
  traces = c.loop-trace.invariant.traces;
  bays = c.loop-trace.invariant.bays;
  faults = c.loop-trace.invariant.faults;
}

pub put_back_trace-requires : goal.put_back_trace-requires
put_back_trace-requires g c =
    let here = c.loop-trace.invariant in
    let left = c.pop_back.new.self.items in
    let trace = c.in-Some.trace in
    let split = sym (append_assoc left (trace ∷ []) here.split.0) ∙ (ap (λ xs. xs ++ here.split.0) (sym c.in-Some.ensures.items) ∙ here.split.1) in
    record {
      handed =
          number_below left here.split.0 c.args.traces.items trace (g.P.Place.handed_traces c.loop-trace.place) c.len.result split (c.len.ensures ∙ c.pop_back.new.self.ok.0)
          (c.requires.handed ∙ ap length (sym here.traces));
      marked =
          c.requires.marked (length left) trace (ap (λ xs. slice_get xs (length left)) (sym split) ∙ slice_get-seam left trace here.split.0)
          ∙ sym (c.len.ensures ∙ c.pop_back.new.self.ok.0);
    }
