use Rattle.std.proofs.Common.{◌≡◌, ℕ, ◌<◌, ◌≤◌, List, refl, append-nil, ◌++◌, ◌∷◌, [], length, slice_get, ap, sym, ◌∙◌, arith, append_assoc, length-append}
use Rattle.lert_ingest.proofs.BayLaws.{put_one, slice_get-seam}
use Rattle.lert_top.proofs.cones.bays.put_back_bays.Goals as goal

-- the last that is left is one of those that were handed out
number_below : {X T : Type 0} (left done items : List X) (last : X) (handed : List T) (number : ℕ) → left ++ last ∷ done ≡ items → number ≡ length left →
    length items ≡ length handed → number < length handed
number_below left done items last handed number split is same = omega (arith, length-append left (last ∷ done), ap length split, is, same)

none_left : (len number place : ℕ) → len ≡ number → len ≡ 0 → number ≤ place
none_left len number place is none = omega (arith, is, none)

pub loop-bay-preserved : goal.loop-bay-preserved
loop-bay-preserved g c =
    let here = c.loop-bay.invariant in
    let left = c.pop_back.new.self.items in
    let bay = c.in-Some.bay in
    let split = sym (append_assoc left (bay ∷ []) here.split.0) ∙ (ap (λ xs. xs ++ here.split.0) (sym c.in-Some.ensures.items) ∙ here.split.1) in
    let shorter = ap length c.in-Some.ensures.items ∙ length-append left (bay ∷ []) in
    record {
      split = (bay ∷ here.split.0, split);
      returned = put_one c.args.bays.items left here.split.0 bay _ (g.P.Place.returned_bay c.loop-bay.place) (g.P.Place.returned_bay c.put_back_bay.new.self) split
          c.put_back_bay.ensures.returned c.put_back_bay.ensures.others (c.len.ensures ∙ c.pop_back.new.self.ok.0) (λ cone above below. here.returned cone (omega (arith, above, shorter)) below);
      returned_traces = λ number. c.put_back_bay.ensures.returned_traces number ∙ here.returned_traces number;
      asked = c.put_back_bay.ensures.asked ∙ here.asked;
      traces = c.put_back_bay.ensures.traces ∙ here.traces;
      bays = c.put_back_bay.ensures.bays ∙ here.bays;
      faults = c.put_back_bay.ensures.faults ∙ here.faults;
    }

pub loop-bay-init : goal.loop-bay-init
loop-bay-init g c = record {
  split = ([], append-nil c.args.bays.items);
  returned = λ cone above below. absurd (omega (arith, above, below));
  returned_traces = λ number. refl;
  asked = refl;
  traces = refl;
  bays = refl;
  faults = refl;
}

pub returns : goal.returns
returns g c = record {
  returned = λ number below.
      c.loop-bay.invariant.returned number (none_left c.loop-bay.bays.len (length c.loop-bay.bays.items) number c.loop-bay.bays.ok.0 c.in_default.ensures.cases.0) below;
  returned_traces = c.loop-bay.invariant.returned_traces;
  asked = c.loop-bay.invariant.asked;
  traces = c.loop-bay.invariant.traces;
  bays = c.loop-bay.invariant.bays;
  faults = c.loop-bay.invariant.faults;
}

pub put_back_bay-requires : goal.put_back_bay-requires
put_back_bay-requires g c =
    let here = c.loop-bay.invariant in
    let left = c.pop_back.new.self.items in
    let bay = c.in-Some.bay in
    let split = sym (append_assoc left (bay ∷ []) here.split.0) ∙ (ap (λ xs. xs ++ here.split.0) (sym c.in-Some.ensures.items) ∙ here.split.1) in
    record {
      handed =
          number_below left here.split.0 c.args.bays.items bay (g.P.Place.handed_bays c.loop-bay.place) c.len.result split (c.len.ensures ∙ c.pop_back.new.self.ok.0)
          (c.requires.handed ∙ ap length (sym here.bays));
      marked =
          c.requires.marked (length left) bay (ap (λ xs. slice_get xs (length left)) (sym split) ∙ slice_get-seam left bay here.split.0)
          ∙ sym (c.len.ensures ∙ c.pop_back.new.self.ok.0);
    }
