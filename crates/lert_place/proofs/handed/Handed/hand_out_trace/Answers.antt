use Rattle.std.proofs.{Common.{◌++◌, ◌∷◌, [], ◌&&◌, length, refl, ap, ◌∙◌}, lemmas.List.length_push}
use Rattle.lert_place.specs.Openings.{is_trace, is_bay}
use Rattle.lert_place.proofs.Handing.{one_more, no_more}
use Rattle.lert_place.proofs.handed.Handed.hand_out_trace.Goals as goal

pub invariant_of-self : goal.invariant_of-self
invariant_of-self g c =
    let now = c.args.self.now in
    record {
      tied_bays = no_more (λ o. is_bay o.wanted && o.opened) now.asked _ c.of_trace.result _ _ c.push-2.ensures c.of_trace.ensures refl now.tied_bays;
      tied_traces = ap length c.push.ensures ∙ length_push now.traces c.args.trace.now
          ∙ one_more (λ o. is_trace o.wanted && o.opened) now.asked _ c.of_trace.result _ _ c.push-2.ensures c.of_trace.ensures now.tied_traces;
    }

pub returns : goal.returns
returns g c = record {
  asked = c.push-2.ensures ∙ ap (λ o. c.args.self.now.asked ++ o ∷ []) c.of_trace.ensures;
  traces = c.push.ensures;
  bays = refl;
}
