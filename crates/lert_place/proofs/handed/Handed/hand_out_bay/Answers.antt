use Rattle.std.proofs.{Common.{◌++◌, ◌∷◌, [], ◌&&◌, length, refl, ap, ◌∙◌}, lemmas.List.length_push}
use Rattle.lert_place.specs.Openings.{is_trace, is_bay}
use Rattle.lert_place.proofs.Handing.{one_more, no_more}
use Rattle.lert_place.proofs.handed.Handed.hand_out_bay.Goals as goal

pub invariant_of-self : goal.invariant_of-self
invariant_of-self g c =
    let now = c.args.self.now in
    record {
      tied_traces = no_more (λ o. is_trace o.wanted && o.opened) now.asked _ c.of_bay.result _ _ c.push-2.ensures c.of_bay.ensures refl now.tied_traces;
      tied_bays = ap length c.push.ensures ∙ length_push now.bays c.args.bay.now
          ∙ one_more (λ o. is_bay o.wanted && o.opened) now.asked _ c.of_bay.result _ _ c.push-2.ensures c.of_bay.ensures now.tied_bays;
    }

pub returns : goal.returns
returns g c = record {
  asked = c.push-2.ensures ∙ ap (λ o. c.args.self.now.asked ++ o ∷ []) c.of_bay.ensures;
  bays = c.push.ensures;
  traces = refl;
}
