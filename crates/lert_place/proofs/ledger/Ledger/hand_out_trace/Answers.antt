use Rattle.std.proofs.{Common.{◌++◌, ◌∷◌, [], ◌&&◌, length, refl, ap, ◌∙◌}, lemmas.List.length_push, lemmas.Result.err_from_is_err_and}
use Rattle.lert_place.specs.{Openings.{is_trace, is_bay}, Shelf.Loans}
use Rattle.lert_place.proofs.Handing.{one_more, no_more}
use Rattle.lert_place.proofs.ledger.Ledger.hand_out_trace.Goals as goal

pub returns-in_err-hand_out : goal.returns-in_err-hand_out
returns-in_err-hand_out g c =
    let p = err_from_is_err_and c.from_residual.result c.from_residual.ensures.1 in
    rw p.1 (record { asked = tt; traces = tt; asked_still = refl; traces_still = c.in_err-hand_out.ensures.err; bays = refl })

pub returns : goal.returns
returns g c = record {
  asked = c.push.ensures ∙ ap (λ o. c.args.self.now.asked ++ o ∷ []) c.of_trace.ensures;
  traces = c.in_ok-hand_out.ensures.ok;
  asked_still = tt;
  traces_still = tt;
  bays = refl;
}

pub invariant_of-self : goal.invariant_of-self
invariant_of-self g c = record {
  tied_bays = c.args.self.now.tied_bays;
  tied_traces = ap (λ (l : Loans g.row.T.Denot). length l.handed) c.in_err-hand_out.ensures.err ∙ c.args.self.now.tied_traces;
}

pub invariant_of-self-2 : goal.invariant_of-self-2
invariant_of-self-2 g c =
    let now = c.args.self.now in
    record {
      tied_bays = no_more (λ o. is_bay o.wanted && o.opened) now.asked _ c.of_trace.result _ _ c.push.ensures c.of_trace.ensures refl now.tied_bays;
      tied_traces = ap (λ (l : Loans g.row.T.Denot). length l.handed) c.in_ok-hand_out.ensures.ok ∙ length_push now.traces.handed c.args.trace.now
          ∙ one_more (λ o. is_trace o.wanted && o.opened) now.asked _ c.of_trace.result _ _ c.push.ensures c.of_trace.ensures now.tied_traces;
    }
