use Rattle.std.proofs.{Common.{◌+◌, ◌++◌, ◌∷◌, [], None, length, refl, sym, ap, ap₂, ◌∙◌}, lemmas.List.length_push, lemmas.Result.err_from_is_err_and}
use Rattle.lert_place.specs.Shelf.{Loans}
use Rattle.lert_place.proofs.lent.Lent.hand_out.Goals as goal

pub same-self : goal.same-self
same-self g c = refl

pub returns-then-self : goal.returns-then-self
returns-then-self g c = record { ok = tt; err = refl }

pub invariant_of-self : goal.invariant_of-self
invariant_of-self g c = (c.self.invariant.0, ap length c.in_err-push.ensures.items ∙ c.self.invariant.1)

pub returns-in_err-push : goal.returns-in_err-push
returns-in_err-push g c =
    let p = err_from_is_err_and c.from_residual.result c.from_residual.ensures.1 in
    rw p.1 (record {
      ok = tt;
      err = ap (λ returned. record { handed = c.self.inside.handed; returned = returned }) c.in_err-push.ensures.items ∙ c.self.view_is;
    })

pub invariant_of-self-2 : goal.invariant_of-self-2
invariant_of-self-2 g c =
    let inside = c.self.inside in
    let more = sym (length_push inside.handed c.args.object.now) ∙ sym (ap length c.push-2.ensures) in (
      ap (λ n. n + 1) c.self.invariant.0 ∙ more,
      ap length c.in_ok-push.ensures.items ∙ length_push inside.returned.items None ∙ ap (λ n. n + 1) c.self.invariant.1 ∙ more,
    )

pub returns : goal.returns
returns g c = record {
  ok = ap₂ (λ handed returned. record { handed = handed; returned = returned }) c.push-2.ensures c.in_ok-push.ensures.items
      ∙ ap (λ (l : Loans g.row.T.Denot). record { handed = l.handed ++ c.args.object.now ∷ []; returned = l.returned ++ None ∷ [] }) c.self.view_is;
  err = tt;
}
