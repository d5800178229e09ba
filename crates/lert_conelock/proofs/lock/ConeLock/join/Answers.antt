use Rattle.std.proofs.Common.{◌∙◌, sym, Some}
use Rattle.lert_conelock.specs.Shown.{joined}
use Rattle.lert_conelock.proofs.{Seeing.{idles, seen_joined, joined_inside}, Turning.trier}
use Rattle.lert_conelock.proofs.lock.ConeLock.join.Goals as goal

pub join-requires-clause-idle : goal.join-requires-clause-idle
join-requires-clause-idle g c = (idles _ c.pass.invariant.0 c.pass.invariant.1, idles _ c.other.invariant.0 c.other.invariant.1)

pub invariant_of-pass : goal.invariant_of-pass
invariant_of-pass g c = let me = idles c.pass.inside.seat.me c.pass.invariant.0 c.pass.invariant.1 in
    let them = idles c.other.inside.seat.me c.other.invariant.0 c.other.invariant.1 in
    let both = c.join.ensures.joined me.pass them.pass (trier me) (trier them) in
    joined_inside _ _ c.pass.inside.seat.me c.other.inside.seat.me c.agree.new.seat.me me them
    (c.agree.ensures.seat.0 ∙ c.join.ensures.seat)
    (c.agree.ensures.seat.2 ∙ (both ∙ (λ i. (Some (joined me.pass them.pass), c.pass.invariant.1 i)))) _ c.pass.invariant.2

pub returns : goal.returns
returns g c = let me = idles c.pass.inside.seat.me c.pass.invariant.0 c.pass.invariant.1 in
    let them = idles c.other.inside.seat.me c.other.invariant.0 c.other.invariant.1 in
    let both = c.join.ensures.joined me.pass them.pass (trier me) (trier them) in
    seen_joined _ _ _ c.pass.inside.seat.me c.other.inside.seat.me c.agree.new.seat.me _ _ c.pass.view_is c.other.view_is me.pass them.pass (trier me) (trier them)
    (c.agree.ensures.seat.0 ∙ c.join.ensures.seat)
    (λ i. ((c.agree.ensures.seat.2 ∙ both) i).0) c.requires.meets
    (λ r is. c.agree.ensures.agreed r ((λ i. (sym c.agree.ensures.seat.2 i).0) ∙ is))
