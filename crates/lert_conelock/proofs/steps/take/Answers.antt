use Rattle.std.proofs.Common.{rules, sym, subst, Some, eqb-true}
use Rattle.lert_base.specs.Packet.{Packet}
use Rattle.lert_conelock.specs.Steps.{MayTake, Took}
use Rattle.lert_conelock.proofs.Taking.{taking}
use Rattle.lert_conelock.proofs.steps.take.Goals as goal

pub compare_exchange-requires : goal.compare_exchange-requires
compare_exchange-requires g c = (
  search rules,
  search rules,
  taking _ _ _ _ _ _ _ (subst (λ (e : Packet). MayTake c.args.seat.now.me e) (sym c.requires.named) c.requires.idle),
)

pub returns-clause-won : goal.returns-clause-won
returns-clause-won g c p is won =
    subst (λ (e : Packet). (state : g.row.S.Denot) × Took g.S.Held e p state (Some state) c.compare_exchange.new.seat.me) c.requires.named
    ((c.compare_exchange.ensures.2 p is).0 (eqb-true _ _ won))
