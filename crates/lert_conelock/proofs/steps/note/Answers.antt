use Rattle.std.proofs.Common.{rules, sym, subst, Bool}
use Rattle.lert_conelock.specs.Steps.{IsReason}
use Rattle.lert_conelock.proofs.Noting.{notes}
use Rattle.lert_conelock.proofs.steps.note.Goals as goal

pub load-requires : goal.load-requires
load-requires g c = let try = c.requires.trying in (
  search rules,
  search rules,
  notes _ _ _ _ _ _ try.pass try.packet c.args.refusal.now g.M.Telling.stops g.M.Telling.told try.me_is try.tries c.requires.told.0
      (subst (λ (stop : Bool). IsReason g.S.Held stop try.pass try.packet c.args.refusal.now) (sym c.requires.told.1)
      (c.requires.reason try.pass try.packet try.me_is try.tries)),
)
