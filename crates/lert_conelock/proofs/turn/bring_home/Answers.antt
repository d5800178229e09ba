use Rattle.std.proofs.Common.{None, Some}
use Rattle.lert_conelock.proofs.Turning.{slot_changed}
use Rattle.lert_conelock.proofs.turn.bring_home.Goals as goal

pub free-requires-clause-lock : goal.free-requires-clause-lock
free-requires-clause-lock g c = (
  c.args.state,
  slot_changed _ c.args.state None
      (Some c.args.state) _ _ c.requires.lock c.exchange.ensures.3,
)
