use Rattle.std.proofs.Common.{rules}
use Rattle.lert_conelock.proofs.Turning.{taker, slot_held}
use Rattle.lert_conelock.proofs.turn.take_state.Goals as goal

pub exchange-requires : goal.exchange-requires
exchange-requires g c = let may = c.requires.idle in let took = c.take.ensures.won may.pass (taker may) c.if-take.true in
    (search rules, slot_held _ _ _ _ _ _ took.1)
