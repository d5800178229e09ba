use Rattle.std.proofs.Common.{refl, ◌∙◌}
use Rattle.lert_base.specs.Entries.{packet_of}
use Rattle.lert_conelock.specs.Turns.{WasTaken, WasRefused}
use Rattle.lert_conelock.proofs.Waiting.{waits_first, waits_on, waiter_is, waits_may, still_first, at_last}
use Rattle.lert_conelock.proofs.turn.take_turn.Goals as goal

pub loop-init : goal.loop-init
loop-init g c = record { can_next = tt; is_finite = tt; table = refl; waiting = waits_first _ _ c.requires.idle }

pub loop-preserved : goal.loop-preserved
loop-preserved g c = let w = c.loop.invariant.waiting in record {
  can_next = tt;
  is_finite = tt;
  table = c.try_turn.ensures.seat.0 ∙ c.loop.invariant.table;
  waiting = waits_on _ _ _ w _ (c.in-Busy.ensures.busy w.waiter (waiter_is _ _ _ w) refl);
}

pub try_turn-requires : goal.try_turn-requires
try_turn-requires g c = let w = c.loop.invariant.waiting in record {
  sized = c.requires.sized;
  table = c.loop.invariant.table ∙ c.requires.table;
  idle = waits_may _ _ _ w;
  fits = still_first _ _ _ w (λ first. g.S.Held.fits (g.S.Held.terms first) (packet_of c.args.entry.now)) c.requires.fits;
}

pub returns-in-Done-clause-seat : goal.returns-in-Done-clause-seat
returns-in-Done-clause-seat g c = c.in-Done.ensures.seat.0 ∙ c.loop.invariant.table

pub returns-in-Refused-clause-seat : goal.returns-in-Refused-clause-seat
returns-in-Refused-clause-seat g c = c.in-Refused.ensures.seat.0 ∙ c.loop.invariant.table

pub returns-in-Done-clause-done : goal.returns-in-Done-clause-done
returns-in-Done-clause-done g c = let w = c.loop.invariant.waiting in let S = g.S.Held in
    at_last _ _ _ w (WasTaken g.S.Held (packet_of c.args.entry.now) c.in-Done.reply 1) _
    (c.in-Done.ensures.done w.waiter c.in-Done.reply (waiter_is _ _ _ w) refl)

pub returns-in-Refused-clause-refused : goal.returns-in-Refused-clause-refused
returns-in-Refused-clause-refused g c = let w = c.loop.invariant.waiting in let S = g.S.Held in
    at_last _ _ _ w (WasRefused g.S.Held (packet_of c.args.entry.now) c.in-Refused.refusal 1) _
    (c.in-Refused.ensures.refused w.waiter c.in-Refused.refusal (waiter_is _ _ _ w) refl)
