use Rattle.lert_conelock.proofs.{Seeing.{idles, takes, first_of, turned_at_last, turned_keeps, turned_met, turned_moved, seen_moves, turned_inside, acted_at_last, declined_at_last}, Turning.trier}
use Rattle.lert_conelock.specs.Moves.{waits_and_takes}
use Rattle.lert_conelock.proofs.lock.ConeLock.act.Goals as goal

pub take_turn-requires-clause-idle : goal.take_turn-requires-clause-idle
take_turn-requires-clause-idle g c = takes _ c.pass.inside.seat.me _ c.pass.view_is
    (idles _ c.pass.invariant.0 c.pass.invariant.1) _ c.requires.number

pub invariant_of-pass : goal.invariant_of-pass
invariant_of-pass g c = let me = idles _ c.pass.invariant.0 c.pass.invariant.1 in let did = c.take_turn.ensures in
    let t = turned_at_last _ _ _ c.pass.inside.seat.table_id me.pass c.take_turn.new.seat.me c.take_turn.result
    (did.done me.pass (trier me)) (did.refused me.pass (trier me)) in
    turned_inside _ _ c.pass.inside.seat.me c.take_turn.new.seat.me _ c.pass.view_is did.seat me.pass
    (trier me) t.0 _ t.1 c.pass.inside.lo c.pass.invariant.2

pub returns-clause-kept : goal.returns-clause-kept
returns-clause-kept g c = let me = idles _ c.pass.invariant.0 c.pass.invariant.1 in let did = c.take_turn.ensures in
    let t = turned_at_last _ _ _ c.pass.inside.seat.table_id me.pass c.take_turn.new.seat.me c.take_turn.result
    (did.done me.pass (trier me)) (did.refused me.pass (trier me)) in
    turned_keeps _ _ c.pass.inside.seat.me c.take_turn.new.seat.me _ c.pass.view_is did.seat me.pass (trier me) t.0 _ t.1

pub returns-clause-moved : goal.returns-clause-moved
returns-clause-moved g c = let me = idles _ c.pass.invariant.0 c.pass.invariant.1 in let did = c.take_turn.ensures in
    let t = turned_at_last _ _ _ c.pass.inside.seat.table_id me.pass c.take_turn.new.seat.me c.take_turn.result
    (did.done me.pass (trier me)) (did.refused me.pass (trier me)) in (
      t.0,
      turned_met _ _ c.pass.inside.seat.me c.take_turn.new.seat.me _ c.pass.view_is did.seat me.pass (trier me) t.0 _ t.1,
      seen_moves _ c.pass.inside.seat.me _ c.pass.view_is me.pass (trier me) (λ lo hi. waits_and_takes lo hi t.0) _
          (turned_moved _ _ c.pass.inside.seat.me c.take_turn.new.seat.me _ c.pass.view_is did.seat me.pass (trier me) t.0 _ t.1),
    )

pub returns-clause-done : goal.returns-clause-done
returns-clause-done g c = let me = idles _ c.pass.invariant.0 c.pass.invariant.1 in let did = c.take_turn.ensures in
    acted_at_last _ _ _ _ _ c.pass.inside.seat.me c.take_turn.new.seat.me _ c.pass.view_is did.seat me.pass
    (trier me) _ (first_of _ c.pass.inside.seat.me _ c.pass.view_is _ c.requires.belongs me.pass (trier me))
    c.take_turn.result (did.done me.pass (trier me))

pub returns-clause-refused : goal.returns-clause-refused
returns-clause-refused g c = let me = idles _ c.pass.invariant.0 c.pass.invariant.1 in let did = c.take_turn.ensures in
    declined_at_last _ _ _ _ _ c.pass.inside.seat.me c.take_turn.new.seat.me _ c.pass.view_is did.seat me.pass
    (trier me) _ (first_of _ c.pass.inside.seat.me _ c.pass.view_is _ c.requires.belongs me.pass (trier me))
    c.take_turn.result (did.refused me.pass (trier me))
