use Rattle.lert_conelock.proofs.{Seeing.{idles, takes, first_of, turned, turned_keeps, turned_met, turned_moved, seen_moves, turned_inside, acted_once, declined_once, lost_once}, Turning.trier}
use Rattle.lert_conelock.specs.Lost.{moves_of}
use Rattle.lert_conelock.proofs.lock.ConeLock.try_act.Goals as goal

pub try_turn-requires-clause-idle : goal.try_turn-requires-clause-idle
try_turn-requires-clause-idle g c = takes _ c.pass.inside.seat.me _ c.pass.view_is
    (idles _ c.pass.invariant.0 c.pass.invariant.1) _ c.requires.number

pub invariant_of-pass : goal.invariant_of-pass
invariant_of-pass g c = let me = idles _ c.pass.invariant.0 c.pass.invariant.1 in let did = c.try_turn.ensures in
    turned_inside _ _ c.pass.inside.seat.me c.try_turn.new.seat.me _ c.pass.view_is did.seat.0 me.pass (trier me) _ _
    (turned _ _ _ c.pass.inside.seat.table_id me.pass _ c.try_turn.result (λ r. did.done me.pass r (trier me))
    (λ f. did.refused me.pass f (trier me)) (did.busy me.pass (trier me)) me.idle)
    c.pass.inside.lo c.pass.invariant.2

pub returns-clause-kept : goal.returns-clause-kept
returns-clause-kept g c = let me = idles _ c.pass.invariant.0 c.pass.invariant.1 in let did = c.try_turn.ensures in
    turned_keeps _ _ c.pass.inside.seat.me c.try_turn.new.seat.me _ c.pass.view_is did.seat.0 me.pass (trier me) _ _
    (turned _ _ _ c.pass.inside.seat.table_id me.pass _ c.try_turn.result (λ r. did.done me.pass r (trier me))
    (λ f. did.refused me.pass f (trier me)) (did.busy me.pass (trier me)) me.idle)

pub returns-clause-met : goal.returns-clause-met
returns-clause-met g c = let me = idles _ c.pass.invariant.0 c.pass.invariant.1 in let did = c.try_turn.ensures in
    turned_met _ _ c.pass.inside.seat.me c.try_turn.new.seat.me _ c.pass.view_is did.seat.0 me.pass (trier me) _ _
    (turned _ _ _ c.pass.inside.seat.table_id me.pass _ c.try_turn.result (λ r. did.done me.pass r (trier me))
    (λ f. did.refused me.pass f (trier me)) (did.busy me.pass (trier me)) me.idle)

pub returns-clause-moved : goal.returns-clause-moved
returns-clause-moved g c = let me = idles _ c.pass.invariant.0 c.pass.invariant.1 in let did = c.try_turn.ensures in
    let moved = turned_moved _ _ c.pass.inside.seat.me c.try_turn.new.seat.me _ c.pass.view_is did.seat.0 me.pass (trier me) _ _
    (turned _ _ _ c.pass.inside.seat.table_id me.pass _ c.try_turn.result (λ r. did.done me.pass r (trier me))
    (λ f. did.refused me.pass f (trier me)) (did.busy me.pass (trier me)) me.idle) in
    seen_moves _ c.pass.inside.seat.me _ c.pass.view_is me.pass (trier me) (λ lo hi. moves_of lo hi c.try_turn.result) _ moved

pub returns-clause-done : goal.returns-clause-done
returns-clause-done g c reply is = let me = idles _ c.pass.invariant.0 c.pass.invariant.1 in let did = c.try_turn.ensures in
    acted_once _ _ _ _ _ c.pass.inside.seat.me c.try_turn.new.seat.me _ c.pass.view_is did.seat.0 me.pass (trier me) _
    (first_of _ c.pass.inside.seat.me _ c.pass.view_is _ c.requires.belongs me.pass (trier me)) reply
    (did.done me.pass reply (trier me) is)

pub returns-clause-refused : goal.returns-clause-refused
returns-clause-refused g c refusal is = let me = idles _ c.pass.invariant.0 c.pass.invariant.1 in let did = c.try_turn.ensures in
    declined_once _ _ _ _ _ c.pass.inside.seat.me c.try_turn.new.seat.me _ c.pass.view_is did.seat.0 me.pass (trier me) _
    (first_of _ c.pass.inside.seat.me _ c.pass.view_is _ c.requires.belongs me.pass (trier me)) refusal
    (did.refused me.pass refusal (trier me) is)

pub returns-clause-busy : goal.returns-clause-busy
returns-clause-busy g c is = let me = idles _ c.pass.invariant.0 c.pass.invariant.1 in let did = c.try_turn.ensures in
    lost_once _ _ c.pass.inside.seat.me c.try_turn.new.seat.me _ c.pass.view_is did.seat.0 me.pass (trier me) (did.busy me.pass (trier me) is)
