use Rattle.std.proofs.Common.{◌≡◌, ◌+◌, ◌∙◌, sym}
use Rattle.lert_base.specs.Entries.{packet_of}
use Rattle.lert_conelock.specs.{Sight.{Keeps, Loses, Acted, Declined}, Lost.{lost, moves_of}, Moves.Moves}
use Rattle.lert_fleet.proofs.Turning.{here, own, changes_only, at_cone, still}
use Rattle.lert_fleet.proofs.fleet.Fleet.try_admit.Goals as goal

pub try_act-requires-clause-belongs : goal.try_act-requires-clause-belongs
try_act-requires-clause-belongs g c = let at = here c.self.inside.locks.items c.args.self.now c.self.view_is c.args.cone c.index.result.now c.deref.result.now
    c.requires.cone c.index.ensures c.deref.ensures c.pass.inside.lo c.pass.inside.hi c.pass.inside.cones.items c.args.pass.now c.pass.view_is
    c.requires.belongs c.index_mut-own.result.now c.index_mut-own.ensures.value in
    (own at c.requires.belongs).belongs

pub try_act-requires-clause-number : goal.try_act-requires-clause-number
try_act-requires-clause-number g c = let at = here c.self.inside.locks.items c.args.self.now c.self.view_is c.args.cone c.index.result.now c.deref.result.now
    c.requires.cone c.index.ensures c.deref.ensures c.pass.inside.lo c.pass.inside.hi c.pass.inside.cones.items c.args.pass.now c.pass.view_is
    c.requires.belongs c.index_mut-own.result.now c.index_mut-own.ensures.value in
    c.requires.number ∙ sym (own at c.requires.belongs).lo_is

pub try_act-requires-clause-fits : goal.try_act-requires-clause-fits
try_act-requires-clause-fits g c = let at = here c.self.inside.locks.items c.args.self.now c.self.view_is c.args.cone c.index.result.now c.deref.result.now
    c.requires.cone c.index.ensures c.deref.ensures c.pass.inside.lo c.pass.inside.hi c.pass.inside.cones.items c.args.pass.now c.pass.view_is
    c.requires.belongs c.index_mut-own.result.now c.index_mut-own.ensures.value in
    c.requires.fits c.deref.result.now at.lock_is

pub returns-clause-others : goal.returns-clause-others
returns-clause-others g c = let at = here c.self.inside.locks.items c.args.self.now c.self.view_is c.args.cone c.index.result.now c.deref.result.now
    c.requires.cone c.index.ensures c.deref.ensures c.pass.inside.lo c.pass.inside.hi c.pass.inside.cones.items c.args.pass.now c.pass.view_is
    c.requires.belongs c.index_mut-own.result.now c.index_mut-own.ensures.value in
    changes_only at c.try_act.new.pass

pub returns-clause-belongs : goal.returns-clause-belongs
returns-clause-belongs g c = let at = here c.self.inside.locks.items c.args.self.now c.self.view_is c.args.cone c.index.result.now c.deref.result.now
    c.requires.cone c.index.ensures c.deref.ensures c.pass.inside.lo c.pass.inside.hi c.pass.inside.cones.items c.args.pass.now c.pass.view_is
    c.requires.belongs c.index_mut-own.result.now c.index_mut-own.ensures.value in
    still at c.try_act.new.pass c.try_act.ensures.kept c.requires.belongs

pub returns-clause-kept : goal.returns-clause-kept
returns-clause-kept g c = let at = here c.self.inside.locks.items c.args.self.now c.self.view_is c.args.cone c.index.result.now c.deref.result.now
    c.requires.cone c.index.ensures c.deref.ensures c.pass.inside.lo c.pass.inside.hi c.pass.inside.cones.items c.args.pass.now c.pass.view_is
    c.requires.belongs c.index_mut-own.result.now c.index_mut-own.ensures.value in
    at_cone at c.try_act.new.pass (λ lock old new. Keeps old new) c.try_act.ensures.kept

pub returns-clause-done : goal.returns-clause-done
returns-clause-done g c reply is = let at = here c.self.inside.locks.items c.args.self.now c.self.view_is c.args.cone c.index.result.now c.deref.result.now
    c.requires.cone c.index.ensures c.deref.ensures c.pass.inside.lo c.pass.inside.hi c.pass.inside.cones.items c.args.pass.now c.pass.view_is
    c.requires.belongs c.index_mut-own.result.now c.index_mut-own.ensures.value in
    at_cone at c.try_act.new.pass (λ lock. Acted g.S.Held lock.first (packet_of c.args.entry.now) reply 0)
    (c.try_act.ensures.done reply is)

pub returns-clause-refused : goal.returns-clause-refused
returns-clause-refused g c refusal is = let at = here c.self.inside.locks.items c.args.self.now c.self.view_is c.args.cone c.index.result.now c.deref.result.now
    c.requires.cone c.index.ensures c.deref.ensures c.pass.inside.lo c.pass.inside.hi c.pass.inside.cones.items c.args.pass.now c.pass.view_is
    c.requires.belongs c.index_mut-own.result.now c.index_mut-own.ensures.value in
    at_cone at c.try_act.new.pass (λ lock. Declined g.S.Held lock.first (packet_of c.args.entry.now) refusal 0)
    (c.try_act.ensures.refused refusal is)

pub returns-clause-busy : goal.returns-clause-busy
returns-clause-busy g c is = let at = here c.self.inside.locks.items c.args.self.now c.self.view_is c.args.cone c.index.result.now c.deref.result.now
    c.requires.cone c.index.ensures c.deref.ensures c.pass.inside.lo c.pass.inside.hi c.pass.inside.cones.items c.args.pass.now c.pass.view_is
    c.requires.belongs c.index_mut-own.result.now c.index_mut-own.ensures.value in
    at_cone at c.try_act.new.pass (λ lock old new. Loses old new) (c.try_act.ensures.busy is)

pub returns-clause-met : goal.returns-clause-met
returns-clause-met g c = let at = here c.self.inside.locks.items c.args.self.now c.self.view_is c.args.cone c.index.result.now c.deref.result.now
    c.requires.cone c.index.ensures c.deref.ensures c.pass.inside.lo c.pass.inside.hi c.pass.inside.cones.items c.args.pass.now c.pass.view_is
    c.requires.belongs c.index_mut-own.result.now c.index_mut-own.ensures.value in
    at_cone at c.try_act.new.pass (λ lock old new. new.met ≡ old.met + lost c.try_act.result) c.try_act.ensures.met

pub returns-clause-moved : goal.returns-clause-moved
returns-clause-moved g c = let at = here c.self.inside.locks.items c.args.self.now c.self.view_is c.args.cone c.index.result.now c.deref.result.now
    c.requires.cone c.index.ensures c.deref.ensures c.pass.inside.lo c.pass.inside.hi c.pass.inside.cones.items c.args.pass.now c.pass.view_is
    c.requires.belongs c.index_mut-own.result.now c.index_mut-own.ensures.value in
    at_cone at c.try_act.new.pass (λ lock old new. Moves old.lo old.moves (moves_of old.lo old.hi c.try_act.result) new.moves) c.try_act.ensures.moved
