use Rattle.std.proofs.{Common.{◌≡◌, ℕ, ◌+◌, ◌∙◌, sym}, lemmas.Result.{IfOk-weaker, IfErr-weaker}}
use Rattle.lert_base.specs.Entries.{packet_of}
use Rattle.lert_conelock.specs.{Sight.{Keeps, Acted, Declined}, Moves.{Moves, waits_and_takes}}
use Rattle.lert_fleet.proofs.Turning.{here, own, changes_only, at_cone, still}
use Rattle.lert_fleet.proofs.fleet.Fleet.admit.Goals as goal

pub act-requires-clause-belongs : goal.act-requires-clause-belongs
act-requires-clause-belongs g c = let at = here c.self.inside.locks.items c.args.self.now c.self.view_is c.args.cone c.index.result.now c.deref.result.now
    c.requires.cone c.index.ensures c.deref.ensures c.pass.inside.lo c.pass.inside.hi c.pass.inside.cones.items c.args.pass.now c.pass.view_is
    c.requires.belongs c.index_mut-own.result.now c.index_mut-own.ensures.value in
    (own at c.requires.belongs).belongs

pub act-requires-clause-number : goal.act-requires-clause-number
act-requires-clause-number g c = let at = here c.self.inside.locks.items c.args.self.now c.self.view_is c.args.cone c.index.result.now c.deref.result.now
    c.requires.cone c.index.ensures c.deref.ensures c.pass.inside.lo c.pass.inside.hi c.pass.inside.cones.items c.args.pass.now c.pass.view_is
    c.requires.belongs c.index_mut-own.result.now c.index_mut-own.ensures.value in
    c.requires.number ∙ sym (own at c.requires.belongs).lo_is

pub act-requires-clause-fits : goal.act-requires-clause-fits
act-requires-clause-fits g c = let at = here c.self.inside.locks.items c.args.self.now c.self.view_is c.args.cone c.index.result.now c.deref.result.now
    c.requires.cone c.index.ensures c.deref.ensures c.pass.inside.lo c.pass.inside.hi c.pass.inside.cones.items c.args.pass.now c.pass.view_is
    c.requires.belongs c.index_mut-own.result.now c.index_mut-own.ensures.value in
    c.requires.fits c.deref.result.now at.lock_is

pub returns-clause-others : goal.returns-clause-others
returns-clause-others g c = let at = here c.self.inside.locks.items c.args.self.now c.self.view_is c.args.cone c.index.result.now c.deref.result.now
    c.requires.cone c.index.ensures c.deref.ensures c.pass.inside.lo c.pass.inside.hi c.pass.inside.cones.items c.args.pass.now c.pass.view_is
    c.requires.belongs c.index_mut-own.result.now c.index_mut-own.ensures.value in
    changes_only at c.act.new.pass

pub returns-clause-belongs : goal.returns-clause-belongs
returns-clause-belongs g c = let at = here c.self.inside.locks.items c.args.self.now c.self.view_is c.args.cone c.index.result.now c.deref.result.now
    c.requires.cone c.index.ensures c.deref.ensures c.pass.inside.lo c.pass.inside.hi c.pass.inside.cones.items c.args.pass.now c.pass.view_is
    c.requires.belongs c.index_mut-own.result.now c.index_mut-own.ensures.value in
    still at c.act.new.pass c.act.ensures.kept c.requires.belongs

pub returns-clause-kept : goal.returns-clause-kept
returns-clause-kept g c = let at = here c.self.inside.locks.items c.args.self.now c.self.view_is c.args.cone c.index.result.now c.deref.result.now
    c.requires.cone c.index.ensures c.deref.ensures c.pass.inside.lo c.pass.inside.hi c.pass.inside.cones.items c.args.pass.now c.pass.view_is
    c.requires.belongs c.index_mut-own.result.now c.index_mut-own.ensures.value in
    at_cone at c.act.new.pass (λ lock old new. Keeps old new) c.act.ensures.kept

pub returns-clause-done : goal.returns-clause-done
returns-clause-done g c = let at = here c.self.inside.locks.items c.args.self.now c.self.view_is c.args.cone c.index.result.now c.deref.result.now
    c.requires.cone c.index.ensures c.deref.ensures c.pass.inside.lo c.pass.inside.hi c.pass.inside.cones.items c.args.pass.now c.pass.view_is
    c.requires.belongs c.index_mut-own.result.now c.index_mut-own.ensures.value in
    IfOk-weaker c.act.result _ _ (λ reply is.
    at_cone at c.act.new.pass (λ lock. Acted g.S.Held lock.first (packet_of c.args.entry.now) reply 1) is) c.act.ensures.done

pub returns-clause-refused : goal.returns-clause-refused
returns-clause-refused g c = let at = here c.self.inside.locks.items c.args.self.now c.self.view_is c.args.cone c.index.result.now c.deref.result.now
    c.requires.cone c.index.ensures c.deref.ensures c.pass.inside.lo c.pass.inside.hi c.pass.inside.cones.items c.args.pass.now c.pass.view_is
    c.requires.belongs c.index_mut-own.result.now c.index_mut-own.ensures.value in
    IfErr-weaker c.act.result _ _ (λ refusal is.
    at_cone at c.act.new.pass (λ lock. Declined g.S.Held lock.first (packet_of c.args.entry.now) refusal 1) is) c.act.ensures.refused

pub returns-clause-moved : goal.returns-clause-moved
returns-clause-moved g c = let at = here c.self.inside.locks.items c.args.self.now c.self.view_is c.args.cone c.index.result.now c.deref.result.now
    c.requires.cone c.index.ensures c.deref.ensures c.pass.inside.lo c.pass.inside.hi c.pass.inside.cones.items c.args.pass.now c.pass.view_is
    c.requires.belongs c.index_mut-own.result.now c.index_mut-own.ensures.value in
    at_cone at c.act.new.pass (λ lock old new. (lost : ℕ) × (new.met ≡ old.met + lost) × Moves old.lo old.moves (waits_and_takes old.lo old.hi lost) new.moves)
    c.act.ensures.moved
