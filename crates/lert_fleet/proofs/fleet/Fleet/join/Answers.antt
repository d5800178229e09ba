use Rattle.std.proofs.{Common.{◌≡◌, ℕ, List, rules, [], length, ap, subst, sym, ◌∙◌, vec_len, arith}, lemmas.List.{nil_from_length, length-set}}
use Rattle.lert_conelock.specs.Sight.{Sight}
use Rattle.lert_fleet.specs.Cones.{FleetPassSight, IsPassOf, JoinsEach}
use Rattle.lert_fleet.proofs.{Joining.{IsJoining, joining_begun, joining_next, next_meets, next_more, next_within, joins_each, joined_still}, Places.{at_length, is_fewer}}
use Rattle.lert_fleet.proofs.fleet.Fleet.join.Goals as goal

pub loop-own-init : goal.loop-own-init
loop-own-init g c = record {
  joining = joining_begun c.pass.inside.lo c.pass.inside.hi c.pass.inside.cones.items c.args.pass.now c.pass.view_is
      c.other.inside.lo c.other.inside.hi c.other.inside.cones.items c.args.other c.other.view_is;
  emptied = c.pass.invariant.0;
  room = c.pass.invariant.1;
}

pub join-requires-clause-belongs : goal.join-requires-clause-belongs
join-requires-clause-belongs g c = let next = joining_next c.args.self.now c.args.pass.now c.args.other c.requires.belongs.0 c.requires.belongs.1
    c.loop-own.cones.items c.pop.new.self.items c.loop-own.pass-inside.lo c.loop-own.pass-inside.hi c.loop-own.pass-inside.cones.items c.loop-own.invariant.joining
    c.in-Some.own c.in-Some.ensures.items c.len-cone.result (search rules) c.self.inside.locks.items c.self.view_is
    c.index.result.now c.deref.result.now c.index.ensures c.deref.ensures c.index_mut.result.now c.index_mut.ensures.value in
    (next.mine.belongs, next.theirs.belongs)

pub join-requires-clause-meets : goal.join-requires-clause-meets
join-requires-clause-meets g c = let next = joining_next c.args.self.now c.args.pass.now c.args.other c.requires.belongs.0 c.requires.belongs.1
    c.loop-own.cones.items c.pop.new.self.items c.loop-own.pass-inside.lo c.loop-own.pass-inside.hi c.loop-own.pass-inside.cones.items c.loop-own.invariant.joining
    c.in-Some.own c.in-Some.ensures.items c.len-cone.result (search rules) c.self.inside.locks.items c.self.view_is
    c.index.result.now c.deref.result.now c.index.ensures c.deref.ensures c.index_mut.result.now c.index_mut.ensures.value in
    next_meets next c.requires.meets

pub loop-own-preserved : goal.loop-own-preserved
loop-own-preserved g c = let next = joining_next c.args.self.now c.args.pass.now c.args.other c.requires.belongs.0 c.requires.belongs.1
    c.loop-own.cones.items c.pop.new.self.items c.loop-own.pass-inside.lo c.loop-own.pass-inside.hi c.loop-own.pass-inside.cones.items c.loop-own.invariant.joining
    c.in-Some.own c.in-Some.ensures.items c.len-cone.result (search rules) c.self.inside.locks.items c.self.view_is
    c.index.result.now c.deref.result.now c.index.ensures c.deref.ensures c.index_mut.result.now c.index_mut.ensures.value in
    record {
      joining = next_more next c.len-cone.result (search rules) c.join.new.pass c.join.ensures;
      emptied = c.loop-own.invariant.emptied;
      room = λ first. (let kept = length-set c.loop-own.pass-inside.cones.items c.len-cone.result c.join.new.pass in
          let room = c.loop-own.invariant.room first in omega (arith, kept, room));
    }

pub returns-clause-joined : goal.returns-clause-joined
returns-clause-joined g c = let none : c.loop-own.cones.items ≡ [] = nil_from_length c.loop-own.cones.items (search rules) in
    let was = subst (λ (xs : List (Sight g.row.S.Denot g.row.S-Refusal.Denot)). IsJoining c.args.pass.now c.args.other xs c.loop-own.pass-inside.lo
    c.loop-own.pass-inside.hi c.loop-own.pass-inside.cones.items) none c.loop-own.invariant.joining in
    let hi : c.args.other.hi ≡ c.other.inside.hi = ap (λ (x : FleetPassSight g.row.S.Denot g.row.S-Refusal.Denot). x.hi) (sym c.other.view_is) in
    subst (λ (n : ℕ). JoinsEach c.args.pass.now c.args.other record { lo = c.loop-own.pass-inside.lo; hi = n; cones = c.loop-own.pass-inside.cones.items }) hi
    (joins_each c.args.self.now c.args.pass.now c.args.other c.loop-own.pass-inside.lo c.loop-own.pass-inside.hi c.loop-own.pass-inside.cones.items
    was c.requires.belongs.0 c.requires.belongs.1)

pub returns-clause-belongs : goal.returns-clause-belongs
returns-clause-belongs g c = let none : c.loop-own.cones.items ≡ [] = nil_from_length c.loop-own.cones.items (search rules) in
    let was = subst (λ (xs : List (Sight g.row.S.Denot g.row.S-Refusal.Denot)). IsJoining c.args.pass.now c.args.other xs c.loop-own.pass-inside.lo
    c.loop-own.pass-inside.hi c.loop-own.pass-inside.cones.items) none c.loop-own.invariant.joining in
    let hi : c.args.other.hi ≡ c.other.inside.hi = ap (λ (x : FleetPassSight g.row.S.Denot g.row.S-Refusal.Denot). x.hi) (sym c.other.view_is) in
    subst (λ (n : ℕ). IsPassOf record { lo = c.loop-own.pass-inside.lo; hi = n; cones = c.loop-own.pass-inside.cones.items } c.args.self.now) hi
    (joined_still c.args.self.now c.args.pass.now c.args.other c.loop-own.pass-inside.lo c.loop-own.pass-inside.hi c.loop-own.pass-inside.cones.items
    was c.requires.belongs.0 c.requires.belongs.1)

pub loop-own-smaller : goal.loop-own-smaller
loop-own-smaller g c = is_fewer c.loop-own.cones.items c.pop.new.self.items c.in-Some.own c.in-Some.ensures.items

pub index-requires : goal.index-requires
index-requires g c =
    let within = next_within c.args.self.now c.args.pass.now c.args.other c.requires.belongs.0 c.requires.belongs.1
    c.loop-own.cones.items c.pop.new.self.items c.loop-own.pass-inside.lo c.loop-own.pass-inside.hi c.loop-own.pass-inside.cones.items c.loop-own.invariant.joining
    c.in-Some.own c.in-Some.ensures.items c.self.inside.locks.items c.self.view_is in
    at_length c.len-cone.result (vec_len c.pop.new.self) (vec_len c.self.inside.locks) c.pop.new.self.items c.self.inside.locks.items c.len-cone.ensures c.pop.new.self.ok.0
    c.self.inside.locks.ok.0 within.0

pub index_mut-requires : goal.index_mut-requires
index_mut-requires g c =
    let within = next_within c.args.self.now c.args.pass.now c.args.other c.requires.belongs.0 c.requires.belongs.1
    c.loop-own.cones.items c.pop.new.self.items c.loop-own.pass-inside.lo c.loop-own.pass-inside.hi c.loop-own.pass-inside.cones.items c.loop-own.invariant.joining
    c.in-Some.own c.in-Some.ensures.items c.self.inside.locks.items c.self.view_is in
    at_length c.len-cone.result (vec_len c.pop.new.self) (vec_len c.loop-own.pass-inside.cones) c.pop.new.self.items c.loop-own.pass-inside.cones.items c.len-cone.ensures
    c.pop.new.self.ok.0 c.loop-own.pass-inside.cones.ok.0 within.1

pub destroy_empty-requires : goal.destroy_empty-requires
destroy_empty-requires g c = c.in_default.ensures.cases.1

pub destroy_empty-requires-2 : goal.destroy_empty-requires-2
destroy_empty-requires-2 g c = c.other.inside.states.ok.0 ∙ ap length c.other.invariant.0

pub invariant_of-pass : goal.invariant_of-pass
invariant_of-pass g c = (c.loop-own.invariant.emptied, c.loop-own.invariant.room)
