use Rattle.std.proofs.{Common.{◌<◌, ◌≤◌, length, rules, refl, ap, sym, ◌∙◌, subst, vec_capacity, vec_len, arith}, lemmas.Result.err_from_is_err_and}
use Rattle.lert_fleet.proofs.Splitting.{as_long, below_at_last, now_long, room_more, splitting_begun, next_own, none_below, own_within, splitting_cut, from_at_last, below_of, from_of}
use Rattle.lert_fleet.specs.Cones.{FleetPassSight}
use Rattle.lert_fleet.proofs.fleet.Fleet.split.Goals as goal

pub split-requires-clause-belongs : goal.split-requires-clause-belongs
split-requires-clause-belongs g c = let own = next_own c.args.self.now c.args.pass.now c.requires.belongs c.args.at c.loop-cone.cone c.loop-cone.pass-inside.cones.items c.loop-cone.cones.items
    c.loop-cone.invariant.splitting c.self.inside.locks.items c.self.view_is c.index.result.now c.deref.result.now c.index.ensures c.deref.ensures
    c.index_mut.result.now c.index_mut.ensures.value (search rules) in
    own.belongs

pub split-requires-clause-within : goal.split-requires-clause-within
split-requires-clause-within g c = let own = next_own c.args.self.now c.args.pass.now c.requires.belongs c.args.at c.loop-cone.cone c.loop-cone.pass-inside.cones.items c.loop-cone.cones.items
    c.loop-cone.invariant.splitting c.self.inside.locks.items c.self.view_is c.index.result.now c.deref.result.now c.index.ensures c.deref.ensures
    c.index_mut.result.now c.index_mut.ensures.value (search rules) in
    own_within own c.requires.within

pub loop-cone-preserved : goal.loop-cone-preserved
loop-cone-preserved g c =
    let long = as_long c.args.self.now c.args.pass.now c.requires.belongs c.self.inside.locks.items c.self.view_is in
    let within : c.loop-cone.cone < length c.self.inside.locks.items = search rules in
    let was = c.loop-cone.invariant in
    record {
      splitting = splitting_cut c.args.at c.args.pass.now.cones c.loop-cone.cone c.loop-cone.pass-inside.cones.items c.loop-cone.cones.items
          was.splitting c.index_mut.result.now c.split.new.pass c.split.result (omega (arith, long, within)) c.index_mut.ensures.value
          c.split.ensures.kept c.split.ensures.cut c.push_reserved.new.self.items c.push_reserved.ensures.items;
      lo = was.lo;
      hi = was.hi;
      room = omega (arith, c.push_reserved.ensures.capacity, was.room);
    }

pub returns-clause-cut : goal.returns-clause-cut
returns-clause-cut g c = let long = as_long c.args.self.now c.args.pass.now c.requires.belongs c.self.inside.locks.items c.self.view_is in
    let all : length c.self.inside.locks.items ≤ c.loop-cone.cone = search rules in
    let was = c.loop-cone.invariant in
    from_at_last c.args.at c.args.pass.now c.loop-cone.cone c.loop-cone.pass-inside.hi c.loop-cone.pass-inside.cones.items
    c.loop-cone.cones.items was.splitting (omega (arith, long, all)) was.hi

pub returns-clause-belongs : goal.returns-clause-belongs
returns-clause-belongs g c = let long = as_long c.args.self.now c.args.pass.now c.requires.belongs c.self.inside.locks.items c.self.view_is in
    let all : length c.self.inside.locks.items ≤ c.loop-cone.cone = search rules in
    let was = c.loop-cone.invariant in
    below_of c.args.self.now c.args.at c.args.pass.now c.loop-cone.cone c.loop-cone.pass-inside.lo
    c.loop-cone.pass-inside.cones.items c.loop-cone.cones.items c.requires.belongs was.splitting (omega (arith, long, all)) was.lo

pub returns-clause-other_belongs : goal.returns-clause-other_belongs
returns-clause-other_belongs g c = let long = as_long c.args.self.now c.args.pass.now c.requires.belongs c.self.inside.locks.items c.self.view_is in
    let all : length c.self.inside.locks.items ≤ c.loop-cone.cone = search rules in
    let was = c.loop-cone.invariant in
    from_of c.args.self.now c.args.at c.args.pass.now c.loop-cone.cone c.loop-cone.pass-inside.hi
    c.loop-cone.pass-inside.cones.items c.loop-cone.cones.items c.requires.belongs was.splitting (omega (arith, long, all)) was.hi

pub loop-cone-init : goal.loop-cone-init
loop-cone-init g c =
    record {
      splitting = splitting_begun c.args.at c.pass.inside.lo c.pass.inside.hi c.pass.inside.cones.items c.in_ok-cones.cones.items c.args.pass.now c.pass.view_is
          c.in_ok-cones.ensures.items;
      lo = ap (λ (x : FleetPassSight g.row.S.Denot g.row.S-Refusal.Denot). x.lo) c.pass.view_is;
      hi = ap (λ (x : FleetPassSight g.row.S.Denot g.row.S-Refusal.Denot). x.hi) c.pass.view_is;
      room = refl;
    }

pub index-requires : goal.index-requires
index-requires g c = subst (λ n. c.loop-cone.cone < n) c.len-cone-end.ensures c.loop-cone-test.true

pub index_mut-requires : goal.index_mut-requires
index_mut-requires g c =
    let long = as_long c.args.self.now c.args.pass.now c.requires.belongs c.self.inside.locks.items c.self.view_is in
    let now = now_long c.args.at c.args.pass.now.cones c.loop-cone.cone c.loop-cone.pass-inside.cones.items c.loop-cone.cones.items c.loop-cone.invariant.splitting in
    subst (λ n. c.loop-cone.cone < n)
    (c.len-cone-end.ensures ∙ (c.self.inside.locks.ok.0 ∙ (sym (now ∙ long) ∙ sym c.loop-cone.pass-inside.cones.ok.0))) c.loop-cone-test.true

pub push_reserved-requires : goal.push_reserved-requires
push_reserved-requires g c =
    let long = as_long c.args.self.now c.args.pass.now c.requires.belongs c.self.inside.locks.items c.self.view_is in
    room_more c.args.at c.args.pass.now.cones c.loop-cone.cone c.loop-cone.pass-inside.cones.items c.loop-cone.cones.items c.loop-cone.invariant.splitting
    (vec_len c.loop-cone.cones) (vec_capacity c.loop-cone.cones) (vec_len c.self.inside.locks) c.loop-cone.cones.ok.0 (c.self.inside.locks.ok.0 ∙ sym long)
    (subst (λ n. c.loop-cone.cone < n) c.len-cone-end.ensures c.loop-cone-test.true)
    (subst (λ n. n ≤ vec_capacity c.loop-cone.cones) c.len.ensures (subst (λ n. c.len.result ≤ n) (sym c.loop-cone.invariant.room) c.in_ok-cones.ensures.capacity))

pub returns-clause-kept : goal.returns-clause-kept
returns-clause-kept g c =
    let long = as_long c.args.self.now c.args.pass.now c.requires.belongs c.self.inside.locks.items c.self.view_is in
    let was = c.loop-cone.invariant in
    let all = subst (λ n. n ≤ c.loop-cone.cone) (c.len-cone-end.ensures ∙ (c.self.inside.locks.ok.0 ∙ sym long)) c.loop-cone-test.false in
    below_at_last c.args.at c.args.pass.now c.loop-cone.cone c.loop-cone.pass-inside.lo c.loop-cone.pass-inside.cones.items c.loop-cone.cones.items was.splitting all was.lo

pub returns-clause-unchanged : goal.returns-clause-unchanged
returns-clause-unchanged g c = tt

pub returns-in_err-cones : goal.returns-in_err-cones
returns-in_err-cones g c =
    let p = err_from_is_err_and c.from_residual.result c.from_residual.ensures.1 in
    rw p.1 (record { kept = tt; cut = tt; unchanged = refl; belongs = c.requires.belongs; other_belongs = tt })

pub invariant_of-result : goal.invariant_of-result
invariant_of-result g c = (c.new.ensures.items, λ zero. absurd (none_below c.args.pass.now.lo c.args.at c.requires.within.0 zero))
