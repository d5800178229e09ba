use Rattle.std.proofs.Common.{◌≡◌, ◌∙◌, ◌+◌, ◌-◌, List, [], ◌∷◌, length, subst, sym, arith, ap, length-append, vec_len, vec_capacity}
use Rattle.lert_base.specs.declared.cone_fault.ConeFault.{ConeFault}
use Rattle.lert_fleet.specs.Cones.{FleetPassSight, IsPassOf}
use Rattle.lert_worker.specs.crew.Passes.{AreHired, IsPassFrom, IsQuiet}
use Rattle.lert_worker.proofs.crew.Passing.{has_room, hired_last, hired_leave, hired_none, hired_push, hired_quiet}
use Rattle.lert_worker.proofs.crew.hiring.make_crew.Goals as goal

pub loop-number-preserved : goal.loop-number-preserved
loop-number-preserved g c =
    let held = c.loop-number.invariant in
    let test = c.loop-number-test.true in
    let sum = length-append c.loop-number.crew.items (c.in-Ok-hire.worker ∷ []) in
    let pushed = ap (λ (xs : List _). length xs) c.push_reserved.ensures.items in
    record {
      low = omega (arith, test);
      pass_is = c.in-Ok-hire.ensures.pass;
      quiet = c.in-Ok-hire.ensures.quiet;
      total = (let t = held.total in omega (arith, t, sum, pushed, test));
      hired = subst (AreHired c.args.fleet.now c.args.settings.now c.args.workers) (sym c.push_reserved.ensures.items)
          (hired_push c.args.fleet.now c.args.settings.now c.args.workers c.loop-number.crew.items c.in-Ok-hire.worker (c.loop-number.number - 1) held.hired c.in-Ok-hire.ensures.hired
          (let t = held.total in omega (arith, t, test)));
      room = (let r = held.room in let k = c.push_reserved.ensures.capacity in omega (arith, r, k));
    }

pub dismiss-requires-clause-leaving : goal.dismiss-requires-clause-leaving
dismiss-requires-clause-leaving g c =
    hired_leave c.args.fleet.now c.args.settings.now c.args.workers (c.hire.new.pass.hi + length c.loop-number.crew.items) c.loop-number.crew.items c.loop-number.invariant.hired
    (let t = c.loop-number.invariant.total in let h = c.in-Err.ensures.back.hi_is in let test = c.loop-number-test.true in omega (arith, t, h, test))

pub returns-in-Err : goal.returns-in-Err
returns-in-Err g c = record {
  number = tt;
  hired = tt;
  pass =
      let top : c.hire.new.pass.hi + length c.loop-number.crew.items ≡ c.args.workers =
      (let t = c.loop-number.invariant.total in let h = c.in-Err.ensures.back.hi_is in let test = c.loop-number-test.true in omega (arith, t, h, test)) in
      let all = c.dismiss.ensures.pass in
      record { belongs = all.belongs; lo_is = all.lo_is ∙ c.in-Err.ensures.back.lo_is; hi_is = all.hi_is ∙ top };
  quiet = c.dismiss.ensures.quiet c.in-Err.ensures.quiet
      (hired_quiet c.args.fleet.now c.args.settings.now c.args.workers c.loop-number.crew.items c.loop-number.invariant.hired (let t = c.loop-number.invariant.total in omega (arith, t)));
}

pub dismiss-requires-in-Err-new : goal.dismiss-requires-in-Err-new
dismiss-requires-in-Err-new g c = record {
  belongs = subst (λ (p : FleetPassSight g.row.H.Denot ConeFault). IsPassOf p c.args.fleet.now) (sym c.in-Err-new.ensures.back) c.loop-number.invariant.pass_is.belongs;
  leaving =
      hired_leave c.args.fleet.now c.args.settings.now c.args.workers (c.in-Err-new.pass.hi + length c.loop-number.crew.items) c.loop-number.crew.items c.loop-number.invariant.hired
      (let t = c.loop-number.invariant.total in let h = c.loop-number.invariant.pass_is.hi_is in let b =
      ap (λ (p : FleetPassSight g.row.H.Denot ConeFault). p.hi) c.in-Err-new.ensures.back in
      omega (arith, t, h, b));
}

pub returns-in-Ok-new : goal.returns-in-Ok-new
returns-in-Ok-new g c = record {
  number =
      let pushed = ap (λ (xs : List _). length xs) c.push_reserved-in-Ok-new.ensures.items in
      let sum = length-append c.loop-number.crew.items (c.in-Ok-new.worker ∷ []) in
      let t = c.loop-number.invariant.total in
      let l = c.loop-number.invariant.low in
      let f = c.loop-number-test.false in
      omega (arith, pushed, sum, t, l, f);
  hired =
      let held = c.loop-number.invariant in
      let last : c.loop-number.number ≡ 1 = (let l = held.low in let f = c.loop-number-test.false in omega (arith, l, f)) in
      subst (AreHired c.args.fleet.now c.args.settings.now c.args.workers) (sym c.push_reserved-in-Ok-new.ensures.items)
      (hired_push c.args.fleet.now c.args.settings.now c.args.workers c.loop-number.crew.items c.in-Ok-new.worker 0 held.hired
      (hired_last c.args.fleet.now c.args.settings.now c.loop-number.pass c.in-Ok-new.worker (subst (λ n. IsPassFrom c.args.fleet.now 0 n c.loop-number.pass) last held.pass_is) held.quiet
      c.in-Ok-new.ensures.made) (let t = held.total in omega (arith, t, last)));
  pass = tt;
  quiet = tt;
}

pub returns-in-Err-new : goal.returns-in-Err-new
returns-in-Err-new g c = record {
  number = tt;
  hired = tt;
  pass =
      let back = c.in-Err-new.ensures.back in
      let all = c.dismiss-in-Err-new.ensures.pass in
      record {
        belongs = all.belongs;
        lo_is = all.lo_is ∙ (ap (λ (p : FleetPassSight g.row.H.Denot ConeFault). p.lo) back ∙ c.loop-number.invariant.pass_is.lo_is);
        hi_is = all.hi_is ∙ (ap (λ (p : FleetPassSight g.row.H.Denot ConeFault). p.hi + length c.loop-number.crew.items) back
            ∙ (let t = c.loop-number.invariant.total in let h = c.loop-number.invariant.pass_is.hi_is in omega (arith, t, h)));
      };
  quiet = c.dismiss-in-Err-new.ensures.quiet (subst IsQuiet (sym c.in-Err-new.ensures.back) c.loop-number.invariant.quiet)
      (hired_quiet c.args.fleet.now c.args.settings.now c.args.workers c.loop-number.crew.items c.loop-number.invariant.hired (let t = c.loop-number.invariant.total in omega (arith, t)));
}

pub loop-number-init : goal.loop-number-init
loop-number-init g c = record {
  low = c.requires.some;
  pass_is = c.requires.pass;
  quiet = c.requires.quiet;
  total = (let none = ap (λ (xs : List _). length xs) c.in-Ok.ensures.items in omega (arith, none));
  hired = hired_none c.args.fleet.now c.args.settings.now c.args.workers c.in-Ok.crew.items c.in-Ok.ensures.items;
  room = c.in-Ok.ensures.capacity;
}

pub hire-requires : goal.hire-requires
hire-requires g c = record {
  some = let test = c.loop-number-test.true in omega (arith, test);
  pass =
      let same : c.loop-number.number ≡ c.loop-number.number - 1 + 1 = (let l = c.loop-number.invariant.low in omega (arith, l)) in
      subst (λ n. IsPassFrom c.args.fleet.now 0 n c.loop-number.pass) same c.loop-number.invariant.pass_is;
  quiet = c.loop-number.invariant.quiet;
}

pub overflow_step-number : goal.overflow_step-number
overflow_step-number g c = c.loop-number.invariant.low

pub loop-number-smaller : goal.loop-number-smaller
loop-number-smaller g c = let test = c.loop-number-test.true in omega (arith, test)

pub push_reserved-requires : goal.push_reserved-requires
push_reserved-requires g c = has_room c.loop-number.crew.items (vec_len c.loop-number.crew) (vec_capacity c.loop-number.crew) c.loop-number.number c.args.workers
    c.loop-number.crew.ok.0 c.loop-number.invariant.low c.loop-number.invariant.total c.loop-number.invariant.room

pub push_reserved-requires-in-Ok-new : goal.push_reserved-requires-in-Ok-new
push_reserved-requires-in-Ok-new g c = has_room c.loop-number.crew.items (vec_len c.loop-number.crew) (vec_capacity c.loop-number.crew) c.loop-number.number c.args.workers
    c.loop-number.crew.ok.0 c.loop-number.invariant.low c.loop-number.invariant.total c.loop-number.invariant.room

pub dismiss-requires-clause-belongs : goal.dismiss-requires-clause-belongs
dismiss-requires-clause-belongs g c = c.in-Err.ensures.back.belongs

pub returns-in_default : goal.returns-in_default
returns-in_default g c = record { number = tt; hired = tt; pass = c.requires.pass; quiet = c.requires.quiet }
