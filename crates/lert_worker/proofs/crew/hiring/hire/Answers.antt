use Rattle.std.proofs.Common.{◌∙◌, ap, subst, sym, arith}
use Rattle.lert_base.specs.declared.cone_fault.ConeFault.{ConeFault}
use Rattle.lert_fleet.specs.Cones.{FleetPassSight, IsPassOf}
use Rattle.lert_worker.specs.crew.Passes.{IsQuiet}
use Rattle.lert_worker.proofs.crew.Passing.{hired, quiet_below, quiet_from, quiet_join}
use Rattle.lert_worker.proofs.crew.hiring.hire.Goals as goal

pub returns-in-Ok : goal.returns-in-Ok
returns-in-Ok g c = record {
  hired = hired c.args.fleet.now c.args.settings.now c.args.number c.args.pass.now c.in_ok-other.other c.in-Ok.worker c.requires.pass c.requires.quiet
      c.in_ok-other.ensures.cut c.in_ok-other.ensures.other_belongs c.in-Ok.ensures.made;
  pass =
      let kept = c.in_ok-other.ensures.kept in
      record {
        belongs = c.in_ok-other.ensures.belongs;
        lo_is = ap (λ (p : FleetPassSight g.row.H.Denot ConeFault). p.lo) kept ∙ c.requires.pass.lo_is;
        hi_is = ap (λ (p : FleetPassSight g.row.H.Denot ConeFault). p.hi) kept;
      };
  back = tt;
  quiet = subst IsQuiet (sym c.in_ok-other.ensures.kept) (quiet_below c.args.number c.args.pass.now c.requires.quiet);
}

pub returns-in-Err : goal.returns-in-Err
returns-in-Err g c = record {
  hired = tt;
  pass = tt;
  back = record {
    belongs = c.join.ensures.belongs;
    lo_is = c.join.ensures.joined.lo_is ∙ (ap (λ (p : FleetPassSight g.row.H.Denot ConeFault). p.lo) c.in_ok-other.ensures.kept ∙ c.requires.pass.lo_is);
    hi_is = c.join.ensures.joined.hi_is ∙ (ap (λ (p : FleetPassSight g.row.H.Denot ConeFault). p.hi) c.in-Err.ensures.back
        ∙ (ap (λ (p : FleetPassSight g.row.H.Denot ConeFault). p.hi) c.in_ok-other.ensures.cut ∙ c.requires.pass.hi_is));
  };
  quiet = quiet_join c.split.new.pass c.in-Err.other c.join.new.pass c.join.ensures.joined
      (subst IsQuiet (sym c.in_ok-other.ensures.kept) (quiet_below c.args.number c.args.pass.now c.requires.quiet))
      (subst IsQuiet (sym c.in-Err.ensures.back) (subst IsQuiet (sym c.in_ok-other.ensures.cut) (quiet_from c.args.number c.args.pass.now c.requires.quiet)));
}

pub split-requires-clause-belongs : goal.split-requires-clause-belongs
split-requires-clause-belongs g c = c.requires.pass.belongs

pub split-requires-clause-within : goal.split-requires-clause-within
split-requires-clause-within g c =
    let pass = c.requires.pass in
    (let l = pass.lo_is in let some = c.requires.some in omega (arith, l, some), let h = pass.hi_is in omega (arith, h))

pub join-requires-clause-belongs : goal.join-requires-clause-belongs
join-requires-clause-belongs g c = (
  c.in_ok-other.ensures.belongs,
  subst (λ (p : FleetPassSight g.row.H.Denot ConeFault). IsPassOf p c.args.fleet.now) (sym c.in-Err.ensures.back) c.in_ok-other.ensures.other_belongs,
)

pub join-requires-clause-meets : goal.join-requires-clause-meets
join-requires-clause-meets g c = ap (λ (p : FleetPassSight g.row.H.Denot ConeFault). p.lo) c.in-Err.ensures.back
    ∙ (ap (λ (p : FleetPassSight g.row.H.Denot ConeFault). p.lo) c.in_ok-other.ensures.cut
    ∙ sym (ap (λ (p : FleetPassSight g.row.H.Denot ConeFault). p.hi) c.in_ok-other.ensures.kept))
