use Rattle.std.proofs.Common.{◌∙◌, ap, sym, subst}
use Rattle.lert_fleet.specs.Cones.{IsPassOf}
use Rattle.lert_worker_tests.proofs.four.settle.Goals as goal

pub stop-end-requires : goal.stop-end-requires
stop-end-requires g c = c.requires.back.one

pub join-requires-clause-belongs : goal.join-requires-clause-belongs
join-requires-clause-belongs g c = (
  c.requires.belongs,
  subst (λ pass. IsPassOf pass c.args.fleet.now) (sym c.stop-end.ensures.pass) c.requires.back.belongs,
)

pub join-requires-clause-meets : goal.join-requires-clause-meets
join-requires-clause-meets g c = ap (λ pass. pass.lo) c.stop-end.ensures.pass ∙ c.requires.back.lo_is

pub returns : goal.returns
returns g c = record {
  joined = (
    c.join.ensures.belongs,
    c.join.ensures.joined.lo_is,
    c.join.ensures.joined.hi_is ∙ (ap (λ pass. pass.hi) c.stop-end.ensures.pass ∙ c.requires.back.hi_is),
  );
}
