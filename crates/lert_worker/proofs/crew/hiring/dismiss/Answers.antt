use Rattle.std.proofs.Common.{◌∙◌, ◌+◌, length, refl, sym, subst, arith}
use Rattle.lert_worker.specs.crew.Passes.{Shows}
use Rattle.lert_worker.proofs.crew.Passing.{is_behind, leaves, longer, new_total, none_behind, still_leaving, still_quiet, still_shows}
use Rattle.lert_worker.proofs.crew.hiring.dismiss.Goals as goal

pub into_pass-requires : goal.into_pass-requires
into_pass-requires g c = record {
  none_left = (leaves c.args.fleet.now c.pop.new.self.items c.loop-worker.crew.items c.in-Some.worker c.in-Some.ensures.items _ c.loop-worker.pass c.loop-worker.invariant.leaving
      c.loop-worker.invariant.total).0;
}

pub join-requires-clause-belongs : goal.join-requires-clause-belongs
join-requires-clause-belongs g c = (
  c.loop-worker.invariant.belongs,
  (is_behind c.args.fleet.now c.pop.new.self.items c.loop-worker.crew.items c.in-Some.worker c.in-Some.ensures.items _ c.loop-worker.pass c.loop-worker.invariant.leaving
      c.loop-worker.invariant.total c.into_pass.result c.into_pass.ensures).belongs,
)

pub join-requires-clause-meets : goal.join-requires-clause-meets
join-requires-clause-meets g c =
    (is_behind c.args.fleet.now c.pop.new.self.items c.loop-worker.crew.items c.in-Some.worker c.in-Some.ensures.items _ c.loop-worker.pass c.loop-worker.invariant.leaving
    c.loop-worker.invariant.total c.into_pass.result c.into_pass.ensures).lo_is

pub loop-worker-preserved : goal.loop-worker-preserved
loop-worker-preserved g c = record {
  belongs = c.join.ensures.belongs;
  lo_is = c.join.ensures.joined.lo_is ∙ c.loop-worker.invariant.lo_is;
  total = new_total c.args.fleet.now c.pop.new.self.items c.loop-worker.crew.items c.in-Some.worker c.in-Some.ensures.items (c.args.pass.hi + length c.args.crew.items) c.loop-worker.pass
      c.loop-worker.invariant.leaving c.loop-worker.invariant.total c.into_pass.result c.into_pass.ensures c.join.new.pass c.join.ensures.joined;
  leaving = still_leaving c.args.fleet.now c.pop.new.self.items c.loop-worker.crew.items c.in-Some.worker c.in-Some.ensures.items (c.args.pass.hi + length c.args.crew.items)
      c.loop-worker.pass c.loop-worker.invariant.leaving c.loop-worker.invariant.total c.into_pass.result c.into_pass.ensures c.join.new.pass c.join.ensures.joined;
  quiet = λ one all. still_quiet c.args.fleet.now c.pop.new.self.items c.loop-worker.crew.items c.in-Some.worker c.in-Some.ensures.items (c.args.pass.hi + length c.args.crew.items)
      c.loop-worker.pass
      c.loop-worker.invariant.leaving c.loop-worker.invariant.total c.into_pass.result c.into_pass.ensures c.join.new.pass c.join.ensures.joined (c.loop-worker.invariant.quiet one all);
  shows = λ brought turned one all.
      still_shows c.args.fleet.now c.pop.new.self.items c.loop-worker.crew.items c.in-Some.worker c.in-Some.ensures.items (c.args.pass.hi + length c.args.crew.items) c.loop-worker.pass
      c.loop-worker.invariant.leaving c.loop-worker.invariant.total c.into_pass.result c.into_pass.ensures c.join.new.pass c.join.ensures.joined brought turned c.args.pass.lo
      (c.loop-worker.invariant.shows brought turned one all);
}

pub loop-worker-init : goal.loop-worker-init
loop-worker-init g c = record {
  belongs = c.requires.belongs;
  lo_is = refl;
  total = refl;
  leaving = c.requires.leaving;
  quiet = λ one all. (one, all);
  shows = λ brought turned one all. (one, all);
}

pub loop-worker-smaller : goal.loop-worker-smaller
loop-worker-smaller g c =
    let n = longer c.args.fleet.now c.pop.new.self.items c.loop-worker.crew.items c.in-Some.worker c.in-Some.ensures.items in omega (arith, n)

pub destroy_empty-requires : goal.destroy_empty-requires
destroy_empty-requires g c = c.in_default.ensures.cases.1

pub returns : goal.returns
returns g c = record {
  pass = record {
    belongs = c.loop-worker.invariant.belongs;
    lo_is = c.loop-worker.invariant.lo_is;
    hi_is = none_behind c.loop-worker.pass.hi (length c.loop-worker.crew.items) (c.args.pass.hi + length c.args.crew.items)
        (sym c.loop-worker.crew.ok.0 ∙ c.in_default.ensures.cases.0) c.loop-worker.invariant.total;
  };
  quiet = λ one all. (c.loop-worker.invariant.quiet one all).0;
  shows = λ brought turned one all.
      let top = none_behind c.loop-worker.pass.hi (length c.loop-worker.crew.items) (c.args.pass.hi + length c.args.crew.items)
      (sym c.loop-worker.crew.ok.0 ∙ c.in_default.ensures.cases.0) c.loop-worker.invariant.total in
      subst (λ n. Shows brought turned c.args.pass.lo n c.loop-worker.pass) top (c.loop-worker.invariant.shows brought turned one all).0;
}
