use Rattle.std.proofs.Common.{◌≡◌, ◌^◌, ap, refl, sym, ◌∙◌, subst}
use Rattle.lert_spec.specs.declared.numbers.Numbers.{Numbers}
use Rattle.lert_worker.specs.Ran.{MayRun, Working}
use Rattle.lert_worker.proofs.{GoingLaws.has_run, MayLaws.may_send_of}
use Rattle.lert_worker.proofs.run.run_worker.Goals as goal

pub returns : goal.returns
returns g c =
    let inside = c.worker.inside in
    let ran = c.run_traces-worker-inside.ensures in
    let lo : inside.pass.lo ≡ inside.outbox.entry.by =
    ap (λ (w : Working g.row.S.Denot g.row.H.Denot). w.pass.lo) c.worker.view_is
    ∙ (c.requires.lo_is ∙ sym (ap (λ (w : Working g.row.S.Denot g.row.H.Denot). w.number) c.worker.view_is)) in
    rw (← c.worker.view_is)
    (has_run g.S.Source.remaining g.S.Faulty.faults g.S.Faulty.mark c.args.fleet.now _ _ ran.by ran.settings refl ran.may.belongs
    (sym ran.may.by_is ∙ (ran.by ∙ sym lo)) ran.hi (ran.may.cones ∙ ap (λ (t : Numbers). 2 ^ t.cone_bits) ran.settings) ran.ended)

pub run_traces-worker-inside-requires-clause-may : goal.run_traces-worker-inside-requires-clause-may
run_traces-worker-inside-requires-clause-may g c =
    may_send_of g.H.Held c.args.fleet.now _ c.worker.inside.outbox (subst (MayRun g.H.Held c.args.fleet.now) (sym c.worker.view_is) c.requires) c.worker.invariant.0.idle refl refl

pub run_traces-worker-inside-requires-clause-resting : goal.run_traces-worker-inside-requires-clause-resting
run_traces-worker-inside-requires-clause-resting g c = c.worker.invariant.0

pub run_traces-worker-inside-requires-clause-given : goal.run_traces-worker-inside-requires-clause-given
run_traces-worker-inside-requires-clause-given g c = c.worker.invariant.1

pub invariant_of-worker : goal.invariant_of-worker
invariant_of-worker g c =
    let given = c.worker.invariant.1 in (
      c.run_traces-worker-inside.ensures.resting,
      record {
        as_many = c.run_traces-worker-inside.ensures.ended.read.as_many.0 ∙ given.as_many;
        ascend = given.ascend;
        few = given.few;
      },
    )
