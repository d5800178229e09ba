use Rattle.std.proofs.Common.{◌≡◌, ◌∙◌, length, min, ap, subst, arith}
use Rattle.std.specs.Prelude.{IfErr, IfOk}
use Rattle.lert_spec.specs.Limits.{IsValid}
use Rattle.lert_worker.specs.crew.{Crewed.HasCrewed}
use Rattle.lert_worker.proofs.crew.Returning.{all_fit, as_many, few_cones, first_from, first_quiet}
use Rattle.lert_worker.proofs.crew.running.run_crew.Given as given
use Rattle.lert_worker.proofs.crew.running.run_crew.Goals as goal
use Rattle.lert_worker.proofs.crew.running.run_crew.Goals.{After-run_fleet}

pub new-requires-clause-cones : goal.new-requires-clause-cones
new-requires-clause-cones g c κs within = few_cones c.args.settings.now (subst IsValid c.numbers-valid.ensures.value c.numbers-valid.ensures.valid) (length c.args.states.items) c.requires.number

pub run_fleet-requires-clause-quiet : goal.run_fleet-requires-clause-quiet
run_fleet-requires-clause-quiet g c κs within = first_quiet c.busy_workers-crew.result c.in-Ok-new.fleet c.in-Ok-new.pass c.in-Ok-new.ensures.pass

pub run_fleet-requires-clause-pass : goal.run_fleet-requires-clause-pass
run_fleet-requires-clause-pass g c κs within =
    first_from c.busy_workers-crew.result c.in-Ok-new.fleet c.in-Ok-new.pass c.in-Ok-new.ensures.pass c.in-Ok-new.ensures.belongs

pub run_fleet-requires-clause-number : goal.run_fleet-requires-clause-number
run_fleet-requires-clause-number g c κs within =
    as_many g.H.Held c.args.settings.now c.args.states.items c.busy_workers-crew.result c.in-Ok-new.fleet c.in-Ok-new.ensures.locks ∙ c.requires.number

pub run_fleet-requires-clause-fits : goal.run_fleet-requires-clause-fits
run_fleet-requires-clause-fits g c κs within =
    all_fit g.H.Held c.args.settings.now c.args.states.items c.busy_workers-crew.result c.in-Ok-new.fleet c.in-Ok-new.ensures.locks c.requires.fits

-- how many workers there are
crew_is : (g : given.Over) (c : After-run_fleet g) → c.busy_workers-crew.result ≡ min c.args.workers (length c.args.readers.items)
crew_is g c = c.busy_workers-crew.ensures ∙ ap (min c.args.workers) (let counted = c.len.ensures in let items = c.args.readers.ok in
    let same : c.len.result ≡ length c.args.readers.items = omega (arith, counted, items) in same)

pub returns-in-Ok-new : goal.returns-in-Ok-new
returns-in-Ok-new g c = record {
  busy = subst (λ n. IfOk c.run_fleet.result.ends (λ ends. length ends.items ≡ n)) (crew_is g c) c.run_fleet.ensures.busy;
  ran = subst (λ firsts. IfOk c.run_fleet.result.ends (λ ends. HasCrewed g.S.Source.remaining g.S.Faulty.faults g.S.Faulty.mark g.H.Held c.args.settings.now
      c.args.readers.items c.run_fleet.result.readers.items firsts c.run_fleet.result.states.items ends.items)) c.in-Ok-new.ensures.locks.firsts c.run_fleet.ensures.ran;
  readers_back = c.run_fleet.ensures.readers_back;
  states_back = subst (λ firsts. IfErr c.run_fleet.result.ends (λ _. c.run_fleet.result.states.items ≡ firsts)) c.in-Ok-new.ensures.locks.firsts c.run_fleet.ensures.states_back;
}
