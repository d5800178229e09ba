use Rattle.std.proofs.Common.{◌≡◌, ◌∙◌, ap, length, subst, sym}
use Rattle.lert_worker_tests.proofs.PairLaws.{may_run, passes_after}
use Rattle.lert_worker_tests.specs.Pairs.{ArePasses}
use Rattle.lert_worker_tests.proofs.crew.run_pair.Goals as goal

pub run-first-requires : goal.run-first-requires
run-first-requires g c =
    let made = c.fleet_of_two-fleet in
    let may = may_run g.H.Held made.result.0 made.result.1 made.result.2 made.ensures.passes c.args.settings.now
    (made.ensures.cones ∙ c.requires.cones)
    c.requires.fits c.start-first.result c.start-second.result c.start-first.ensures c.start-second.ensures in
    search may

pub stop-first_end-requires : goal.stop-first_end-requires
stop-first_end-requires g c = ap length (c.run-first.ensures.ran.traces_are ∙ c.start-first.ensures.traces_are)

pub stop-second_end-requires : goal.stop-second_end-requires
stop-second_end-requires g c = ap length (c.run-first.ensures.other_ran.traces_are ∙ c.start-second.ensures.traces_are)

pub close-requires : goal.close-requires
close-requires g c =
    let made = c.fleet_of_two-fleet in
    let after = passes_after g.H.Held made.result.0 made.result.1 made.result.2 made.ensures.passes
    g.S.Source.remaining g.S.Faulty.faults g.S.Faulty.mark c.args.settings.now c.start-first.result c.start-second.result
    c.run-first.result.0 c.run-first.result.1 c.start-first.ensures c.start-second.ensures c.run-first.ensures in
    record {
      passes = subst (λ pass. ArePasses made.result.0 pass c.stop-second_end.result.1) (sym c.stop-first_end.ensures.pass)
          (subst (λ pass. ArePasses made.result.0 c.run-first.result.0.pass pass) (sym c.stop-second_end.ensures.pass) after);
    }
