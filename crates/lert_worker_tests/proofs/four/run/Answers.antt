use Rattle.std.proofs.Common.{[], ◌∷◌, refl, subst}
use Rattle.lert_worker_tests.specs.Fours.{AreBack}
use Rattle.lert_worker_tests.proofs.FourLaws.{all_back, may_all}
use Rattle.lert_worker_tests.proofs.four.run.Goals as goal

pub run_all-requires-clause-may : goal.run_all-requires-clause-may
run_all-requires-clause-may g c =
    let may = may_all c.args.settings.now c.args.fleet.now g.H.Held c.requires.cones c.requires.fits
    (c.args.first ∷ c.args.second ∷ c.args.third ∷ c.args.fourth ∷ []) refl c.requires.hired in
    search may

pub returns : goal.returns
returns g c = record {
  back = subst (AreBack c.args.fleet.now) c.four_of.ensures
      (all_back c.args.settings.now c.args.fleet.now g.S.Source.remaining g.S.Faulty.faults g.S.Faulty.mark
      (c.args.first ∷ c.args.second ∷ c.args.third ∷ c.args.fourth ∷ []) _ c.requires.hired c.run_all.ensures.ran);
}
