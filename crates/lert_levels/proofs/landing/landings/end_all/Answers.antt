use Rattle.std.proofs.{Common.{◌<◌, length, get_or, arith}, lemmas.Bool.false≢true, lemmas.List.get_or_default, lemmas.Result.err_from_is_err_and}
use Rattle.lert_bay.specs.declared.bay.TheConstants.{FRAMES}
use Rattle.lert_bay.proofs.KeptLaws.{IsLawful, keeps_as, keeps_on}
use Rattle.lert_levels.proofs.landing.LandingsLaws.{homes_more, rest_more, ending_more, ended_all}
use Rattle.lert_levels.proofs.landing.landings.end_all.Given as given
use Rattle.lert_levels.proofs.landing.landings.end_all.Invariants.{bays}
use Rattle.lert_levels.proofs.landing.landings.end_all.Goals as goal

lawful : (g : given.Over) → IsLawful (bays g)
lawful g = record { as_read = g.met.B.Bay.as_read; since_now = g.met.B.Bay.since_now; only_now = g.met.B.Bay.only_now; since_earlier = g.met.B.Bay.since_earlier }

pub loop-landing-preserved : goal.loop-landing-preserved
loop-landing-preserved g c =
    let was = c.loop-landing.invariant in
    let xs = c.loop-landing.landings in
    let i = c.loop-landing.landing-index in
    let below : i < length xs = omega (arith, c.loop-landing-test.true) in
    let l = get_or xs i c.landing-item.result in
    let l_is = get_or_default xs i c.landing-item.result l below in
    ending_more (bays g) (lawful g) c.args.landings.now xs i c.args.bay.now c.loop-landing.bay c.end.new.bay was l c.end.new.self below l_is _ c.end.ensures.lands c.in_ok-end.ensures.stands

pub returns : goal.returns
returns g c =
    let was = c.loop-landing.invariant in
    record {
      stand = λ s version are seen told landing later told_later.
          ended_all s version c.args.landings.now c.loop-landing.landing-index (later FRAMES) (omega (arith, c.loop-landing-test.false, was.len))
          (was.stand s version are seen told landing later told_later);
      homes = was.homes;
      rest = was.rest;
      kept = keeps_as (bays g) (lawful g) c.args.bay.now c.loop-landing.bay ⊥ _ (λ failed. false≢true failed) was.kept;
    }

pub returns-in_err-end : goal.returns-in_err-end
returns-in_err-end g c =
    let p = err_from_is_err_and c.from_residual.result c.from_residual.ensures.1 in
    let was = c.loop-landing.invariant in
    let xs = c.loop-landing.landings in
    let i = c.loop-landing.landing-index in
    let below : i < length xs = omega (arith, c.loop-landing-test.true) in
    let l = get_or xs i c.landing-item.result in
    let l_is = get_or_default xs i c.landing-item.result l below in
    let lands = c.end.ensures.lands in
    record {
      stand = rw p.1 tt;
      homes = homes_more (bays g) (lawful g) c.args.landings.now xs i c.args.bay.now c.loop-landing.bay c.end.new.bay was l c.end.new.self below l_is _ lands;
      rest = rest_more (bays g) (lawful g) c.args.landings.now xs i c.args.bay.now c.loop-landing.bay c.end.new.bay was l c.end.new.self below l_is _ lands;
      kept = rw p.1 (keeps_on (bays g) (lawful g) c.args.bay.now c.loop-landing.bay c.end.new.bay ⊥ _ was.kept c.in_err-end.ensures.lands.kept);
    }
