use Rattle.std.proofs.{Common.{◌≡◌, ◌∙◌, ℕ, ◌+◌, ap, length, refl, subst, sym}, lemmas.List.length-map}
use Rattle.lert_base.specs.declared.cone_fault.ConeFault.{ConeFault}
use Rattle.lert_fleet.specs.Cones.{FleetPassSight, IsPassOf}
use Rattle.lert_worker_tests.specs.Fours.{IsHired, IsBack}
use Rattle.lert_worker_tests.proofs.FourLaws.{at_four, hired}
use Rattle.lert_worker_tests.proofs.four.run_four.Goals as goal

pub new-requires-clause-cones : goal.new-requires-clause-cones
new-requires-clause-cones g c = λ lifetimes outlive. c.requires.few

pub new-requires-clause-opened : goal.new-requires-clause-opened
new-requires-clause-opened g c = λ lifetimes outlive. c.requires.opened

pub run-first-requires-clause-hired : goal.run-first-requires-clause-hired
run-first-requires-clause-hired g c =
    let settings = c.args.settings.now in
    let above = c.hire-third.ensures.above in
    let all = above.2 ∙ (c.hire-second.ensures.above.2 ∙ (c.hire-first.ensures.above.2 ∙ ap (λ pass. pass.hi) c.in-Ok.ensures.pass)) in
    let each = at_four (λ place worker. IsHired place settings c.in-Ok.fleet worker) c.hire-first.result.0 c.hire-second.result.0 c.hire-third.result.0 c.start-fourth.result
    c.hire-first.ensures.hired c.hire-second.ensures.hired c.hire-third.ensures.hired
    (hired settings c.in-Ok.fleet 3 c.hire-third.result.1 c.start-fourth.result c.start-fourth.ensures above.0 above.1 all) in
    search each

pub stop-first-requires : goal.stop-first-requires
stop-first-requires g c = (c.run-first.ensures.back 0 c.run-first.result.0 refl).one

pub settle-second-requires-clause-belongs : goal.settle-second-requires-clause-belongs
settle-second-requires-clause-belongs g c =
    subst (λ pass. IsPassOf pass c.in-Ok.fleet) (sym c.stop-first.ensures.pass) (c.run-first.ensures.back 0 c.run-first.result.0 refl).belongs

pub settle-second-requires-clause-back : goal.settle-second-requires-clause-back
settle-second-requires-clause-back g c =
    let hi = ap (λ pass. pass.hi) c.stop-first.ensures.pass ∙ (c.run-first.ensures.back 0 c.run-first.result.0 refl).hi_is in
    subst (λ n. IsBack n c.in-Ok.fleet c.run-first.result.1) (sym hi) (c.run-first.ensures.back 1 c.run-first.result.1 refl)

pub settle-third-requires-clause-back : goal.settle-third-requires-clause-back
settle-third-requires-clause-back g c =
    let hi = ap (λ pass. pass.hi) c.stop-first.ensures.pass ∙ (c.run-first.ensures.back 0 c.run-first.result.0 refl).hi_is in
    let next = c.settle-second.ensures.joined.2 ∙ ap (λ n. n + 1) hi in
    subst (λ n. IsBack n c.in-Ok.fleet c.run-first.result.2) (sym next) (c.run-first.ensures.back 2 c.run-first.result.2 refl)

pub settle-fourth-requires-clause-back : goal.settle-fourth-requires-clause-back
settle-fourth-requires-clause-back g c =
    let hi = ap (λ pass. pass.hi) c.stop-first.ensures.pass ∙ (c.run-first.ensures.back 0 c.run-first.result.0 refl).hi_is in
    let next = c.settle-third.ensures.joined.2 ∙ ap (λ n. n + 1) (c.settle-second.ensures.joined.2 ∙ ap (λ n. n + 1) hi) in
    subst (λ n. IsBack n c.in-Ok.fleet c.run-first.result.3) (sym next) (c.run-first.ensures.back 3 c.run-first.result.3 refl)

pub close-states-requires-clause-whole : goal.close-states-requires-clause-whole
close-states-requires-clause-whole g c =
    let first = c.run-first.ensures.back 0 c.run-first.result.0 refl in
    let lo = ap (λ pass. pass.lo) c.stop-first.ensures.pass ∙ first.lo_is in
    let hi = ap (λ pass. pass.hi) c.stop-first.ensures.pass ∙ first.hi_is in
    let third = c.settle-third.ensures.joined.2 ∙ ap (λ n. n + 1) (c.settle-second.ensures.joined.2 ∙ ap (λ n. n + 1) hi) in
    record {
      lo_is = c.settle-fourth.ensures.joined.1 ∙ (c.settle-third.ensures.joined.1 ∙ (c.settle-second.ensures.joined.1 ∙ lo));
      hi_is = λ cone lock is. c.settle-fourth.ensures.joined.2 ∙ (ap (λ n. n + 1) third ∙ sym (c.in-Ok.ensures.locks.numbers_are cone lock is));
    }
