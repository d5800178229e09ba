use Rattle.std.proofs.Common.{get_or, refl}
use Rattle.lert_streams_tests.specs.declared.steps.Step.{Step}
use Rattle.lert_streams_tests.proofs.ReadyLaws.{can_take, ready_more}
use Rattle.lert_streams_tests.proofs.landings.land.Goals as goal

abbrev nothing : Step
nothing = record { part = 0; piece = record { tail = 0; count = 0 } }

pub add_to-requires-clause-piece : goal.add_to-requires-clause-piece
add_to-requires-clause-piece g c d =
    let step = get_or c.args.steps.now c.loop-step.step-index nothing in
    let may = c.if-not-may_come.ensures in
    can_take c.loop-step.last c.loop-step.left step.piece (may.ascends refl) (may.fits refl)
    (get_or c.loop-step.landings step.part d) (c.loop-step.invariant.ready step.part d (may.part refl)) (may.some refl) (may.word refl)

pub loop-step-preserved : goal.loop-step-preserved
loop-step-preserved g c =
    let step = get_or c.args.steps.now c.loop-step.step-index nothing in
    let may = c.if-not-may_come.ensures in
    record {
      ready = ready_more c.loop-step.last c.loop-step.left step.piece (may.ascends refl) (may.fits refl) c.loop-step.landings c.add_to.new.landings step.part (may.part refl) c.add_to.auto.landings
          c.in_ok-add_to.ensures.taken c.add_to.ensures.homes c.loop-step.invariant.ready;
    }
