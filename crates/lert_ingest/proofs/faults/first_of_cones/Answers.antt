use Rattle.std.proofs.{Common.{◌≡◌, ◌∙◌, length, ap, arith, refl}, lemmas.Option.slice_get_within}
use Rattle.lert_ingest.specs.Faults.{earliest, fault_at}
use Rattle.lert_ingest.proofs.FaultOrder.{earliest_more, fault_there, seen_more}
use Rattle.lert_ingest.proofs.faults.first_of_cones.Goals as goal

pub loop-cone-preserved : goal.loop-cone-preserved
loop-cone-preserved g c = record {
  first_is = earliest_more (fault_at c.args.cones.now) c.loop-cone.cone c.loop-cone.first c.state_fault.result c.earlier-first.result c.earlier-first.ensures c.loop-cone.invariant.first_is
      (fault_there c.args.cones.now c.loop-cone.cone c.index-cones-cone.result c.state.result c.state_fault.result c.loop-cone-test.true c.index-cones-cone.is c.state.ensures.value
      c.state_fault.ensures);
  seen = seen_more g.B.Bay.files g.B.Faulty.faults g.B.Faulty.mark c.args.cones.now c.loop-cone.cone c.index-cones-cone.result c.state.result c.loop-cone-test.true c.index-cones-cone.is
      c.state.ensures.value c.state.ensures.later c.state.ensures.closed c.loop-cone.invariant.seen;
}

pub returns-clause-seen : goal.returns-clause-seen
returns-clause-seen g c = λ place standing is. c.loop-cone.invariant.seen place standing
    (let w = slice_get_within c.args.cones.now place standing is in let a = c.loop-cone-test.false in omega (arith, w, a)) is

pub returns-clause-first : goal.returns-clause-first
returns-clause-first g c =
    let all : c.loop-cone.cone ≡ length c.args.cones.now = omega (arith, c.loop-cone-test.false, c.loop-cone.auto.cone-end) in
    c.loop-cone.invariant.first_is ∙ ap (earliest (fault_at c.args.cones.now)) all

pub loop-cone-init : goal.loop-cone-init
loop-cone-init g c = record { first_is = refl; seen = λ place standing none is. absurd (omega (arith, none)) }

pub bounds-cones-cone : goal.bounds-cones-cone
bounds-cones-cone g c = c.loop-cone-test.true

pub loop-cone-smaller : goal.loop-cone-smaller
loop-cone-smaller g c = let t = c.loop-cone-test.true in omega (arith, t)

pub offset_bounds-cones-cone : goal.offset_bounds-cones-cone
offset_bounds-cones-cone g c = let t = c.loop-cone-test.true in omega (arith, t)

pub earlier-first-requires : goal.earlier-first-requires
earlier-first-requires g c = tt

pub state_fault-requires : goal.state_fault-requires
state_fault-requires g c = tt

pub overflow_cast-cone : goal.overflow_cast-cone
overflow_cast-cone g c = record { fits = (let t = c.loop-cone-test.true in let f = c.requires in omega (arith, t, f)) }
