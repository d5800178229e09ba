use Rattle.std.proofs.{Common.{◌≡◌, ◌<◌, length, refl, arith, subst}, lemmas.Option.slice_get_read}
use Rattle.lert_top.specs.cones.Finish.{AreFinishedTo}
use Rattle.lert_top.proofs.cones.FinishLaws.{finished_more, finished_none, finished_others, is_there, was_there}
use Rattle.lert_top.proofs.cones.finish.finish_cones.Goals as goal

pub finish_cone-requires : goal.finish_cone-requires
finish_cone-requires g c =
    let here = c.loop-number.invariant in
    let cones = c.loop-number.cones.items in
    let at = c.loop-number.number in
    let inside : at < length cones = omega (arith, c.loop-number-test.true, c.loop-number.auto.number-end, c.len-number-end.ensures, here.number_is) in
    let found = slice_get_read cones (length cones) at c.index_mut.result.now refl inside c.index_mut.ensures.value in
    c.requires.running at c.index_mut.result.now
    (was_there g.B.Bay.files g.B.Bay.leaves g.B.Faulty.faults g.B.Faulty.mark at c.args.cones.now.items cones c.index_mut.result.now c.index_mut.result.now here found)

pub returns-in-Err : goal.returns-in-Err
returns-in-Err g c =
    let here = c.loop-number.invariant in
    let first = c.args.cones.now.items in
    let cones = c.loop-number.cones.items in
    let at = c.loop-number.number in
    let old = c.index_mut.result.now in
    let new = c.finish_cone.new.cone in
    let inside : at < length cones = omega (arith, c.loop-number-test.true, c.loop-number.auto.number-end, c.len-number-end.ensures, here.number_is) in
    let found = slice_get_read cones (length cones) at old refl inside c.index_mut.ensures.value in
    record {
      finished = tt;
      stopped = record {
        cone = at;
        fault = c.in-Err.fault;
        before = old;
        now = new;
        was = was_there g.B.Bay.files g.B.Bay.leaves g.B.Faulty.faults g.B.Faulty.mark at first cones old new here found;
        is = is_there g.B.Bay.files g.B.Bay.leaves g.B.Faulty.faults g.B.Faulty.mark at first cones old new here found;
        broke = c.in-Err.ensures.broke;
        others = finished_others g.B.Bay.files g.B.Bay.leaves g.B.Faulty.faults g.B.Faulty.mark at first cones old new here found;
        status_is = c.of_cone.ensures;
      };
    }

pub loop-number-preserved : goal.loop-number-preserved
loop-number-preserved g c =
    let here = c.loop-number.invariant in
    let cones = c.loop-number.cones.items in
    let at = c.loop-number.number in
    let old = c.index_mut.result.now in
    let inside : at < length cones = omega (arith, c.loop-number-test.true, c.loop-number.auto.number-end, c.len-number-end.ensures, here.number_is) in
    let found = slice_get_read cones (length cones) at old refl inside c.index_mut.ensures.value in
    finished_more g.B.Bay.files g.B.Bay.leaves g.B.Faulty.faults g.B.Faulty.mark at c.args.cones.now.items cones old c.finish_cone.new.cone here found c.in_default.ensures.finished

pub loop-number-init : goal.loop-number-init
loop-number-init g c = finished_none g.B.Bay.files g.B.Bay.leaves g.B.Faulty.faults g.B.Faulty.mark c.args.cones.now.items

pub returns : goal.returns
returns g c =
    let first = c.args.cones.now.items in
    let all : c.loop-number.number ≡ length first = omega (arith, c.loop-number-test.false, c.loop-number.auto.number-end, c.len-number-end.ensures) in
    record {
      finished = subst (λ n. AreFinishedTo g.B.Bay.files g.B.Bay.leaves g.B.Faulty.faults g.B.Faulty.mark n n first c.loop-number.cones.items) all c.loop-number.invariant;
      stopped = tt;
    }
