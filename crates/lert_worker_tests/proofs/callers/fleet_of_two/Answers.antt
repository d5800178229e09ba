use Rattle.std.proofs.{Common.{◌∙◌, ap, arith, length, sym}, lemmas.List.length-map, lemmas.Result.IfOk-at_ok}
use Rattle.lert_worker_tests.proofs.callers.fleet_of_two.Goals as goal

pub returns-clause-passes : goal.returns-clause-passes
returns-clause-passes g c =
    let kept = IfOk-at_ok _ c.expect-second.ensures c.split.ensures.kept in
    let cut = IfOk-at_ok _ c.expect-second.ensures c.split.ensures.cut in
    let pass = c.in-Ok.ensures.pass in
    record {
      belongs = c.split.ensures.belongs;
      other_belongs = IfOk-at_ok _ c.expect-second.ensures c.split.ensures.other_belongs;
      lo_is = ap (λ pass. pass.lo) kept ∙ ap (λ pass. pass.lo) pass;
      hi_is = ap (λ pass. pass.hi) kept;
      other_lo_is = ap (λ pass. pass.lo) cut;
      other_hi_is = ap (λ pass. pass.hi) cut ∙ ap (λ pass. pass.hi) pass;
      all = c.in-Ok.ensures.locks.numbers_are;
    }

pub new-requires-clause-cones : goal.new-requires-clause-cones
new-requires-clause-cones g c = λ lifetimes outlive. c.requires.few

pub new-requires-clause-opened : goal.new-requires-clause-opened
new-requires-clause-opened g c = λ lifetimes outlive. c.requires.opened

pub split-requires-clause-belongs : goal.split-requires-clause-belongs
split-requires-clause-belongs g c = c.in-Ok.ensures.belongs

pub split-requires-clause-within : goal.split-requires-clause-within
split-requires-clause-within g c =
    let pass = c.in-Ok.ensures.pass in
    (omega (arith, ap (λ pass. pass.lo) pass), omega (arith, ap (λ pass. pass.hi) pass))

pub returns-clause-cones : goal.returns-clause-cones
returns-clause-cones g c = sym (length-map _ _) ∙ ap length c.in-Ok.ensures.locks.firsts
