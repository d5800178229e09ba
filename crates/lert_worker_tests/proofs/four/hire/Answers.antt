use Rattle.std.proofs.{Common.{◌∙◌, ap, arith, refl}, lemmas.Result.IfOk-at_ok}
use Rattle.lert_worker_tests.proofs.FourLaws.{hired}
use Rattle.lert_worker_tests.proofs.four.hire.Goals as goal

pub split-requires-clause-within : goal.split-requires-clause-within
split-requires-clause-within g c = (omega (arith, c.requires.range.0), c.requires.range.1)

pub returns-clause-hired : goal.returns-clause-hired
returns-clause-hired g c =
    let kept = IfOk-at_ok _ c.expect-above.ensures c.split.ensures.kept in
    hired c.args.settings.now c.args.fleet.now c.args.number _ c.start.result c.start.ensures c.split.ensures.belongs
    (ap (λ pass. pass.lo) kept ∙ c.requires.range.0) (ap (λ pass. pass.hi) kept)

pub returns-clause-above : goal.returns-clause-above
returns-clause-above g c =
    let cut = IfOk-at_ok _ c.expect-above.ensures c.split.ensures.cut in (
      IfOk-at_ok _ c.expect-above.ensures c.split.ensures.other_belongs,
      ap (λ pass. pass.lo) cut,
      ap (λ pass. pass.hi) cut,
    )
