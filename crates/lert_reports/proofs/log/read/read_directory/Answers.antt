use Rattle.std.proofs.{Common.{◌+◌, ◌-◌, refl, ap, ◌∙◌, arith}, lemmas.Result.err_from_is_err_and}
use Rattle.lert_reports.specs.LogText.{level_fields, bin_count}
use Rattle.lert_reports.proofs.{DirectoryLaws.level_place-next, FieldLaws.{none_left, next_of, found_of}}
use Rattle.lert_reports.proofs.log.read.read_directory.Goals as goal

pub loop-level-init : goal.loop-level-init
loop-level-init c = (omega arith, none_left c.args.payload.now, refl, c.requires.long)

pub returns-in_err-place : goal.returns-in_err-place
returns-in_err-place c =
    let p = err_from_is_err_and c.from_residual.result c.from_residual.ensures.1 in
    let some = c.loop-level.invariant.0 in
    rw (p.1, p.2)
    (found_of c.args.payload.now (level_fields c.args.settings.now c.args.payload.now) (c.loop-level.level - 1) c.args.settings.now.levels 1 c.loop-level.level _
    (omega (arith, some)) (omega (arith, some, c.loop-level-test.true, ap (λ s. s.levels) c.numbers.ensures.value)) c.loop-level.invariant.1 c.in_err-place.ensures)

pub loop-level-preserved : goal.loop-level-preserved
loop-level-preserved c =
    let some = c.loop-level.invariant.0 in (
      omega arith,
      next_of c.args.payload.now (level_fields c.args.settings.now c.args.payload.now) (c.loop-level.level - 1) 1 c.loop-level.level (c.loop-level.level + 1 - 1)
          (omega (arith, some)) (omega (arith, some)) c.loop-level.invariant.1 c.in_ok-place.ensures.0,
      c.in_ok-place.ensures.1 ∙ (ap (λ n. n + 1 + bin_count c.args.settings.now c.loop-level.level c.args.n0) c.loop-level.invariant.2
          ∙ level_place-next c.args.settings.now c.args.n0 c.loop-level.level some),
      c.in_ok-place.ensures.2,
    )
