use Rattle.std.proofs.Common.{◌≤◌, arith, subst}
use Rattle.lert_spec.specs.Limits.{IsValid}
use Rattle.lert_spec.proofs.LimitLaws.{capacity_to}
use Rattle.lert_reports.proofs.DirectoryLaws.{level_place-next}
use Rattle.lert_files.proofs.StartLaws.{bins_few}
use Rattle.lert_files.proofs.reports.reports_start.Goals as goal
use Rattle.lert_files.proofs.reports.reports_start.Goals.{After-bins}

few : (c : After-bins) → c.bins.result ≤ 4294967296
few c =
    let valid = subst IsValid c.numbers.ensures.value c.numbers.ensures.valid in
    omega (arith, capacity_to c.args.settings.now valid, c.requires, c.bins.ensures, bins_few c.args.settings.now c.loop-level.level c.args.n0)

pub overflow_add-place : goal.overflow_add-place
overflow_add-place c = omega (arith, few c)

pub overflow_add-place-in-loop-level : goal.overflow_add-place-in-loop-level
overflow_add-place-in-loop-level c = omega (arith, few c, c.loop-level.invariant.below, c.loop-level-test.true, c.numbers.ensures.valid.limits.levels_to)

pub loop-level-preserved : goal.loop-level-preserved
loop-level-preserved c = record {
  some = omega arith;
  place_is = omega (arith, c.loop-level.invariant.place_is, c.bins.ensures, level_place-next c.args.settings.now c.args.n0 c.loop-level.level c.loop-level.invariant.some);
  below = omega (arith, few c, c.loop-level.invariant.below, c.loop-level.invariant.some);
}
