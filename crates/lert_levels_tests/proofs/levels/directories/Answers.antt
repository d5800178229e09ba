use Rattle.std.proofs.Common.{ℕ, ◌+◌, ◌*◌, ◌≡◌, subst, arith}
use Rattle.std.proofs.lemmas.Result.{IfOk-at_ok}
use Rattle.lert_levels_tests.specs.Samples.{IsReady}
use Rattle.lert_levels_tests.proofs.levels.directories.Goals as goal

pub loop-k-preserved : goal.loop-k-preserved
loop-k-preserved g c =
    subst (λ (m : ℕ). IsReady m c.flush.new.zero c.flush.new.levels) (let next : 16 + 4 * c.loop-k.k ≡ 12 + 4 * (c.loop-k.k + 1) = omega arith in next)
    (IfOk-at_ok _ c.expect.ensures c.flush.ensures.ok)
