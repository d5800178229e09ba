use Rattle.std.proofs.Common.{arith}
use Rattle.lert_runs.proofs.BeforeLemmas.{before_all, before_on}
use Rattle.lert_runs.proofs.halves.search_by_halves.Goals as goal

pub loop-high-init : goal.loop-high-init
loop-high-init c = (omega arith, omega arith, λ ps text. before_all c.args.width c.args.x ps)

pub loop-high-preserved-then-run-at : goal.loop-high-preserved-then-run-at
loop-high-preserved-then-run-at c =
    let at = c.first_begin-at.ensures in
    let before = c.loop-high.invariant in
    let order = before.0 in
    let within = before.1 in (
      at.to,
      before.1,
      λ ps text. before_on c.args.width c.args.x c.first_begin-at.result c.args.run.now ps _ text (before.2 ps text)
          (at.begins (omega (arith, at.to, c.if-at-high.false))) (omega (arith, at.from)) (omega (arith, at.to, c.if-at-high.false)) c.if-run-at.true,
    )

pub loop-high-preserved : goal.loop-high-preserved
loop-high-preserved c =
    let at = c.first_begin-at.ensures in
    let before = c.loop-high.invariant in
    let order = before.0 in
    let within = before.1 in
    (omega (arith, at.from), omega (arith, at.to), before.2)
