use Rattle.std.proofs.Common.{◌∙◌, ap, ℕ, List, arith}
use Rattle.lert_runs.specs.Search.{count_from}
use Rattle.lert_runs.proofs.SearchLemmas.{count_from-text, found, nowhere}
use Rattle.lert_runs.proofs.search.count_above_all.Goals as goal

pub returns-then-run-at : goal.returns-then-run-at
returns-then-run-at c = λ width ps wide text low.
    found c.args.run.now c.args.x c.loop-at.at c.count_behind.result c.loop-at-test.true c.if-run-at.true c.loop-at.invariant c.count_behind.ensures
    ∙ ap (λ (t : List ℕ). count_from t c.args.x) text.text ∙ count_from-text width c.args.x 0 ps text.ascend low wide

pub returns : goal.returns
returns c = λ width ps wide text low.
    nowhere c.args.run.now c.args.x c.loop-at.at (omega (arith, c.loop-at-test.false)) c.loop-at.invariant
    ∙ ap (λ (t : List ℕ). count_from t c.args.x) text.text ∙ count_from-text width c.args.x 0 ps text.ascend low wide
