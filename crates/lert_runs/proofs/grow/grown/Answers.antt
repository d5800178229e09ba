use Rattle.std.proofs.Common.{◌≡◌, ◌+◌, ap, ◌∙◌, length, arith}
use Rattle.lert_counter.specs.Group.{group}
use Rattle.lert_runs.specs.RunText.{count_in}
use Rattle.lert_runs.proofs.GrowLemmas.{growth_of}
use Rattle.lert_runs.proofs.grow.grown.Goals as goal

pub returns-clause-grown : goal.returns-clause-grown
returns-clause-grown c = λ positive ps text.
    let place = c.find-place.ensures ps text in
    let counts : c.find-place.result.count + c.args.n ≡ count_in ps c.args.x + c.args.n = omega (arith, place.count) in
    growth_of c.args.width c.args.x c.args.n c.args.run.now ps _ c.requires.narrow positive text place.start place.used
    (c.write_group-into.ensures.len ∙ ap (λ k. length (group c.args.width c.args.x k)) counts)
    (c.write_group-into.ensures.front ∙ ap (group c.args.width c.args.x) counts)
