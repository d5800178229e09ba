use Rattle.std.proofs.Common.{◌≡◌, ℕ, ap, ◌∙◌, ◌∷◌, Some, arith}
use Rattle.lert_counter.specs.Reading.{read_as}
use Rattle.lert_runs.specs.RunText.{run_text}
use Rattle.lert_runs.proofs.WalkLemmas.{stands_at, next, no_room}
use Rattle.lert_runs.proofs.walk.group_at.Goals as goal

pub returns-then-at-run-clause-there : goal.returns-then-at-run-clause-there
returns-then-at-run-clause-there c = λ done p rest text place.
    absurd (no_room c.args.width c.args.at c.args.run.now done p rest text place c.if-at-run.true)

pub returns-clause-there : goal.returns-clause-there
returns-clause-there c = λ done p rest text place.
    let n = next c.args.width c.args.at c.args.run.now _ (stands_at c.args.width c.args.at c.args.run.now done (p ∷ rest) text place) (omega arith) in
    let same : n.pair ≡ p = cc (n.is) in
    c.scan_group.ensures.there (n.pair).0 (n.pair).1 (run_text c.args.width n.back) n.counts n.slots n.follows ∙ ap (λ (q : ℕ × ℕ). Some (read_as c.args.width q.0 q.1)) same

pub returns-clause-end : goal.returns-clause-end
returns-clause-end c =
    let there = c.requires.begins in
    let n = next c.args.width c.args.at c.args.run.now _ (stands_at c.args.width c.args.at c.args.run.now there.0 there.1 there.2 there.3) (omega arith) in
    let found = c.scan_group.ensures.there (n.pair).0 (n.pair).1 (run_text c.args.width n.back) n.counts n.slots n.follows in
    (λ none. cc (found, none), λ end. absurd (omega arith))
