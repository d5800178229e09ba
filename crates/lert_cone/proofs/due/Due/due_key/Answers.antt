use Rattle.std.proofs.Common.{arith, ap, sym, ◌∙◌, ◌<◌, ◌≤◌}
use Rattle.lert_spec.specs.declared.numbers.Numbers.{Numbers}
use Rattle.lert_cone.proofs.DueLaws.{due_key-few, due_key-listed, due_key-fresh}
use Rattle.lert_cone.proofs.due.Due.due_key.Goals as goal

pub returns-then-piece-numbers-clause-value : goal.returns-then-piece-numbers-clause-value
returns-then-piece-numbers-clause-value g c = rw (← c.self.view_is) (
    let few : c.args.piece.now.count < c.self.inside.settings.threshold = omega (arith, c.if-piece-numbers.true, ap (λ (s : Numbers). s.threshold) c.numbers.ensures.value) in
    due_key-few c.self.inside.settings c.self.inside.cone c.self.inside.store.reports c.args.piece.now few)

pub returns-then-has-clause-value : goal.returns-then-has-clause-value
returns-then-has-clause-value g c = rw (← c.self.view_is) (
    let below = rw (← c.self.view_is) at c.requires in
    let enough : c.self.inside.settings.threshold ≤ c.args.piece.now.count = omega (arith, c.if-piece-numbers.false, ap (λ (s : Numbers). s.threshold) c.numbers.ensures.value) in
    due_key-listed c.self.inside.settings c.self.inside.cone c.self.inside.store.reports c.args.piece.now (omega (arith, c.self.invariant.valid.limits.cone_bits_to)) c.self.invariant.named below
    c.key_of-key.result c.key_of-key.ensures.only enough (sym c.has.ensures ∙ c.if-has.true))

pub returns-clause-value : goal.returns-clause-value
returns-clause-value g c = rw (← c.self.view_is) (
    let below = rw (← c.self.view_is) at c.requires in
    let enough : c.self.inside.settings.threshold ≤ c.args.piece.now.count = omega (arith, c.if-piece-numbers.false, ap (λ (s : Numbers). s.threshold) c.numbers.ensures.value) in
    due_key-fresh c.self.inside.settings c.self.inside.cone c.self.inside.store.reports c.args.piece.now (omega (arith, c.self.invariant.valid.limits.cone_bits_to)) c.self.invariant.named below
    c.key_of-key.result c.key_of-key.ensures.only enough (sym c.has.ensures ∙ c.if-has.false))
