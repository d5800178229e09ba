use Rattle.std.proofs.Common.{◌≡◌, ◌≤◌, arith, ◌∙◌}
use Rattle.lert_spec.specs.Edges.{quotient_bits}
use Rattle.lert_base.proofs.{Levels.{read_span, span_positive, valid_as_seen, quotient_bits_read}, settings.Settings.quotient_bits.Goals.After-max}
use Rattle.lert_base.proofs.settings.Settings.quotient_bits.Goals as goal

pub overflow_sub-last : goal.overflow_sub-last
overflow_sub-last c =
    span_positive c.self.inside.numbers c.args.self.now c.self.inside.spans c.self.inside.offsets c.args.level c.self.invariant c.self.view_is c.requires

bits : (c : After-max) → (c.max.result ≡ quotient_bits c.args.self.now c.args.level) × (c.max.result ≤ 30)
bits c =
    let read = quotient_bits_read c.args.self.now c.args.level _ (valid_as_seen _ _ c.self.invariant.valid c.self.view_is) c.requires
    (read_span c.self.inside.numbers c.args.self.now c.self.inside.spans c.self.inside.offsets c.args.level c.self.invariant c.self.view_is c.requires) in
    (c.max.ensures ∙ read.0, omega (arith, c.max.ensures, read.1))

pub returns-clause-value : goal.returns-clause-value
returns-clause-value c = (bits c).0

pub returns-clause-most : goal.returns-clause-most
returns-clause-most c = (bits c).1
