use Rattle.lert_base.proofs.Levels.{read_span, span_positive}
use Rattle.lert_base.proofs.settings.Settings.span.Goals as goal

pub returns-clause-value : goal.returns-clause-value
returns-clause-value c =
    read_span c.self.inside.numbers c.args.self.now c.self.inside.spans c.self.inside.offsets c.args.level c.self.invariant c.self.view_is c.requires

pub returns-clause-positive : goal.returns-clause-positive
returns-clause-positive c =
    span_positive c.self.inside.numbers c.args.self.now c.self.inside.spans c.self.inside.offsets c.args.level c.self.invariant c.self.view_is c.requires
