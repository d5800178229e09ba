use Rattle.lert_base.proofs.Levels.{read_span, read_offset, span_positive, valid_as_seen, moves_by_rest, stays_below}
use Rattle.lert_base.proofs.settings.Settings.edge_moves.Goals as goal

pub nonzero_rem-result : goal.nonzero_rem-result
nonzero_rem-result c =
    span_positive c.self.inside.numbers c.args.self.now c.self.inside.spans c.self.inside.offsets c.args.level c.self.invariant c.self.view_is c.requires.level

pub returns-then-offset-m : goal.returns-then-offset-m
returns-then-offset-m c =
    moves_by_rest c.args.self.now (valid_as_seen _ _ c.self.invariant.valid c.self.view_is) c.args.level c.args.m _ _
    (read_offset c.self.inside.numbers c.args.self.now c.self.inside.spans c.self.inside.offsets c.args.level c.self.invariant c.self.view_is c.requires.level)
    (read_span c.self.inside.numbers c.args.self.now c.self.inside.spans c.self.inside.offsets c.args.level c.self.invariant c.self.view_is c.requires.level)
    c.if-offset-m.true

pub returns-else-offset-m : goal.returns-else-offset-m
returns-else-offset-m c =
    stays_below c.args.self.now (valid_as_seen _ _ c.self.invariant.valid c.self.view_is) c.args.level c.args.m _ _
    (read_offset c.self.inside.numbers c.args.self.now c.self.inside.spans c.self.inside.offsets c.args.level c.self.invariant c.self.view_is c.requires.level)
    (read_span c.self.inside.numbers c.args.self.now c.self.inside.spans c.self.inside.offsets c.args.level c.self.invariant c.self.view_is c.requires.level)
    c.if-offset-m.false
