use Rattle.std.proofs.Common.{◌-◌, ap, ◌∙◌}
use Rattle.lert_spec.specs.Edges.{edge}
use Rattle.lert_base.proofs.settings.Settings.lookback.Goals as goal

pub returns : goal.returns
returns c = c.edge.ensures ∙ ap (λ level. edge c.args.self.now level (c.args.m - 1)) c.depth.ensures.value
