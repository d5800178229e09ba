use Rattle.lert_levels.proofs.rows.YoungBounds.{fewer_in_bins}
use Rattle.lert_levels.proofs.rows.zero.Zero.may_reach.Goals as goal

pub returns : goal.returns
returns g c = λ refused.
    fewer_in_bins g.T.CountTable c.self.invariant.0 c.self.view_is c.self.inside.unit c.self.invariant.1.some c.self.inside.earlier c.args.tail c.args.count c.units.result c.units.ensures.value
    (c.may_reach.ensures.counts _ _ c.self.invariant.1.covers refused)
