use Rattle.std.proofs.Common.{rules, ◌∙◌}
use Rattle.lert_levels.proofs.bound.Reaching.{bytes_asked, counts_asked}
use Rattle.lert_levels.proofs.bound.bound.Bound.may_reach.Goals as goal

-- the least sum is searched for, so that another one is refused here, and not a name
pub returns-clause-bytes : goal.returns-clause-bytes
returns-clause-bytes c = rw (← c.self.view_is) (
    bytes_asked c.self.inside.pairs.items c.args.tail c.len.result c.place_of-place.result c.from.result c.from-2.result _ c.args.count c.index-pair.result.now
    c.self.invariant (c.len.ensures ∙ c.self.inside.pairs.ok.0) c.place_of-place.ensures c.index-pair.ensures c.from.ensures c.from-2.ensures (search rules))

pub returns-clause-counts : goal.returns-clause-counts
returns-clause-counts c = counts_asked c.args.self.now c.args.tail c.args.count _ (returns-clause-bytes c)
