use Rattle.std.proofs.Common.{◌+◌, ◌≤◌, List, if◌then◌else◌, ◌==◌, length, rules, subst, sym, ◌∙◌}
use Rattle.lert_levels.specs.{declared.bound.pair.Pair.Pair, bound.Covers.CoversCounts}
use Rattle.lert_levels.proofs.bound.Adding.{bytes_added, counts_added}
use Rattle.lert_levels.proofs.bound.bound.Bound.add.Goals as goal

-- how the byte rises is searched for, so that another rise is refused here, and not a name
pub returns-clause-bytes : goal.returns-clause-bytes
returns-clause-bytes c = rw (← c.self.view_is) (
    bytes_added c.self.inside.pairs.items c.args.tail c.args.weight c.len.result c.place_of-place.result _ c.index_mut-pair.result.now c.self.invariant
    (c.len.ensures ∙ c.self.inside.pairs.ok.0) c.place_of-place.ensures c.index_mut-pair.ensures.value (search rules))

pub returns-clause-counts : goal.returns-clause-counts
returns-clause-counts c before present held =
    let some : 1 ≤ length c.args.self.now = subst (λ (pairs : List Pair). 1 ≤ length pairs) c.self.view_is c.self.invariant in
    subst (λ (pairs : List Pair). CoversCounts pairs before (λ other. present other + (if other == c.args.tail then c.args.weight else 0))) (sym (returns-clause-bytes c))
    (counts_added c.args.self.now c.args.tail c.args.weight some before present held)
