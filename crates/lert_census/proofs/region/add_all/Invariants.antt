use Rattle.std.proofs.Common.{◌≡◌, take}
use Rattle.lert_base.specs.Keys.{items_of}
use Rattle.lert_census.specs.Census.{with_items}
use Rattle.lert_census.proofs.region.add_all.Given as goal

-- the items so far are added
abbrev pub invariant-loop-number : goal.invariant-loop-number
invariant-loop-number l = l.table ≡ with_items l.settings l.fn.table (items_of (take l.number l.keys) (take l.number l.weights))
