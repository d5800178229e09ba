use Rattle.std.proofs.Common.{rules, arith, ◌+◌}
use Rattle.lert_levels.proofs.rows.YoungCounts.{counted_more, counted_fits, counted_all}
use Rattle.lert_levels.proofs.rows.zero.Zero.count.Goals as goal

pub overflow_add-count : goal.overflow_add-count
overflow_add-count g c =
    let all = c.self.inside.tables.items in
    let more = counted_more g.T.CountTable _ all c.deref-table-items.result.now _ _ c.self.invariant.0 c.deref-table-items.ensures.value c.args.tail c.loop-table.table-index
    c.loop-table.count c.loop-table.invariant c.loop-table-test.true c.table-item.result c.table-item.is c.count-count.result c.count-count.ensures in
    let fits = counted_fits g.T.CountTable _ all c.deref-table-items.result.now _ _ c.self.invariant.0 c.deref-table-items.ensures.value c.args.tail (c.loop-table.table-index + 1)
    (c.loop-table.count + c.count-count.result) more (omega (arith, c.loop-table-test.true)) in
    search rules

pub loop-table-preserved : goal.loop-table-preserved
loop-table-preserved g c =
    counted_more g.T.CountTable _ c.self.inside.tables.items c.deref-table-items.result.now _ _ c.self.invariant.0 c.deref-table-items.ensures.value c.args.tail c.loop-table.table-index
    c.loop-table.count c.loop-table.invariant c.loop-table-test.true c.table-item.result c.table-item.is c.count-count.result c.count-count.ensures

pub returns : goal.returns
returns g c =
    counted_all g.T.CountTable _ c.self.inside.tables.items c.deref-table-items.result.now _ _ c.self.invariant.0 c.deref-table-items.ensures.value c.args.tail c.loop-table.table-index
    c.loop-table.count c.loop-table.invariant c.args.self.now c.self.view_is c.loop-table-test.false
