use Rattle.std.proofs.Common.{List, subst, sym, ◌+◌}
use Rattle.lert_spec.specs.Limits.{IsValid}
use Rattle.lert_levels.proofs.{rows.YoungLaws.{AreEmpty, empty_begin, empty_more, empty_filled, empty_bins}, rows.YoungBounds.empty_bounded, rows.YoungNumbers.none_numbered}
use Rattle.lert_levels.proofs.rows.zero.Zero.new.Goals as goal

pub loop-init : goal.loop-init
loop-init g c = empty_begin g.T.CountTable c.args.settings.now c.in_ok-tables.tables.items c.in_ok-tables.ensures.items

pub loop-preserved : goal.loop-preserved
loop-preserved g c =
    subst (λ (tables : List g.row.T.Denot). AreEmpty g.T.CountTable c.args.settings.now tables (c.loop.counter + 1))
    (sym c.in_ok-push.ensures.items)
    (empty_more g.T.CountTable c.args.settings.now c.loop.tables.items c.loop.counter c.loop.invariant
    c.in_ok-empty_table.field-0
    c.in_ok-empty_table.ensures.empty c.in_ok-empty_table.ensures.adds c.in_ok-empty_table.ensures.room c.in_ok-empty_table.ensures.quotient_bits c.in_ok-empty_table.ensures.width)

pub invariant_of-result : goal.invariant_of-result
invariant_of-result g c = (
  empty_filled g.T.CountTable c.args.settings.now c.numbers.result c.loop.tables.items c.loop.counter
      c.numbers.ensures.value c.numbers.ensures.valid c.loop.invariant
      c.loop-test.false c.loop.auto.counter-end,
  empty_bounded g.T.CountTable c.args.settings.now c.loop.tables.items c.loop.counter
      c.in_ok-bound.bound c.unit.result c.unit.ensures c.loop.invariant c.in_ok-bound.ensures.counts,
  none_numbered c.args.settings.now (subst IsValid c.numbers.ensures.value c.numbers.ensures.valid),
)

pub returns : goal.returns
returns g c = empty_bins g.T.CountTable.pieces c.args.settings.now c.loop.tables.items
