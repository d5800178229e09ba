use Rattle.std.proofs.Common.{◌+◌, ◌-◌, ◌^◌, arith, ap₂, sym, ◌∙◌}
use Rattle.lert_table_tests.proofs.filter.add_drawn.Goals as goal

pub loop-draw-preserved : goal.loop-draw-preserved
loop-draw-preserved g c = record {
  room = omega (arith, c.add.ensures.adds, c.loop-draw.invariant.room, c.add.ensures.room, c.loop-draw-test.true);
  limit = c.loop-draw.invariant.limit ∙ ap₂ (λ q w. 2 ^ (q + w)) (sym c.add.ensures.quotient_bits) (sym c.add.ensures.width);
}
