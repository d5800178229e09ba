use Rattle.std.proofs.Common.{arith}
use Rattle.lert_blocks.proofs.SlotLaws.{narrow_from}
use Rattle.lert_blocks.proofs.step.are_whole.Goals as goal

pub returns-then-slots-min : goal.returns-then-slots-min
returns-then-slots-min c = λ narrow. record {
  all = omega (arith, c.if-slots-min.true, c.min.ensures);
  narrow = narrow_from c.args.width c.args.from c.args.slots.slots.now (c.are_narrow.ensures narrow);
}
