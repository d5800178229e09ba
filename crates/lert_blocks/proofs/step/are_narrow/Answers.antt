use Rattle.std.proofs.{Common.{get_or, arith, below_more}, lemmas.Nat.{le_or_l, le_or_r}}
use Rattle.lert_blocks.proofs.step.are_narrow.Goals as goal

pub loop-slot-preserved : goal.loop-slot-preserved
loop-slot-preserved c = λ narrow.
    let slot = get_or c.args.slots.now c.loop-slot.slot-index 0 in
    let before = le_or_l c.loop-slot.union slot in
    let this = le_or_r c.loop-slot.union slot in
    below_more _ _ (c.loop-slot.invariant (omega arith)) (omega arith)
