use Rattle.std.proofs.Common.{arith}
use Rattle.lert_plain.proofs.{Search.{IsBetween-raise, IsBetween-lower, IsAbsent-end}, table.place_of.Goals.{else-low-pieces-via-then-low-pieces+else-pieces-low, else-low-pieces-via-else-low-pieces}}
use Rattle.lert_plain.proofs.table.place_of.Goals as goal

pub loop-low-preserved-then-pieces-middle : goal.loop-low-preserved-then-pieces-middle
loop-low-preserved-then-pieces-middle c =
    IsBetween-raise c.requires.0 c.requires.1 c.args.pieces.now c.args.tail c.loop-low.low c.loop-low.high c.requires.2 c.loop-low.invariant
    _ _ (omega arith) c.if-pieces-middle.true

pub loop-low-preserved : goal.loop-low-preserved
loop-low-preserved c =
    IsBetween-lower c.requires.0 c.requires.1 c.args.pieces.now c.args.tail c.loop-low.low c.loop-low.high c.requires.2 c.loop-low.invariant
    _ _ (omega arith) (omega arith) c.if-pieces-middle.false

pub returns-else-low-pieces : goal.returns-else-low-pieces
returns-else-low-pieces c =
    IsAbsent-end c.requires.0 c.requires.1 c.args.pieces.now c.args.tail c.loop-low.low c.loop-low.high c.requires.2 c.loop-low.invariant
    (record { tail = 0; count = 0 }) c.loop-low-test.false
    (λ h. elim c.else-low-pieces.branch [
      | else-low-pieces-via-then-low-pieces+else-pieces-low w ↦ w.if-pieces-low.false
      | else-low-pieces-via-else-low-pieces w ↦ absurd (omega arith)
    ])
