use Rattle.std.proofs.Common.{take, length, Ok}
use Rattle.lert_cone.specs.Takes.{TakesItems}
use Rattle.lert_bay.specs.Kept.{seen_by}
use Rattle.lert_cone.proofs.keys.take_items.Given as goal

-- the items so far are taken
abbrev pub invariant-loop-number : goal.invariant-loop-number
invariant-loop-number g l =
    TakesItems (seen_by g.B.Faulty g.B.Bay) l.place (take l.number l.fn.items) (record { bay = l.fn.bay; counts = l.fn.tally; log = l.fn.log; room = length l.fn.buffer })
    (record { bay = l.bay; counts = l.tally; log = l.log; room = length l.buffer }) (Ok tt)
