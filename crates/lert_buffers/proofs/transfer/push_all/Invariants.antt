use Rattle.std.proofs.Common.{◌≡◌, ◌++◌, take}
use Rattle.lert_buffers.proofs.transfer.push_all.Given as goal

-- the items so far stand behind the others
abbrev pub invariant-loop-item : goal.invariant-loop-item
invariant-loop-item l = l.keys ≡ record l.fn.keys { items = l.fn.keys.items ++ take l.item-index l.items }
