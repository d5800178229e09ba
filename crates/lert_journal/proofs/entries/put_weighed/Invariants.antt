use Rattle.std.proofs.Common.{◌≡◌, ◌+◌, ◌*◌, ◌++◌, take}
use Rattle.std.specs.Prelude.{flat_map}
use Rattle.lert_base.specs.Keys.{items_of}
use Rattle.lert_journal.specs.Payload.{item_bytes}
use Rattle.lert_journal.proofs.entries.put_weighed.Given as goal

-- the items so far stand behind the first twelve bytes
abbrev pub invariant-loop-n : goal.invariant-loop-n
invariant-loop-n l =
    (l.place ≡ 12 + 9 * l.n)
    × (take l.place l.into ≡ take 12 l.initial.into ++ flat_map (item_bytes 2) (items_of (take l.n l.keys) (take l.n l.weights)))
