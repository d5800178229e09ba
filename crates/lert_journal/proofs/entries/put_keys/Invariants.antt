use Rattle.std.proofs.Common.{◌≡◌, ◌+◌, ◌*◌, ◌++◌, take}
use Rattle.std.specs.Prelude.{flat_map}
use Rattle.byteorder.specs.Endian.{little_bytes}
use Rattle.lert_journal.proofs.entries.put_keys.Given as goal

-- the keys so far stand behind the first twelve bytes
abbrev pub invariant-loop-key : goal.invariant-loop-key
invariant-loop-key l =
    (l.place ≡ 12 + 8 * l.key-index)
    × (take l.place l.into ≡ take 12 l.initial.into ++ flat_map (little_bytes 8) (take l.key-index l.keys))
