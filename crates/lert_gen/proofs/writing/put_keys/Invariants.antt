use Rattle.std.proofs.Common.{◌≡◌, ◌+◌, ◌*◌, ◌≤◌, ◌++◌, map, take}
use Rattle.std.specs.List.{flat_map, range_with_len}
use Rattle.byteorder.specs.Endian.{little_bytes}
use Rattle.lert_gen.specs.Generated.{key_at}
use Rattle.lert_gen.proofs.writing.put_keys.Given as goal

-- the keys so far stand behind the bytes that were filled
abbrev pub invariant-loop-number : goal.invariant-loop-number
invariant-loop-number l = record {
  within : l.number ≤ l.count;
  front : take (l.filled + 8 * l.number) l.block ≡ take l.filled l.initial.block ++ flat_map (little_bytes 8) (map (key_at l.seed) (range_with_len (l.done + 1) l.number));
}
