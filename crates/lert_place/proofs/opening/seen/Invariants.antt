use Rattle.std.proofs.Common.{◌≡◌, take}
use Rattle.lert_place.proofs.opening.seen.Given as goal

-- the bytes so far were seen
abbrev pub invariant-loop-byte : goal.invariant-loop-byte
invariant-loop-byte l = l.seen ≡ take l.byte-index l.byte-items
