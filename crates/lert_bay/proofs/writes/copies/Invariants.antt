use Rattle.std.proofs.Common.{◌≡◌, map, take}
use Rattle.lert_bay.specs.Pending.{kept_by}
use Rattle.lert_bay.proofs.writes.copies.Given as goal

-- the writes so far were copied
abbrev pub invariant-loop-write : goal.invariant-loop-write
invariant-loop-write l = map kept_by l.copies.items ≡ map kept_by (take l.write-index l.writes)
