use Rattle.std.proofs.Common.{◌≡◌, ◌*◌, ◌^◌, ◌≤◌, take}
use Rattle.lert_spec.specs.Table.{costs, total}
use Rattle.lert_frames.proofs.filling.add_up.Given as goal

-- the sums so far, of so many counts
abbrev pub invariant-loop-piece : goal.invariant-loop-piece
invariant-loop-piece l = record {
  costs : l.costs ≡ costs l.version (take l.piece-index l.pieces);
  counts : l.counts ≡ total (take l.piece-index l.pieces);
  cheap : l.costs ≤ l.counts;
  few : l.counts ≤ l.piece-index * 2 ^ 47;
}
