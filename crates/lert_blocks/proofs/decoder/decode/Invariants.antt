use Rattle.std.proofs.Common.{◌≡◌, ◌-◌, ◌<◌, ◌^◌, vec_capacity}
use Rattle.lert_blocks.proofs.StepLaws.{Goes, walk_at}
use Rattle.lert_blocks.proofs.decoder.decode.Given as goal

abbrev pub invariant-loop-at : goal.invariant-loop-at
invariant-loop-at l = record {
  goes : Goes l.width l.first l.from l.slots l.walk (walk_at l.occupied l.least) l.at l.initial.pieces.items l.pieces.items;
  fits : l.occupied < 2 ^ 64;
  capacity : vec_capacity l.pieces ≡ vec_capacity l.initial.pieces;
}

abbrev pub decreases-loop-at : goal.decreases-loop-at
decreases-loop-at l = l.word - l.at
