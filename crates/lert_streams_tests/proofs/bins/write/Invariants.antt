use Rattle.std.proofs.Common.{◌≡◌, take}
use Rattle.lert_streams_tests.proofs.bins.write.Given as goal

-- the pieces so far were put
abbrev pub invariant-loop-piece : goal.invariant-loop-piece
invariant-loop-piece l = record {
  put : l.writer.put ≡ take l.piece-index l.pieces;
  settings : l.writer.settings ≡ l.fn.writer.settings;
  level : l.writer.level ≡ l.fn.writer.level;
}
