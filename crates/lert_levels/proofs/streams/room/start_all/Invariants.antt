use Rattle.std.{proofs.Common.{◌≡◌, ◌+◌, ◌≤◌, length, take}, specs.Vec.vec_capacity}
use Rattle.lert_levels.specs.streams.Tables.{AreStartedOn}
use Rattle.lert_levels.proofs.streams.room.start_all.Given as goal

abbrev pub invariant-loop-table : goal.invariant-loop-table
invariant-loop-table g l = record {
  started : AreStartedOn (λ table. g.T.CountTable.quotient_bits table + g.T.CountTable.width table) (λ table cursor. g.T.CountTable.left table cursor.place) (λ cursor. cursor.gave)
      (λ table cursor. g.T.CountTable.stands table cursor.place) g.T.CountTable.pieces (take l.table-index l.tables) l.cursors.items;
  len : length l.cursors.items ≡ l.table-index;
  room : vec_capacity l.fn.cursors ≤ vec_capacity l.cursors;
}
