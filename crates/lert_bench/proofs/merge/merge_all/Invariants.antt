use Rattle.std.proofs.Common.{ℕ, ◌*◌, ◌≤◌, List}
use Rattle.lert_levels.specs.landing.Whole.{Takes, AreUpTo}
use Rattle.lert_merge.specs.order.Ordering.{IsNotBelow}
use Rattle.lert_spec.specs.declared.piece.Piece.{Piece}
use Rattle.lert_spec.specs.Table.{total}
use Rattle.lert_bench.specs.Streams.{took_any}
use Rattle.lert_bench.proofs.merge.merge_all.Given as goal

-- what the checksum took and the open sum are a list of tails that came, and its counts can be added up
abbrev pub invariant-loop : goal.invariant-loop
invariant-loop l = record {
  list : List Piece;
  takes : Takes took_any l.checksum l.sum list;
  up : (tail : ℕ) → IsNotBelow l.order.last tail → AreUpTo tail list;
  fits : total list ≤ 32768 * l.counter;
}
