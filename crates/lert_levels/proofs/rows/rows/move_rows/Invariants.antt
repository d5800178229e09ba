use Rattle.std.proofs.Common.{ℕ, ◌≡◌, ◌+◌, ◌<◌, ◌≤◌, List, [], get_or}
use Rattle.lert_levels.specs.{declared.rows.bin_at.BinAt.BinAt, rows.Rows.moved_row}
use Rattle.lert_levels.proofs.rows.rows.move_rows.Given as goal

-- the rows so far are moved on, and those behind them are as they were
abbrev pub invariant-loop-lower : goal.invariant-loop-lower
invariant-loop-lower l = record {
  done : (k : ℕ) → k < l.lower → get_or l.rows k [] ≡ moved_row l.settings l.m (k + 1) (get_or l.fn.rows k []);
  left : (k : ℕ) (d : List BinAt) → l.lower ≤ k → get_or l.rows k d ≡ get_or l.fn.rows k d;
}
