use Rattle.std.proofs.Common.{ℕ, ◌≡◌, ◌<◌, List, length, take, get_or}
use Rattle.lert_levels.specs.{declared.rows.bin_at.BinAt.BinAt, rows.Named.AreNamed, rows.Rows.directory_text}
use Rattle.lert_levels.proofs.rows.named.restore_rows.Given as goal

-- the rows so far are those that the directory names, and the text of the others begins here
abbrev pub invariant-loop-lower : goal.invariant-loop-lower
invariant-loop-lower l = record {
  place : (named : List (List BinAt)) → AreNamed l.settings l.n0 l.directory named → l.at ≡ length (directory_text (take l.lower named));
  done : (named : List (List BinAt)) → AreNamed l.settings l.n0 l.directory named → (k : ℕ) (d : List BinAt) → k < l.lower → get_or l.rows k d ≡ get_or named k d;
}
