use Rattle.std.proofs.Common.{◌≡◌, ◌≤◌, length, take, vec_capacity}
use Rattle.lert_levels.specs.rows.Rows.{directory_text}
use Rattle.lert_levels.proofs.rows.directory.lay_directory.Given as goal

abbrev pub invariant-loop-row : goal.invariant-loop-row
invariant-loop-row l = record {
  text : l.directory.items ≡ directory_text (take l.row-index l.rows);
  room : length (directory_text l.rows) ≤ vec_capacity l.directory;
  grows : vec_capacity l.fn.directory ≤ vec_capacity l.directory;
}
