use Rattle.std.proofs.Common.{◌≡◌, ◌+◌, ◌≤◌, length, map, take, ◌++◌, ◌∷◌, vec_capacity}
use Rattle.lert_levels.proofs.rows.directory.lay_row.Given as goal

abbrev pub invariant-loop-bin : goal.invariant-loop-bin
invariant-loop-bin l = record {
  text : l.directory.items ≡ l.fn.directory.items ++ (length l.row ∷ map (λ bin. bin.frame) (take l.bin-index l.row));
  room : length l.fn.directory.items + 1 + length l.row ≤ vec_capacity l.directory;
  grows : vec_capacity l.fn.directory ≤ vec_capacity l.directory;
}
