use Rattle.std.proofs.Common.{◌≡◌, ◌+◌, ◌/◌, map, take}
use Rattle.std.specs.List.{range_with_len}
use Rattle.lert_levels.specs.{rows.Ranges.range_at, rows.Rows.range_of}
use Rattle.lert_levels.proofs.rows.named.restore_row.Given as goal

-- the bins so far are those of the first intervals, in the first frames
abbrev pub invariant-loop-frame : goal.invariant-loop-frame
invariant-loop-frame l = record {
  place : l.interval ≡ l.low / l.wide + l.frame-index;
  ranges : map range_of l.row ≡ map (range_at l.wide l.low l.high) (range_with_len (l.low / l.wide) l.frame-index);
  frames : map (λ bin. bin.frame) l.row ≡ take l.frame-index l.frames;
}
