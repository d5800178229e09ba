use Rattle.std.proofs.Common.{◌+◌, ◌≤◌, length, map, vec_capacity}
use Rattle.crossbeam_utils.specs.Padded.{padded_value}
use Rattle.lert_fleet.proofs.Closing.{IsClosing}
use Rattle.lert_fleet.proofs.rows.close_each.Given as goal

abbrev pub invariant-loop-lock : goal.invariant-loop-lock
invariant-loop-lock g l = record {
  closing : IsClosing g.S.Held (map padded_value l.fn.locks.items) l.fn.passes.items l.fn.states.items
      (map padded_value l.locks.items) l.passes.items l.states.items;
  room : length l.states.items + length l.locks.items ≤ vec_capacity l.states;
}

abbrev pub decreases-loop-lock : goal.decreases-loop-lock
decreases-loop-lock g l = length l.locks.items
