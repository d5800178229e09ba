use Rattle.std.proofs.Common.{◌≡◌, ◌+◌, ◌≤◌, List, length, map, vec_capacity}
use Rattle.std.specs.Prelude.{All}
use Rattle.crossbeam_utils.specs.Padded.{padded_value}
use Rattle.lert_base.specs.Packet.{Packet}
use Rattle.lert_fleet.proofs.Locking.{IsLocking}
use Rattle.lert_fleet.proofs.rows.lock_each.Given as goal

abbrev pub invariant-loop-state : goal.invariant-loop-state
invariant-loop-state g l = record {
  locking : IsLocking l.numbers l.fn.states.items l.states.items (map padded_value l.locks.items) l.passes.items;
  opened : All (λ state. (h : List Packet) × g.S.Held.stands_for state h) l.states.items;
  locks_room : length l.states.items + length l.locks.items ≤ vec_capacity l.locks;
  passes_room : length l.states.items + length l.passes.items ≤ vec_capacity l.passes;
  states_room : length l.states.items + length l.locks.items ≤ vec_capacity l.states;
  capacity : vec_capacity l.states ≡ vec_capacity l.fn.states;
}

abbrev pub decreases-loop-state : goal.decreases-loop-state
decreases-loop-state g l = length l.states.items
