use Rattle.std.proofs.Common.{◌≡◌, ◌≤◌, [], length, vec_capacity}
use Rattle.lert_fleet.proofs.Joining.{IsJoining}
use Rattle.lert_fleet.proofs.fleet.Fleet.join.Given as goal

abbrev pub invariant-loop-own : goal.invariant-loop-own
invariant-loop-own g l = record {
  joining : IsJoining l.fn.pass l.fn.other l.cones.items l.pass-inside.lo l.pass-inside.hi l.pass-inside.cones.items;
  emptied : l.pass-inside.states.items ≡ [];
  room : l.pass-inside.lo ≡ 0 → length l.pass-inside.cones.items ≤ vec_capacity l.pass-inside.states;
}

abbrev pub decreases-loop-own : goal.decreases-loop-own
decreases-loop-own g l = goal.left-loop-own g l
