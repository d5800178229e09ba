use Rattle.std.proofs.Common.{◌≡◌, vec_capacity}
use Rattle.lert_fleet.proofs.Splitting.{IsSplitting}
use Rattle.lert_fleet.proofs.fleet.Fleet.split.Given as goal

abbrev pub invariant-loop-cone : goal.invariant-loop-cone
invariant-loop-cone g l = record {
  splitting : IsSplitting l.at l.fn.pass.cones l.cone l.pass-inside.cones.items l.cones.items;
  lo : l.pass-inside.lo ≡ l.fn.pass.lo;
  hi : l.pass-inside.hi ≡ l.fn.pass.hi;
  room : vec_capacity l.cones ≡ vec_capacity l.initial.cones;
}
