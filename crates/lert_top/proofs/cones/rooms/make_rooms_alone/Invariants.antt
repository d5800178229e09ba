use Rattle.std.proofs.Common.{◌≡◌, length}
use Rattle.std.specs.Prelude.{All}
use Rattle.lert_ingest.specs.Cones.{IsNewRoom}
use Rattle.lert_top.proofs.cones.rooms.make_rooms_alone.Given as goal

-- a room for each cone so far
abbrev pub invariant-loop : goal.invariant-loop
invariant-loop l = record {
  number : length l.rooms.items ≡ l.counter;
  each : All (IsNewRoom l.settings) l.rooms.items;
}
