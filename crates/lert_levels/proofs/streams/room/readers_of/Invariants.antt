use Rattle.std.proofs.Common.{◌≡◌, length}
use Rattle.lert_levels.specs.streams.Tables.{AreReadersOf}
use Rattle.lert_levels.proofs.streams.room.readers_of.Given as goal

abbrev pub invariant-loop : goal.invariant-loop
invariant-loop l = record {
  of_settings : AreReadersOf l.fn.settings l.readers.items;
  len : length l.readers.items ≡ l.counter;
}
