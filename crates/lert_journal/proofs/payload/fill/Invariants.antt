use Rattle.std.proofs.Common.{◌≡◌, map}
use Rattle.std.specs.List.{range_with_len}
use Rattle.lert_journal.specs.Payload.{item_in}
use Rattle.lert_journal.proofs.payload.fill.Given as goal

-- the items so far are in the list, and all else is as it was
abbrev pub invariant-loop-n : goal.invariant-loop-n
invariant-loop-n l = record {
  items : l.entry.keys.items ≡ map (item_in l.version l.payload) (range_with_len 0 l.n);
  room : l.entry.keys.room ≡ l.initial.entry.keys.room;
  by : l.entry.by ≡ l.initial.entry.by;
  trace : l.entry.trace ≡ l.initial.entry.trace;
}
