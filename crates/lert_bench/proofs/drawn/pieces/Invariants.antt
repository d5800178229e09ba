use Rattle.std.proofs.Common.{◌<◌, ◌≤◌, ◌+◌, ◌^◌}
use Rattle.lert_spec.specs.Table.{total, AreGiven}
use Rattle.lert_bench.proofs.drawn.pieces.Given as goal

-- the tails so far, and for each piece to come an event is left beside those to spare
abbrev pub invariant-loop : goal.invariant-loop
invariant-loop l = record {
  given : AreGiven l.least l.pieces.items;
  low : l.least < 2 ^ 64;
  counted : l.counter ≤ l.len;
  summed : total l.pieces.items + l.spare + l.len ≤ l.most + l.counter;
}
