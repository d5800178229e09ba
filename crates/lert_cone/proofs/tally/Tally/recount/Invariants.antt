use Rattle.std.proofs.Common.{◌≡◌, ◌++◌, take}
use Rattle.lert_cone.specs.Tally.{IsRecounted}
use Rattle.lert_cone.proofs.tally.Tally.recount.Given as goal

-- the items so far are taken
abbrev pub invariant-loop-number : goal.invariant-loop-number
invariant-loop-number g l = record {
  listing : l.self.listing ≡ record l.fn.self.listing { events = l.fn.self.listing.events ++ take l.number l.fn.items };
  rows : l.self.rows ≡ l.fn.self.rows;
  due : l.self.due ≡ l.fn.self.due;
  recounted : IsRecounted l.self l.n0;
}
