use Rattle.lert_worker.specs.Outbox.{AreDrained, IsIdle, IsSameOutbox}
use Rattle.lert_worker.proofs.outbox.Outbox.drop_items.Given as goal

-- the rings so far have no items
abbrev pub invariant-loop-cone : goal.invariant-loop-cone
invariant-loop-cone l = record {
  idle : IsIdle l.self;
  same : IsSameOutbox l.fn.self l.self;
  drained : AreDrained l.cone l.self.rings;
}
