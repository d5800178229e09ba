use Rattle.std.proofs.Common.{List, ◌-◌}
use Rattle.lert_spec.specs.declared.item.Item.{Item}
use Rattle.lert_worker.specs.{Ends.WasRead, Outbox.{HaveRoom, IsSame, MaySend}, Sending.Lanes}
use Rattle.lert_worker.proofs.sending.read_items.Given as goal

-- the items that were read are in the cones and in the rings
abbrev pub invariant-loop-item : goal.invariant-loop-item
invariant-loop-item g l = record {
  may : MaySend g.H.Held l.fleet l.pass l.outbox;
  room : HaveRoom l.outbox.settings l.outbox.rings;
  same : IsSame l.fn.outbox l.outbox l.fn.pass l.pass;
  items : List Item;
  read : WasRead g.S.Source.remaining g.S.Faulty.faults g.S.Faulty.mark l.fn.reader l.reader items;
  lanes : Lanes l.fn.outbox.settings l.fn.outbox.entry.by l.fn.outbox.entry.trace 0 items l.fn.pass l.pass l.outbox.rings;
}

abbrev pub decreases-loop-item : goal.decreases-loop-item
decreases-loop-item g l = l.reader.limit - l.reader.given
