use Rattle.std.proofs.Common.{List}
use Rattle.lert_spec.specs.declared.item.Item.{Item}
use Rattle.lert_base.specs.declared.cone_fault.ConeFault.{ConeFault}
use Rattle.lert_fleet.specs.Cones.{FleetPassSight}
use Rattle.lert_worker.specs.{Outbox.{AreDrained, HaveRoom, IsSame, MaySend}, Sending.{AreSent, Lanes}, declared.end.WorkerEnd.TheVariants.Ran}
use Rattle.lert_worker.proofs.sending.send_rests.Given as goal

-- the cones so far have the rests of their rings, and the others are as they were
abbrev pub invariant-loop-cone : goal.invariant-loop-cone
invariant-loop-cone g l = record {
  may : MaySend g.H.Held l.fleet l.pass l.outbox;
  room : HaveRoom l.outbox.settings l.outbox.rings;
  same : IsSame l.fn.outbox l.outbox l.fn.pass l.pass;
  drained : AreDrained l.cone l.outbox.rings;
  lanes : (start : FleetPassSight g.row.H.Denot ConeFault) (items : List Item) → Lanes l.fn.outbox.settings l.fn.outbox.entry.by l.fn.outbox.entry.trace 0 items start l.fn.pass l.fn.outbox.rings
      → Lanes l.fn.outbox.settings l.fn.outbox.entry.by l.fn.outbox.entry.trace l.cone items start l.pass l.outbox.rings;
  sent : (start : FleetPassSight g.row.H.Denot ConeFault) (items : List Item) → Lanes l.fn.outbox.settings l.fn.outbox.entry.by l.fn.outbox.entry.trace 0 items start l.fn.pass l.fn.outbox.rings
      → AreSent l.fn.outbox.settings l.fn.outbox.entry.by l.fn.outbox.entry.trace l.cone items Ran start l.pass;
}
