use Rattle.std.proofs.Common.{[], ap}
use Rattle.circular_buffer.specs.Buffer.{Buffer}
use Rattle.lert_spec.specs.declared.item.Item.{Item}
use Rattle.lert_buffers.proofs.RingLemmas.{held}
use Rattle.lert_buffers.proofs.buffers.Buffers.take.Goals as goal

pub returns-clause-rings : goal.returns-clause-rings
returns-clause-rings c =
    held c.args.self.now c.self.inside.packet c.self.inside.rings.items c.args.cone c.drain.new.ring [] c.self.view_is
    (ap (λ (r : Buffer Item). r.items) c.drain.ensures.ring)
