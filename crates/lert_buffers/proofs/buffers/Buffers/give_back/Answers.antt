use Rattle.std.proofs.Common.{◌++◌, ap, ◌∙◌}
use Rattle.circular_buffer.specs.Buffer.{Buffer}
use Rattle.lert_spec.specs.declared.item.Item.{Item}
use Rattle.lert_buffers.proofs.RingLemmas.{held, ring_at}
use Rattle.lert_buffers.proofs.buffers.Buffers.give_back.Goals as goal

pub returns-clause-rings : goal.returns-clause-rings
returns-clause-rings c =
    let items = c.args.entry.now.keys.items in
    held c.args.self.now c.self.inside.packet c.self.inside.rings.items c.args.cone c.refill.new.ring items c.self.view_is
    (ap (λ (r : Buffer Item). r.items) c.refill.ensures.ring
    ∙ ap (λ xs. xs ++ items)
    (ring_at c.args.self.now c.self.inside.packet c.self.inside.rings.items c.args.cone c.index_mut.result.now c.self.view_is c.requires.cone c.index_mut.ensures.value ∙ c.requires.empty))
