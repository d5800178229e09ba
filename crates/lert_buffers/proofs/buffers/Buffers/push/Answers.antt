use Rattle.std.proofs.Common.{◌++◌, ◌∷◌, [], ap, ◌∙◌}
use Rattle.circular_buffer.specs.Buffer.{Buffer}
use Rattle.lert_buffers.proofs.RingLemmas.{has_ring, held, is_short, kept, ring_at, roomy_pushed}
use Rattle.lert_spec.specs.declared.item.Item.{Item}
use Rattle.lert_buffers.proofs.buffers.Buffers.push.Goals as goal

pub returns-clause-rings : goal.returns-clause-rings
returns-clause-rings c =
    let old = c.args.self.now in
    let packet = c.self.inside.packet in
    let rings = c.self.inside.rings.items in
    let item : Item = record { key = c.args.key; weight = c.args.weight } in
    let ring = c.index_mut-ring.result.now in
    let short = is_short old packet rings c.args.cone ring c.self.view_is c.self.invariant c.requires.cone c.index_mut-ring.ensures.value c.requires.room in
    held old packet rings c.args.cone c.push_back.new.self _ c.self.view_is
    (ap (λ (r : Buffer Item). r.items) c.push_back.ensures.items
    ∙ (kept ring item short ∙ ap (λ xs. xs ++ item ∷ []) (ring_at old packet rings c.args.cone ring c.self.view_is c.requires.cone c.index_mut-ring.ensures.value)))

pub invariant_of-self : goal.invariant_of-self
invariant_of-self c =
    let old = c.args.self.now in
    let packet = c.self.inside.packet in
    let rings = c.self.inside.rings.items in
    let ring = c.index_mut-ring.result.now in
    let short = is_short old packet rings c.args.cone ring c.self.view_is c.self.invariant c.requires.cone c.index_mut-ring.ensures.value c.requires.room in
    roomy_pushed packet rings c.args.cone ring c.push_back.new.self (record { key = c.args.key; weight = c.args.weight }) c.self.invariant
    (has_ring old packet rings c.args.cone c.self.view_is c.requires.cone) c.index_mut-ring.ensures.value short c.requires.some c.push_back.ensures.items
