use Rattle.std.proofs.Common.{◌*◌, ◌<◌, [], length, ap, sym, ◌∙◌, subst, arith}
use Rattle.lert_base.specs.{Entries.packet_of, declared.entry.Entry.Entry}
use Rattle.lert_buffers.specs.Rings.{ring_of}
use Rattle.lert_worker.specs.Sending.{packet_with}
use Rattle.lert_worker.proofs.{MayLaws.{alike_with, emptied_by, fits_cone, may_on, same_after}, OutboxLaws.{taken_at, turned_at}, outbox.Outbox.wait_packet.Goals.{in-Ok, in-Err}}
use Rattle.lert_worker.proofs.outbox.Outbox.wait_packet.Goals as goal

pub take-requires-clause-cone : goal.take-requires-clause-cone
take-requires-clause-cone g c = subst (λ n. c.args.cone < n) (sym c.requires.may.idle.rings_are) c.requires.cone

pub take-requires-clause-empty : goal.take-requires-clause-empty
take-requires-clause-empty g c = c.requires.may.idle.empty

pub take-requires-clause-room : goal.take-requires-clause-room
take-requires-clause-room g c = c.requires.may.idle.room ∙ sym (ap (λ n. 4 * n) c.requires.may.idle.packet_is)

pub admit-admitted-requires-clause-cone : goal.admit-admitted-requires-clause-cone
admit-admitted-requires-clause-cone g c = subst (λ n. c.args.cone < n) (sym c.requires.may.cones) c.requires.cone

pub admit-admitted-requires-clause-belongs : goal.admit-admitted-requires-clause-belongs
admit-admitted-requires-clause-belongs g c = c.requires.may.belongs

pub admit-admitted-requires-clause-number : goal.admit-admitted-requires-clause-number
admit-admitted-requires-clause-number g c = ap (λ (e : Entry). e.by) c.take.ensures.entry ∙ c.requires.may.by_is

pub admit-admitted-requires-clause-fits : goal.admit-admitted-requires-clause-fits
admit-admitted-requires-clause-fits g c =
    fits_cone g.H.Held c.args.fleet.now c.args.pass.now c.args.self.now c.args.cone (packet_of c.take.new.entry) c.requires.may c.requires.items (ap packet_of c.take.ensures.entry)

-- the entry is empty behind the call, whatever came of it
pub returns-clause-may : goal.returns-clause-may
returns-clause-may g c =
    let outbox = c.args.self.now in
    let mid = c.take.new.entry in
    may_on g.H.Held c.args.fleet.now c.args.pass.now outbox c.admit-admitted.new.pass c.args.cone c.take.new.self (record mid { keys = c.clear.new.self })
    c.requires.may c.admit-admitted.ensures.belongs c.admit-admitted.ensures.others
    (alike_with outbox.rings c.take.new.self c.args.cone [] c.take.ensures.rings)
    (emptied_by outbox.entry mid (ring_of outbox.rings c.args.cone) c.clear.new.self c.take.ensures.entry c.clear.ensures)

pub returns-clause-same : goal.returns-clause-same
returns-clause-same g c =
    let outbox = c.args.self.now in
    let mid = c.take.new.entry in
    same_after g.H.Held c.args.fleet.now c.args.pass.now outbox c.admit-admitted.new.pass c.args.cone c.take.new.self (record mid { keys = c.clear.new.self })
    c.admit-admitted.ensures.others
    (emptied_by outbox.entry mid (ring_of outbox.rings c.args.cone) c.clear.new.self c.take.ensures.entry c.clear.ensures)

pub returns-clause-others : goal.returns-clause-others
returns-clause-others g c = c.admit-admitted.ensures.others

pub returns-clause-dropped : goal.returns-clause-dropped
returns-clause-dropped g c = elim c.match-admitted.branch [
  | in-Ok w ↦ rw w.result-is tt
  | in-Err w ↦ rw w.result-is c.take.ensures.rings
]

pub returns-clause-done : goal.returns-clause-done
returns-clause-done g c =
    let within : c.args.cone < length c.args.fleet.now = omega (arith, c.requires.cone, c.requires.may.cones) in
    elim c.match-admitted.branch [
      | in-Ok w ↦ rw w.result-is (record {
        rings_are = c.take.ensures.rings;
        at = taken_at g.H.Held c.args.fleet.now c.args.cone within (packet_of c.take.new.entry) (packet_with c.args.self.now (ring_of c.args.self.now.rings c.args.cone))
            (ap packet_of c.take.ensures.entry) c.args.pass.now c.admit-admitted.new.pass 1 w.in-Ok.field-0 w.in-Ok.ensures.done c.admit-admitted.ensures.kept;
      })
      | in-Err w ↦ rw w.result-is tt
    ]

pub returns-clause-refused : goal.returns-clause-refused
returns-clause-refused g c =
    let within : c.args.cone < length c.args.fleet.now = omega (arith, c.requires.cone, c.requires.may.cones) in
    elim c.match-admitted.branch [
      | in-Ok w ↦ rw w.result-is tt
      | in-Err w ↦ rw w.result-is
          (turned_at g.H.Held c.args.fleet.now c.args.cone within (packet_of c.take.new.entry) (packet_with c.args.self.now (ring_of c.args.self.now.rings c.args.cone))
          (ap packet_of c.take.ensures.entry) c.args.pass.now c.admit-admitted.new.pass 1 w.in-Err.fault w.in-Err.ensures.refused c.admit-admitted.ensures.kept)
    ]
