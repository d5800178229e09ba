use Rattle.std.proofs.Common.{◌*◌, ◌<◌, [], length, ap, sym, ◌∙◌, subst, arith, inl, inr}
use Rattle.lert_base.specs.{declared.entry.Entry.Entry, Entries.packet_of}
use Rattle.lert_buffers.specs.Rings.{ring_of}
use Rattle.lert_worker.specs.Sending.{packet_with}
use Rattle.lert_worker.proofs.MayLaws.{alike_same, alike_with, emptied_back, emptied_by, fits_cone, may_on, room_back, same_after, still_empty, still_within}
use Rattle.lert_worker.proofs.{OutboxLaws.{busy_at, given_back, taken_at, turned_at}, outbox.Outbox.try_packet.Goals.{in-Done, in-Refused, in-Busy}}
use Rattle.lert_worker.proofs.outbox.Outbox.try_packet.Goals as goal

pub take-requires-clause-cone : goal.take-requires-clause-cone
take-requires-clause-cone g c = subst (λ n. c.args.cone < n) (sym c.requires.may.idle.rings_are) c.requires.cone

pub take-requires-clause-empty : goal.take-requires-clause-empty
take-requires-clause-empty g c = c.requires.may.idle.empty

pub take-requires-clause-room : goal.take-requires-clause-room
take-requires-clause-room g c = c.requires.may.idle.room ∙ sym (ap (λ n. 4 * n) c.requires.may.idle.packet_is)

pub try_admit-requires-clause-cone : goal.try_admit-requires-clause-cone
try_admit-requires-clause-cone g c = subst (λ n. c.args.cone < n) (sym c.requires.may.cones) c.requires.cone

pub try_admit-requires-clause-belongs : goal.try_admit-requires-clause-belongs
try_admit-requires-clause-belongs g c = c.requires.may.belongs

pub try_admit-requires-clause-number : goal.try_admit-requires-clause-number
try_admit-requires-clause-number g c = ap (λ (e : Entry). e.by) c.take.ensures.entry ∙ c.requires.may.by_is

pub try_admit-requires-clause-fits : goal.try_admit-requires-clause-fits
try_admit-requires-clause-fits g c =
    fits_cone g.H.Held c.args.fleet.now c.args.pass.now c.args.self.now c.args.cone (packet_of c.take.new.entry) c.requires.may c.requires.items (ap packet_of c.take.ensures.entry)

pub give_back-requires-clause-cone : goal.give_back-requires-clause-cone
give_back-requires-clause-cone g c =
    still_within c.args.self.now.rings c.take.new.self c.args.cone c.take.ensures.rings (subst (λ n. c.args.cone < n) (sym c.requires.may.idle.rings_are) c.requires.cone)

pub give_back-requires-clause-empty : goal.give_back-requires-clause-empty
give_back-requires-clause-empty g c =
    still_empty c.args.self.now.rings c.take.new.self c.args.cone c.take.ensures.rings (subst (λ n. c.args.cone < n) (sym c.requires.may.idle.rings_are) c.requires.cone)

pub give_back-requires-clause-room : goal.give_back-requires-clause-room
give_back-requires-clause-room g c =
    room_back c.args.self.now c.take.new.self c.take.new.entry c.args.cone c.requires.may.idle.packet_is c.take.ensures.rings c.take.ensures.entry c.requires.items

-- the entry is empty behind the call, whatever came of it
pub returns-clause-may : goal.returns-clause-may
returns-clause-may g c =
    let outbox = c.args.self.now in
    let mid = c.take.new.entry in
    let on = may_on g.H.Held c.args.fleet.now c.args.pass.now outbox c.try_admit.new.pass c.args.cone in
    elim c.match-try_admit.branch [
      | in-Done w ↦ rw w.self-is
          (on c.take.new.self (record mid { keys = w.clear.new.self }) c.requires.may c.try_admit.ensures.belongs c.try_admit.ensures.others
          (alike_with outbox.rings c.take.new.self c.args.cone [] c.take.ensures.rings)
          (emptied_by outbox.entry mid (ring_of outbox.rings c.args.cone) w.clear.new.self c.take.ensures.entry w.clear.ensures))
      | in-Refused w ↦ rw w.self-is
          (on c.take.new.self (record mid { keys = w.clear-in-Refused.new.self }) c.requires.may c.try_admit.ensures.belongs c.try_admit.ensures.others
          (alike_with outbox.rings c.take.new.self c.args.cone [] c.take.ensures.rings)
          (emptied_by outbox.entry mid (ring_of outbox.rings c.args.cone) w.clear-in-Refused.new.self c.take.ensures.entry w.clear-in-Refused.ensures))
      | in-Busy w ↦ rw w.self-is
          (on w.give_back.new.self w.give_back.new.entry c.requires.may c.try_admit.ensures.belongs c.try_admit.ensures.others
          (alike_same outbox.rings w.give_back.new.self
          (given_back outbox.rings c.take.new.self w.give_back.new.self c.args.cone mid.keys.items c.take.ensures.rings (ap (λ (e : Entry). e.keys.items) c.take.ensures.entry)
          w.give_back.ensures.rings))
          (emptied_back outbox.entry mid w.give_back.new.entry (ring_of outbox.rings c.args.cone) c.take.ensures.entry w.give_back.ensures.entry))
    ]

pub returns-clause-same : goal.returns-clause-same
returns-clause-same g c =
    let outbox = c.args.self.now in
    let mid = c.take.new.entry in
    let after = same_after g.H.Held c.args.fleet.now c.args.pass.now outbox c.try_admit.new.pass c.args.cone in
    elim c.match-try_admit.branch [
      | in-Done w ↦ rw w.self-is
          (after c.take.new.self (record mid { keys = w.clear.new.self }) c.try_admit.ensures.others
          (emptied_by outbox.entry mid (ring_of outbox.rings c.args.cone) w.clear.new.self c.take.ensures.entry w.clear.ensures))
      | in-Refused w ↦ rw w.self-is
          (after c.take.new.self (record mid { keys = w.clear-in-Refused.new.self }) c.try_admit.ensures.others
          (emptied_by outbox.entry mid (ring_of outbox.rings c.args.cone) w.clear-in-Refused.new.self c.take.ensures.entry w.clear-in-Refused.ensures))
      | in-Busy w ↦ rw w.self-is
          (after w.give_back.new.self w.give_back.new.entry c.try_admit.ensures.others
          (emptied_back outbox.entry mid w.give_back.new.entry (ring_of outbox.rings c.args.cone) c.take.ensures.entry w.give_back.ensures.entry))
    ]

pub returns-clause-others : goal.returns-clause-others
returns-clause-others g c = c.try_admit.ensures.others

pub returns-clause-dropped : goal.returns-clause-dropped
returns-clause-dropped g c = elim c.match-try_admit.branch [
  | in-Done w ↦ rw w.result-is tt
  | in-Refused w ↦ rw (w.result-is, w.self-is) c.take.ensures.rings
  | in-Busy w ↦ rw w.result-is tt
]

pub returns-clause-done : goal.returns-clause-done
returns-clause-done g c =
    let within : c.args.cone < length c.args.fleet.now = omega (arith, c.requires.cone, c.requires.may.cones) in
    elim c.match-try_admit.branch [
      | in-Done w ↦ rw (w.result-is, w.self-is) (inl (record {
        rings_are = c.take.ensures.rings;
        at = taken_at g.H.Held c.args.fleet.now c.args.cone within (packet_of c.take.new.entry) (packet_with c.args.self.now (ring_of c.args.self.now.rings c.args.cone))
            (ap packet_of c.take.ensures.entry) c.args.pass.now c.try_admit.new.pass 0 w.in-Done.field-0 (c.try_admit.ensures.done w.in-Done.field-0 w.in-Done.is) c.try_admit.ensures.kept;
      }))
      | in-Refused w ↦ rw w.result-is tt
      | in-Busy w ↦ rw (w.result-is, w.self-is) (inr (record {
        rings_are = given_back c.args.self.now.rings c.take.new.self w.give_back.new.self c.args.cone c.take.new.entry.keys.items c.take.ensures.rings
            (ap (λ (e : Entry). e.keys.items) c.take.ensures.entry) w.give_back.ensures.rings;
        at = busy_at c.args.fleet.now c.args.cone within c.args.pass.now c.try_admit.new.pass (c.try_admit.ensures.busy w.in-Busy.is) c.try_admit.ensures.kept;
      }))
    ]

pub returns-clause-refused : goal.returns-clause-refused
returns-clause-refused g c =
    let within : c.args.cone < length c.args.fleet.now = omega (arith, c.requires.cone, c.requires.may.cones) in
    elim c.match-try_admit.branch [
      | in-Done w ↦ rw w.result-is tt
      | in-Refused w ↦ rw w.result-is
          (turned_at g.H.Held c.args.fleet.now c.args.cone within (packet_of c.take.new.entry) (packet_with c.args.self.now (ring_of c.args.self.now.rings c.args.cone))
          (ap packet_of c.take.ensures.entry) c.args.pass.now c.try_admit.new.pass 0 w.in-Refused.fault (c.try_admit.ensures.refused w.in-Refused.fault w.in-Refused.is) c.try_admit.ensures.kept)
      | in-Busy w ↦ rw w.result-is tt
    ]
