use Rattle.lert_spec.proofs.ItemLaws.{length-keys_in}
use Rattle.lert_bay.specs.Kept.{seen_by}
use Rattle.std.proofs.Common.{◌+◌, ◌*◌, ◌≤◌, ℕ, length, ap, subst, sym, arith}
use Rattle.lert_gatelog.specs.Gated.{IsClosed}
use Rattle.lert_cone.proofs.{PacketTaken.{AppendsPacket, packet_refused, can_take_then, packet_taken}}
use Rattle.lert_bay.proofs.KeptLaws.{IsLawful}
use Rattle.lert_cone.proofs.keys.take_packet.Given as given
use Rattle.lert_cone.proofs.keys.take_packet.Goals as goal
use Rattle.lert_cone.proofs.ItemLaws.{items_fit, items_most}
use Rattle.lert_journal.specs.Payload.{item_len}
use Rattle.lert_spec.specs.Items.{AreOfVersion}
use Rattle.lert_base.specs.Entries.{packet_of}

lawful : (g : given.Over) → IsLawful (seen_by g.B.Faulty g.B.Bay)
lawful g = record { as_read = g.met.B.Bay.as_read; since_now = g.met.B.Bay.since_now; only_now = g.met.B.Bay.only_now; since_earlier = g.met.B.Bay.since_earlier }

pub append_entry-requires-clause-some : goal.append_entry-requires-clause-some
append_entry-requires-clause-some g c = c.requires.journaled.some

pub append_entry-requires-clause-weighed : goal.append_entry-requires-clause-weighed
append_entry-requires-clause-weighed g c = subst (λ v. AreOfVersion v c.args.entry.now.keys.items) (sym c.version.ensures.value) c.requires.journaled.weighed

pub append_entry-requires-clause-few : goal.append_entry-requires-clause-few
append_entry-requires-clause-few g c = subst (λ v. 8 + item_len v * length c.args.entry.now.keys.items ≤ c.args.journal.now.most) (sym c.version.ensures.value)
    (omega (arith, c.requires.most, items_fit c.args.tally.now.listing.version (length c.args.entry.now.keys.items) c.args.tally.now.listing.settings.packet c.requires.journaled.few))

pub append_entry-requires-clause-room : goal.append_entry-requires-clause-room
append_entry-requires-clause-room g c = c.requires.roomy

pub append_entry-requires-clause-reach : goal.append_entry-requires-clause-reach
append_entry-requires-clause-reach g c = omega (
  arith,
  c.requires.reach,
  length-keys_in c.args.entry.now.keys.items,
  items_most c.version.result (length c.args.entry.now.keys.items),
)

pub append_entry-requires-clause-closed : goal.append_entry-requires-clause-closed
append_entry-requires-clause-closed g c = λ seen told image may.
    subst (λ (f : ℕ). IsClosed (image f) c.args.journal.now.gate) (sym c.requires.file) ((c.requires.shut seen told).closed image may)

pub returns-in_err-append_entry : goal.returns-in_err-append_entry
returns-in_err-append_entry g c = packet_refused (lawful g) c.requires c.of-items.ensures.value c.of-items.ensures.fit c.append_entry.new.log c.append_entry.new.bay c.in_err-append_entry.was
    (subst (λ v. AppendsPacket v (seen_by g.B.Faulty g.B.Bay) (packet_of c.args.entry.now) c.args.bay.now c.append_entry.new.bay c.args.journal.now c.append_entry.new.log c.append_entry.result)
    c.version.ensures.value c.append_entry.ensures) c.from_residual.ensures.1

pub take_items-requires : goal.take_items-requires
take_items-requires g c = can_take_then (lawful g) c.requires c.of-items.ensures.value c.of-items.ensures.fit c.append_entry.new.log c.append_entry.new.bay c.in_ok-append_entry.was
    (subst (λ v. AppendsPacket v (seen_by g.B.Faulty g.B.Bay) (packet_of c.args.entry.now) c.args.bay.now c.append_entry.new.bay c.args.journal.now c.append_entry.new.log c.append_entry.result)
    c.version.ensures.value c.append_entry.ensures) c.append_entry.auto.buffer

pub returns : goal.returns
returns g c = packet_taken (lawful g) c.requires c.of-items.ensures.value c.of-items.ensures.fit c.append_entry.new.log c.append_entry.new.bay c.in_ok-append_entry.was (subst (λ v. AppendsPacket v
    (seen_by g.B.Faulty g.B.Bay) (packet_of c.args.entry.now) c.args.bay.now c.append_entry.new.bay c.args.journal.now c.append_entry.new.log c.append_entry.result)
    c.version.ensures.value c.append_entry.ensures)
    c.gate.ensures.value (ap (λ n. n + 1) c.len.ensures) c.take_items.ensures
