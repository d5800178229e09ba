use Rattle.lert_cone.proofs.SoundLaws.{some_keys_of}
use Rattle.lert_cone.specs.{History.{most_version}, Refuses.PassesTest}
use Rattle.lert_bay.specs.Kept.{seen_by}
use Rattle.std.proofs.Common.{ℕ, ◌≡◌, ◌∙◌, ◌+◌, length, Some, Err, refl, sym, ap, subst, arith}
use Rattle.lert_base.specs.{declared.entry.Entry.Entry, Entries.packet_of}
use Rattle.std.specs.List.{length_refill}
use Rattle.lert_journal.specs.Payload.{IsJournaled}
use Rattle.lert_reports.specs.Stored.{Stored}
use Rattle.lert_io.proofs.Rising.{risen_since}
use Rattle.lert_cone.specs.{Listing.Listing, InStep.IsLogging, Stands.{Standing, over_of, is_broken, is_finished}}
use Rattle.lert_cone.proofs.{Admits.{not_admitted}, RefusesLaws.journaled_by, AdmitsPacket.{admitted, still_cone}, BreaksOff.broken_off, StandLaws.{broken_cone}}
use Rattle.lert_cone.proofs.FaultLaws.{is_broken_by, by_bay_of}
use Rattle.lert_bay.proofs.KeptLaws.{IsLawful}
use Rattle.lert_cone.proofs.cone.Cone.admit.Given as given
use Rattle.lert_cone.proofs.cone.Cone.admit.Goals as goal
use Rattle.lert_cone.proofs.ItemLaws.{most_payload_most}
use Rattle.lert_spec.specs.Items.{AreOfVersion}

lawful : (g : given.Over) → IsLawful (seen_by g.B.Faulty g.B.Bay)
lawful g = record { as_read = g.met.B.Bay.as_read; since_now = g.met.B.Bay.since_now; only_now = g.met.B.Bay.only_now; since_earlier = g.met.B.Bay.since_earlier }

-- a refusal before the first step
pub returns-in_err-more : goal.returns-in_err-more
returns-in_err-more g c =
    not_admitted (lawful g) (packet_of c.args.entry.now) c.args.self.now _ c.in_err-more.ensures c.from_residual.ensures.1

pub take_packet-requires : goal.take_packet-requires
take_packet-requires g c =
    let ok = subst (λ (v : Standing g.row.B.Denot). PassesTest v c.args.entry.now.keys.items c.in_ok-more.more) (sym c.self.view_is) c.in_ok-more.ensures in
    let room : length c.self.inside.buffer.items ≡ length c.deref_mut.result.now = sym (ap (length {A = ℕ}) c.deref_mut.ensures.value) in
    let journaled : IsJournaled c.self.inside.tally.listing.version c.self.inside.tally.listing.settings c.self.inside.tally.listing.cone (packet_of c.args.entry.now) =
    subst (λ v. IsJournaled v c.self.inside.tally.listing.settings c.self.inside.tally.listing.cone (packet_of c.args.entry.now)) (sym c.self.invariant.version)
    (journaled_by ok (subst (λ (v : Standing g.row.B.Denot). IsJournaled most_version v.listing.settings v.listing.cone (packet_of c.args.entry.now)) (sym c.self.view_is) c.requires.fits)) in
    record {
      file = c.self.invariant.file;
      most = c.self.invariant.most;
      roomy = omega (arith, room, c.self.invariant.roomy, c.self.invariant.most, most_payload_most c.self.inside.tally.listing.version c.self.inside.tally.listing.settings);
      reach = omega (arith, c.self.invariant.near (ap is_broken ok.running), ok.within, c.self.invariant.valid.positions_fit);
      shut = c.self.invariant.shut ok.running;
      journaled = journaled;
      fits = omega (arith, ok.within, c.self.invariant.counted (ap is_broken ok.running));
      still = c.self.invariant.closed (ap is_broken ok.running) ∙ ap is_finished ok.running;
      counted = c.self.invariant.tallied (ap is_broken ok.running);
      can_log = record {
        logging = subst (λ n. IsLogging c.self.inside.tally c.self.inside.log n) room (c.self.invariant.logging ok.running);
        log_shut = c.self.invariant.log_shut ok.running;
      };
    }

-- a refusal in the middle
pub invariant_of-self : goal.invariant_of-self
invariant_of-self g c =
    let len_is : c.self.inside.buffer.len ≡ length c.self.inside.buffer.items = omega (arith, c.self.inside.buffer.ok) in
    broken_cone (ap is_broken c.broken_by-self-inside.ensures ∙ is_broken_by c.in-Err.fault)
    (ap (λ (l : Listing). l.settings) c.take_packet.ensures.listing) (ap (λ (l : Listing). l.version) c.take_packet.ensures.listing) refl refl refl refl c.take_packet.ensures.file
    c.take_packet.ensures.most
    (sym (length_refill c.self.inside.buffer.len c.self.inside.buffer.items c.take_packet.new.buffer len_is) ∙ len_is) refl c.take_packet.ensures.kept.never_falls
    c.take_packet.ensures.seen c.take_packet.ensures.kept.mark
    (λ same. risen_since (g.B.Faulty.faults c.self.inside.made.value) (g.B.Faulty.faults c.self.inside.bay) (g.B.Faulty.faults c.take_packet.new.bay) c.self.invariant.never_falls
    c.take_packet.ensures.kept.never_falls
    (c.take_packet.ensures.kept.failed (c.in-Err.is ∙ ap Err (by_bay_of c.in-Err.fault (sym c.broken_by-self-inside.ensures ∙ same)))))
    c.self.invariant

pub returns-in-Err : goal.returns-in-Err
returns-in-Err g c =
    let ok = subst (λ (v : Standing g.row.B.Denot). PassesTest v c.args.entry.now.keys.items c.in_ok-more.more) (sym c.self.view_is) c.in_ok-more.ensures in
    let did = rw c.in-Err.is at c.take_packet.ensures in
    broken_off (lawful g) (packet_of c.args.entry.now) c.self.inside.made.value c.self.inside.events c.self.inside.weight (over_of c.self.inside.over) c.self.inside.last ok
    c.broken_by-self-inside.ensures (ap (λ (e : Entry). Some (packet_of e)) c.of.ensures) c.self.invariant.never_falls c.self.view_is (ap Err c.from.ensures) did

-- all items are taken
pub invariant_of-self-2 : goal.invariant_of-self-2
invariant_of-self-2 g c =
    let ok = subst (λ (v : Standing g.row.B.Denot). PassesTest v c.args.entry.now.keys.items c.in_ok-more.more) (sym c.self.view_is) c.in_ok-more.ensures in
    let did = rw c.in_default.is at c.take_packet.ensures in
    let journaled : IsJournaled c.self.inside.tally.listing.version c.self.inside.tally.listing.settings c.self.inside.tally.listing.cone (packet_of c.args.entry.now) =
    subst (λ v. IsJournaled v c.self.inside.tally.listing.settings c.self.inside.tally.listing.cone (packet_of c.args.entry.now)) (sym c.self.invariant.version)
    (journaled_by ok (subst (λ (v : Standing g.row.B.Denot). IsJournaled most_version v.listing.settings v.listing.cone (packet_of c.args.entry.now)) (sym c.self.view_is) c.requires.fits)) in
    let len_is : c.self.inside.buffer.len ≡ length c.self.inside.buffer.items = omega (arith, c.self.inside.buffer.ok) in
    let room_is = sym (length_refill c.self.inside.buffer.len c.self.inside.buffer.items c.take_packet.new.buffer len_is) ∙ len_is in
    let long : length c.take_packet.new.buffer ≡ length c.self.inside.buffer.items = c.take_packet.auto.buffer ∙ ap (length {A = ℕ}) c.deref_mut.ensures.value in
    still_cone (lawful g) (packet_of c.args.entry.now) c.self.inside.made.value c.self.inside.events c.self.inside.weight (over_of c.self.inside.over) c.self.inside.last ok
    did (ap (λ n. c.self.inside.events + n) c.len.ensures) (ap (λ n. c.self.inside.weight + n) ok.more_is)
    (subst (λ v. AreOfVersion v c.args.entry.now.keys.items) c.self.invariant.version journaled.weighed) (some_keys_of _ _ _ journaled) room_is (long ∙ sym room_is) c.self.invariant

pub returns : goal.returns
returns g c =
    let ok = subst (λ (v : Standing g.row.B.Denot). PassesTest v c.args.entry.now.keys.items c.in_ok-more.more) (sym c.self.view_is) c.in_ok-more.ensures in
    let did = rw c.in_default.is at c.take_packet.ensures in
    let journaled : IsJournaled c.self.inside.tally.listing.version c.self.inside.tally.listing.settings c.self.inside.tally.listing.cone (packet_of c.args.entry.now) =
    subst (λ v. IsJournaled v c.self.inside.tally.listing.settings c.self.inside.tally.listing.cone (packet_of c.args.entry.now)) (sym c.self.invariant.version)
    (journaled_by ok (subst (λ (v : Standing g.row.B.Denot). IsJournaled most_version v.listing.settings v.listing.cone (packet_of c.args.entry.now)) (sym c.self.view_is) c.requires.fits)) in
    admitted (lawful g) (packet_of c.args.entry.now) c.self.inside.made.value c.self.inside.events c.self.inside.weight (over_of c.self.inside.over) c.self.inside.last ok
    (ap (λ n. c.self.inside.events + n) c.len.ensures) (ap (λ n. c.self.inside.weight + n) ok.more_is) (some_keys_of _ _ _ journaled)
    (c.self.invariant.closed (ap is_broken ok.running) ∙ ap is_finished ok.running) (c.len-2.ensures.count ∙ ap length (ap (λ (v : Stored). v.reports) c.store.ensures)) did c.self.view_is
