-- What a replay of one record keeps of its cone, at each of its exits.
use Rattle.lert_cone.proofs.SoundLaws.{some_keys_of}
use Rattle.lert_bay.specs.Kept.{Bays, seen_by}
use Rattle.std.proofs.Common.{◌≡◌, ◌∙◌, ◌*◌, ◌++◌, length, take, drop, None, refl, sym, ap, subst, arith}
use Rattle.lert_base.specs.Entries.{packet_of}
use Rattle.lert_cone.proofs.{ReplayCalls.{length_more, lent_again, listing_more, moved_on, refilled, refilled_twice}}
use Rattle.lert_cone.proofs.{ReplayStands.{near_then, read_settled, read_shut, settled_then, stopped_cone}, FaultLaws.{turns_as, turns_on}}
use Rattle.lert_bay.proofs.KeptLaws.{IsLawful}
use Rattle.lert_gatelog.specs.Gated.{Log}
use Rattle.lert_journal.specs.Payload.{payload_of}
use Rattle.lert_spec.specs.declared.numbers.Numbers.{Numbers}
use Rattle.lert_cone.specs.{InStep.IsLogging, Listing.Listing, Room.room_of, Replaying.Replaying}
use Rattle.lert_cone.proofs.cone.replaying.ReplayingCone.replay.Given as given
use Rattle.lert_cone.proofs.cone.replaying.ReplayingCone.replay.Goals as goal
use Rattle.lert_journal.specs.Payload.{most_payload}
use Rattle.lert_cone.specs.Room.{IsPointOf}
use Rattle.lert_cone.proofs.WeighLaws.{behind_more}
use Rattle.lert_cone.specs.Room.{weight_from}
use Rattle.lert_spec.specs.Edges.{edge}

abbrev pub bays : (g : given.Over) → Bays g.row.B.Denot
bays g = seen_by g.B.Faulty g.B.Bay

pub lawful : (g : given.Over) → IsLawful (bays g)
lawful g = record { as_read = g.met.B.Bay.as_read; since_now = g.met.B.Bay.since_now; only_now = g.met.B.Bay.only_now; since_earlier = g.met.B.Bay.since_earlier }

pub broken_keys_kept : goal.invariant_of-self
broken_keys_kept g c =
    let len_is : c.self.inside.buffer.len ≡ length c.self.inside.buffer.items = omega (arith, c.self.inside.buffer.ok) in
    stopped_cone refl (ap (λ (l : Listing). l.settings) c.replay_items.ensures.listing) (ap (λ (l : Listing). l.version) c.replay_items.ensures.listing) refl refl refl
    ((c.read_packet.ensures.keeps.file ∙ ap (λ (j : Log). j.file) c.at_gate-self-inside.ensures) ∙ sym c.self.invariant.file)
    ((c.read_packet.ensures.keeps.most ∙ ap (λ (j : Log). j.most) c.at_gate-self-inside.ensures ∙ c.greatest_payload-most.ensures.value
    ∙ (λ i. most_payload (sym c.self.invariant.version i) (c.settings.ensures i)))
    ∙ sym c.self.invariant.most) (refilled_twice c.self.inside.buffer.len c.self.inside.buffer.items c.read_packet.new.buffer c.replay_items.new.buffer len_is) c.read_packet.ensures.keeps.roomy
    (omega (arith, c.read_packet.ensures.keeps.reads.kept.never_falls, c.replay_items.ensures.keeps.kept.never_falls)) (turns_on
    (turns_as c.read_packet.ensures.keeps.reads.seen) c.replay_items.ensures.keeps.journal.seen)
    (c.replay_items.ensures.keeps.kept.mark ∙ c.read_packet.ensures.keeps.reads.kept.mark)
    c.self.invariant

pub taken_kept : goal.invariant_of-self-in-Ok-true
taken_kept g c =
    let taking : c.self.inside.stopped ≡ None = subst (λ (v : Replaying g.row.B.Denot). v.stopped ≡ None) (sym c.self.view_is) c.requires.taking in
    let was = c.self.invariant.taking taking in
    let len_is : c.self.inside.buffer.len ≡ length c.self.inside.buffer.items = omega (arith, c.self.inside.buffer.ok) in
    let listing_is = listing_more c.self.inside.tally.listing c.replay_items.new.tally.listing c.read_packet.new.entry.keys.items c.of.result
    c.replay_items.ensures.listing c.in_default.ensures.taken c.of.ensures.value in
    let moved = moved_on (payload_of c.self.inside.tally.listing.version (packet_of c.read_packet.new.entry)) (c.in-Ok-true.ensures.moved c.in-Ok-true.field-0-test) c.at_gate-self-inside.ensures in
    let events_is = length_more c.self.inside.tally.listing c.replay_items.new.tally.listing c.read_packet.new.entry.keys.items c.self.inside.events c.len-self-inside.result
    listing_is was.counted c.len-self-inside.ensures in
    let settings_are : c.replay_items.new.tally.listing.settings ≡ c.self.inside.tally.listing.settings = ap (λ (l : Listing). l.settings) listing_is in
    let journaled = c.in-Ok-true.ensures.journaled c.in-Ok-true.field-0-test in
    let long = lent_again c.self.inside.buffer.len c.self.inside.buffer.items c.read_packet.new.buffer c.replay_items.new.buffer _ len_is c.deref_mut-in-Ok-true.ensures.value
    c.replay_items.auto.buffer in
    record {
      file = c.read_packet.ensures.keeps.file ∙ ap (λ (j : Log). j.file) c.at_gate-self-inside.ensures;
      most = (c.read_packet.ensures.keeps.most ∙ ap (λ (j : Log). j.most) c.at_gate-self-inside.ensures ∙ c.greatest_payload-most.ensures.value
          ∙ (λ i. most_payload (sym c.self.invariant.version i) (c.settings.ensures i)))
          ∙ ap (λ (l : Listing). most_payload l.version l.settings) (sym listing_is);
      version = ap (λ (l : Listing). l.version) listing_is ∙ c.self.invariant.version;
      point = subst (λ (s : Numbers). IsPointOf s c.self.inside.last) (sym settings_are) c.self.invariant.point;
      roomy = refilled_twice c.self.inside.buffer.len c.self.inside.buffer.items c.read_packet.new.buffer c.replay_items.new.buffer len_is
          ∙ c.self.invariant.roomy ∙ ap room_of (sym settings_are);
      keys_roomy = c.read_packet.ensures.keeps.roomy ∙ c.self.invariant.keys_roomy ∙ ap (λ (s : Numbers). 4 * s.packet) (sym settings_are);
      within = omega (arith, c.in_default.ensures.recounted.fits, c.len-self-inside.ensures);
      valid = c.in_default.ensures.recounted.valid;
      never_falls = omega (arith, c.self.invariant.never_falls, c.read_packet.ensures.keeps.reads.kept.never_falls, c.replay_items.ensures.keeps.kept.never_falls);
      tells = turns_on (turns_on c.self.invariant.tells (turns_as c.read_packet.ensures.keeps.reads.seen)) c.replay_items.ensures.keeps.journal.seen;
      marked = c.replay_items.ensures.keeps.kept.mark ∙ c.read_packet.ensures.keeps.reads.kept.mark ∙ c.self.invariant.marked;
      taking = λ _. record {
        counted = sym c.len-self-inside.ensures;
        weight_is = c.in-Ok-true.ensures.weight c.in-Ok-true.field-0-test
            ∙ omega (arith, was.weight_is, behind_more (edge c.self.inside.tally.listing.settings 0 c.self.inside.last.n0) c.self.inside.tally.listing.events c.read_packet.new.entry.keys.items)
            ∙ ap (λ (l : Listing). weight_from l.settings c.self.inside.last l.events) (sym listing_is);
        recounted = c.in_default.ensures.recounted;
        closed = ap (λ (l : Listing). l.closed) listing_is ∙ was.closed;
        near = near_then c.self.inside.tally.listing.version c.args.gate c.read_packet.new.journal.gate c.self.inside.events c.len-self-inside.result (packet_of c.read_packet.new.entry)
            c.requires.reach moved
            (some_keys_of _ _ _ journaled)
            events_is;
        journal_settled = settled_then c.replay_items.ensures.keeps.journal (read_settled c.read_packet.ensures.keeps.reads.seen c.read_packet.ensures.keeps.reads.images was.journal_settled);
        logging = subst (λ n. IsLogging c.replay_items.new.tally c.replay_items.new.log n) long c.in_default.ensures.can_log.logging;
        log_shut = c.in_default.ensures.can_log.log_shut;
      };
    }

pub ended_kept : goal.invariant_of-self-in-Ok-false
ended_kept g c =
    let taking : c.self.inside.stopped ≡ None = subst (λ (v : Replaying g.row.B.Denot). v.stopped ≡ None) (sym c.self.view_is) c.requires.taking in
    let was = c.self.invariant.taking taking in
    let len_is : c.self.inside.buffer.len ≡ length c.self.inside.buffer.items = omega (arith, c.self.inside.buffer.ok) in
    let gate_at : c.read_packet.new.journal.gate ≡ c.args.gate = ap (λ (j : Log). j.gate) ((c.in-Ok-false.ensures.waits c.in-Ok-false.field-0-test).0 ∙ c.at_gate-self-inside.ensures) in
    let long : length c.self.inside.buffer.items ≡ length (take c.self.inside.buffer.len (c.read_packet.new.buffer ++ drop (length c.read_packet.new.buffer) c.self.inside.buffer.items)) =
    sym (refilled c.self.inside.buffer.len c.self.inside.buffer.items c.read_packet.new.buffer len_is) in
    record {
      file = c.read_packet.ensures.keeps.file ∙ ap (λ (j : Log). j.file) c.at_gate-self-inside.ensures;
      most = c.read_packet.ensures.keeps.most ∙ ap (λ (j : Log). j.most) c.at_gate-self-inside.ensures ∙ c.greatest_payload-most.ensures.value
          ∙ (λ i. most_payload (sym c.self.invariant.version i) (c.settings.ensures i));
      roomy = refilled c.self.inside.buffer.len c.self.inside.buffer.items c.read_packet.new.buffer len_is ∙ c.self.invariant.roomy;
      keys_roomy = c.read_packet.ensures.keeps.roomy ∙ c.self.invariant.keys_roomy;
      within = c.self.invariant.within;
      version = c.self.invariant.version;
      point = c.self.invariant.point;
      valid = c.self.invariant.valid;
      never_falls = omega (arith, c.self.invariant.never_falls, c.read_packet.ensures.keeps.reads.kept.never_falls);
      tells = turns_on c.self.invariant.tells (turns_as c.read_packet.ensures.keeps.reads.seen);
      marked = c.read_packet.ensures.keeps.reads.kept.mark ∙ c.self.invariant.marked;
      taking = λ _. record {
        counted = was.counted;
        weight_is = was.weight_is;
        recounted = was.recounted;
        closed = was.closed;
        near = omega (arith, gate_at, c.requires.reach);
        journal_settled = read_settled c.read_packet.ensures.keeps.reads.seen c.read_packet.ensures.keeps.reads.images was.journal_settled;
        logging = subst (λ n. IsLogging c.self.inside.tally c.self.inside.log n) long was.logging;
        log_shut = read_shut c.read_packet.ensures.keeps.reads.seen c.read_packet.ensures.keeps.reads.images was.log_shut;
      };
    }

pub broken_record_kept : goal.invariant_of-self-in-Err
broken_record_kept g c =
    let len_is : c.self.inside.buffer.len ≡ length c.self.inside.buffer.items = omega (arith, c.self.inside.buffer.ok) in
    let keeps = c.read_packet.ensures.keeps in
    stopped_cone refl refl refl refl refl refl ((keeps.file ∙ ap (λ (j : Log). j.file) c.at_gate-self-inside.ensures) ∙ sym c.self.invariant.file)
    ((keeps.most ∙ ap (λ (j : Log). j.most) c.at_gate-self-inside.ensures ∙ c.greatest_payload-most.ensures.value
    ∙ (λ i. most_payload (sym c.self.invariant.version i) (c.settings.ensures i))) ∙ sym c.self.invariant.most)
    (refilled c.self.inside.buffer.len c.self.inside.buffer.items c.read_packet.new.buffer len_is) keeps.roomy keeps.reads.kept.never_falls
    (turns_as keeps.reads.seen) keeps.reads.kept.mark c.self.invariant
