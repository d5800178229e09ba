use Rattle.lert_spec.specs.Items.{AreOfVersion, keys_in}
use Rattle.lert_cone.proofs.KeyLemmas.{of_keys}
use Rattle.lert_spec.specs.declared.item.Item.{Item}
use Rattle.std.proofs.Common.{◌≡◌, ◌∙◌, ℕ, ◌+◌, ◌*◌, ◌<◌, ◌++◌, ◌∷◌, [], All, List, length, max, None, Some, Err, Ok, IsFalse, ◌≤◌, le_refl, refl, sym, ap, subst, arith}
use Rattle.lert_base.specs.{Entries.packet_of, Packet.events_of}
use Rattle.lert_bay.specs.Files.{Files}
use Rattle.lert_bay.proofs.KeptLaws.{calls_as}
use Rattle.lert_gatelog.specs.Gated.{IsClosed, Log}
use Rattle.lert_journal.specs.Payload.{payload_of}
use Rattle.lert_reports.specs.Log.{most_record}
use Rattle.lert_spec.specs.Mix.{cone_of}
use Rattle.lert_cone.specs.{declared.refusal.ReplayFault.ReplayFault, declared.refusal.ReplayFault.TheVariants.{Failed, Malformed, Unsound}, Framed.HoldsSome, InStep.IsLogging}
use Rattle.lert_cone.specs.{Listing.Listing, Replay.IsPast, Replays.WhyRefused, Replaying.Replaying}
use Rattle.lert_cone.proofs.{GateLaws.past_more, JournalPlaceLaws.next_holds, ReadCosts.{broken_read, ended_read, taken_read}, Calls.alone_reading, ReplayCalls.{alone_behind, calls_behind, ended_at}}
use Rattle.lert_cone.proofs.ReplayCalls.{ended_replays, held_at, keys_stay, keys_unwritten, length_more, listing_more, moved_on, read_stays, logged_behind, read_logged, read_unwritten, refilled}
use Rattle.lert_cone.proofs.{ReplayCalls.with_keys, ReplayStands.{keys_never_malformed, failed_keys, unsound_keys, only_by_bay, read_shut, refused_keys, seen_as}, ReplayStep.told_once}
use Rattle.lert_cone.proofs.Refusals.{no_fault, one_fault}
use Rattle.lert_cone.proofs.cone.replaying.ReplayingCone.replay.Given as given
use Rattle.lert_cone.proofs.cone.replaying.ReplayingCone.replay.Goals as goal
use Rattle.lert_cone.proofs.cone.replaying.ReplayingCone.replay.Answers.Kept.{bays, lawful, broken_keys_kept, broken_record_kept, ended_kept, taken_kept}
use Rattle.lert_cone.proofs.cone.replaying.ReplayingCone.replay.Answers.Refused.{record_refused}
use Rattle.lert_journal.specs.Payload.{most_payload}
use Rattle.lert_cone.proofs.ItemLaws.{most_payload_most, most_payload_to}
use Rattle.lert_spec.specs.declared.numbers.Numbers.{Numbers}
use Rattle.lert_cone.specs.Room.{room_of}
use Rattle.lert_spec.specs.{Counts.{weighed, weight_of}, Edges.edge}
use Rattle.std.proofs.Common.{take}
use Rattle.lert_cone.proofs.WeighLaws.{weight_from_small}
mod Kept
mod Refused

pub read_packet-requires-clause-most : goal.read_packet-requires-clause-most
read_packet-requires-clause-most g c = ap (λ (j : Log). j.most) c.at_gate-self-inside.ensures ∙ c.greatest_payload-most.ensures.value
    ∙ (λ i. most_payload (sym c.self.invariant.version i) (c.settings.ensures i))

pub read_packet-requires-clause-entry : goal.read_packet-requires-clause-entry
read_packet-requires-clause-entry g c = subst (λ n. n ≤ c.self.inside.entry.keys.room) c.self.invariant.keys_roomy (le_refl _)

pub read_packet-requires-clause-file : goal.read_packet-requires-clause-file
read_packet-requires-clause-file g c = ap (λ (j : Log). j.file) c.at_gate-self-inside.ensures

most_fits : (version most : ℕ) (s : Numbers) (room here : ℕ) → most ≡ most_payload version s → room ≡ room_of s → here ≡ room → most ≤ here
most_fits version most s room here most_is roomy here_is = omega (arith, most_is, roomy, here_is, most_payload_most version s)

pub read_packet-requires-clause-room : goal.read_packet-requires-clause-room
read_packet-requires-clause-room g c =
    let s = c.self.inside.tally.listing.settings in
    let most_is = ap (λ (j : Log). j.most) c.at_gate-self-inside.ensures ∙ c.greatest_payload-most.ensures.value
    ∙ (λ i. most_payload (sym c.self.invariant.version i) (c.settings.ensures i)) in
    most_fits c.self.inside.tally.listing.version c.at_gate-self-inside.result.most s (length c.self.inside.buffer.items) (length c.deref_mut.result.now)
    most_is c.self.invariant.roomy (ap (length {A = ℕ}) c.deref_mut.ensures.value)

pub read_packet-requires-clause-light : goal.read_packet-requires-clause-light
read_packet-requires-clause-light g c =
    let taking : c.self.inside.stopped ≡ None = subst (λ (v : Replaying g.row.B.Denot). v.stopped ≡ None) (sym c.self.view_is) c.requires.taking in
    let was = c.self.invariant.taking taking in
    omega (
      arith,
      was.weight_is,
      weight_from_small c.self.inside.tally.listing.settings c.self.inside.last c.self.inside.tally.listing.events c.self.invariant.valid was.recounted.n0_fits was.recounted.fits
          (subst (λ v. AreOfVersion v c.self.inside.tally.listing.events) c.self.invariant.version was.recounted.light) c.self.invariant.point.weighs,
    )

pub read_packet-requires-clause-reach : goal.read_packet-requires-clause-reach
read_packet-requires-clause-reach g c = subst (λ n. n ≤ 4611686018427387904) (sym (ap (λ (j : Log). j.gate) c.at_gate-self-inside.ensures)) c.requires.reach

pub read_packet-requires-clause-place : goal.read_packet-requires-clause-place
read_packet-requires-clause-place g c =
    let taking : c.self.inside.stopped ≡ None = subst (λ (v : Replaying g.row.B.Denot). v.stopped ≡ None) (sym c.self.view_is) c.requires.taking in
    (c.self.invariant.taking taking).recounted.n0_fits

pub read_packet-requires-clause-fits : goal.read_packet-requires-clause-fits
read_packet-requires-clause-fits g c =
    let taking : c.self.inside.stopped ≡ None = subst (λ (v : Replaying g.row.B.Denot). v.stopped ≡ None) (sym c.self.view_is) c.requires.taking in
    (c.self.invariant.taking taking).recounted.fits

pub replay_items-requires : goal.replay_items-requires
replay_items-requires g c =
    let taking : c.self.inside.stopped ≡ None = subst (λ (v : Replaying g.row.B.Denot). v.stopped ≡ None) (sym c.self.view_is) c.requires.taking in
    let was = c.self.invariant.taking taking in
    let len_is : c.self.inside.buffer.len ≡ length c.self.inside.buffer.items = omega (arith, c.self.inside.buffer.ok) in
    let room : length c.deref_mut-in-Ok-true.result.now ≡ length c.self.inside.buffer.items =
    ap (length {A = ℕ}) c.deref_mut-in-Ok-true.ensures.value ∙ (refilled c.self.inside.buffer.len c.self.inside.buffer.items c.read_packet.new.buffer len_is) in
    let journaled = c.in-Ok-true.ensures.journaled c.in-Ok-true.field-0-test in
    let follows = c.in-Ok-true.ensures.follows c.in-Ok-true.field-0-test in
    record {
      own = subst (λ (items : List Item). All (λ item. cone_of c.self.inside.tally.listing.settings item.key ≡ c.self.inside.tally.listing.cone) items) (sym c.of.ensures.value)
          (of_keys (λ key. cone_of c.self.inside.tally.listing.settings key ≡ c.self.inside.tally.listing.cone) c.read_packet.new.entry.keys.items journaled.of_cone);
      light = subst (AreOfVersion c.self.inside.tally.listing.version) (sym c.of.ensures.value) journaled.weighed;
      fits = omega (arith, follows.within, ap (length {A = Item}) c.of.ensures.value);
      before_closing = λ closed. omega (arith, follows.before_closing (sym was.closed ∙ closed), ap (length {A = Item}) c.of.ensures.value);
      recounted = was.recounted;
      can_log = record {
        logging = subst (λ n. IsLogging c.self.inside.tally c.self.inside.log n) (sym room) was.logging;
        log_shut = read_shut c.read_packet.ensures.keeps.reads.seen c.read_packet.ensures.keeps.reads.images was.log_shut;
      };
    }

went_on : (version at gate new next : ℕ) (s : Numbers) → at ≡ gate → next ≡ new → (at < new) × (new ≤ at + 5 + most_payload version s) → s.packet ≤ 1024 →
    (gate < next) × (next ≤ gate + 65536)
went_on version at gate new next s at_is next_is forward few =
    (omega (arith, at_is, next_is, forward.0), omega (arith, at_is, next_is, forward.1, few, most_payload_to version s))

pub invariant_of-self : goal.invariant_of-self
invariant_of-self = broken_keys_kept

-- its items aren't taken
pub returns-in-Err-replay_items : goal.returns-in-Err-replay_items
returns-in-Err-replay_items g c =
    rw (← c.self.view_is) (record {
      taken = tt;
      forward = tt;
      ended = tt;
      refused = let cone = seen_as c.self.inside.bay c.self.inside.made.value c.self.inside.tally c.self.inside.events c.self.inside.weight c.self.inside.stopped
          c.self.inside.journal.gate c.self.inside.log c.self.inside.last in
          λ seen told. subst (λ (fault : ReplayFault). WhyRefused cone (seen 0) c.args.gate fault) (sym c.from-fault.ensures)
          (refused_keys cone (seen 0) c.args.gate c.in-Err-replay_items.fault (record {
            packet = (packet_of c.read_packet.new.entry);
            stands = (held_at c.at_gate-self-inside.ensures (c.in-Ok-true.ensures.found seen told c.in-Ok-true.field-0-test));
            follows = c.in-Ok-true.ensures.follows c.in-Ok-true.field-0-test;
          }));
      broke = λ i. record (seen_as c.replay_items.new.bay c.self.inside.made.value c.replay_items.new.tally c.self.inside.events c.self.inside.weight (Some c.from-fault.result)
          c.read_packet.new.journal.gate c.replay_items.new.log c.self.inside.last) { listing = c.replay_items.ensures.listing i };
      replays = λ seen told h done way gate_same. subst (λ (fault : ReplayFault). fault ≡ Failed) (sym c.from-fault.ensures) (only_by_bay c.in-Err-replay_items.fault (λ file at same.
          with_keys (bays g) (lawful g) c.read_packet.ensures.keeps c.self.inside.tally c.self.inside.log c.self.inside.last seen told h done c.args.gate way gate_same
          (packet_of c.read_packet.new.entry) (held_at c.at_gate-self-inside.ensures (c.in-Ok-true.ensures.found seen told
          c.in-Ok-true.field-0-test)) c.of.result c.of.ensures.value (λ told_read next is on_read. c.replay_items.ensures.sound seen told_read h (events_of next.rest) is
          (next_holds h done c.self.inside.tally.listing.events c.args.gate (packet_of c.read_packet.new.entry) c.of.result _
          (subst (λ g. IsPast c.self.inside.tally.listing.version h done c.self.inside.tally.listing.events g) (sym gate_same) way.past) next c.of.ensures.value refl (ap (λ n. n + 1)
          c.len-first.ensures)) on_read file at
          (c.in-Err-replay_items.is ∙ ap Err same))));
      stays_sound = λ seen told h done way gate_same. keys_stay (bays g) (lawful g) c.read_packet.ensures.keeps c.self.inside.tally c.self.inside.log c.self.inside.last
          seen told h done c.args.gate way gate_same (c.self.invariant.taking way.taking).recounted
          (packet_of c.read_packet.new.entry) (held_at c.at_gate-self-inside.ensures (c.in-Ok-true.ensures.found seen told c.in-Ok-true.field-0-test))
          c.of.result c.of.ensures.value _ refl (ap (λ n. n + 1) c.len-first.ensures) _ _ _ c.replay_items.ensures;
      unflushed = λ seen told none. keys_unwritten (bays g) (lawful g) c.read_packet.ensures.keeps c.self.inside.tally.listing.settings
          (length c.self.inside.tally.listing.events) c.self.inside.last.n0 (packet_of c.read_packet.new.entry) c.of.result _ c.of.ensures.value
          (none (packet_of c.read_packet.new.entry) (held_at c.at_gate-self-inside.ensures (c.in-Ok-true.ensures.found seen told
          c.in-Ok-true.field-0-test)) (c.in-Ok-true.ensures.follows c.in-Ok-true.field-0-test)) c.replay_items.ensures.unflushed;
      malformed = λ at same.
          let answer : c.from-fault.result ≡ Malformed at = one_fault same in
          absurd (keys_never_malformed c.in-Err-replay_items.fault at (sym c.from-fault.ensures ∙ answer));
      log = let taking : c.self.inside.stopped ≡ None = subst (λ (v : Replaying g.row.B.Denot). v.stopped ≡ None) (sym c.self.view_is) c.requires.taking in
          logged_behind (bays g) (lawful g) c.read_packet.ensures.keeps c.self.inside.tally.listing.settings _ _
          c.replay_items.new.bay c.replay_items.result (Err c.from-fault.result) (c.self.invariant.taking taking).log_shut c.replay_items.ensures.keeps.journal (λ P holds. tt)
          c.replay_items.ensures.log;
      framed = λ seen told some. tt;
      whole = λ seen told some at same.
          let answer : c.from-fault.result ≡ Unsound 2 at = one_fault same in
          let fault_is = unsound_keys c.in-Err-replay_items.fault 2 at (sym c.from-fault.ensures ∙ answer) in
          c.replay_items.ensures.whole seen (c.read_packet.ensures.keeps.reads.seen ∙ told) some at (c.in-Err-replay_items.is ∙ ap Err fault_is);
      unsound = λ file at same.
          let answer : c.from-fault.result ≡ Unsound file at = one_fault same in
          let fault_is = unsound_keys c.in-Err-replay_items.fault file at (sym c.from-fault.ensures ∙ answer) in
          λ seen told. c.replay_items.ensures.keeps.shows seen told file at (c.in-Err-replay_items.is ∙ ap Err fault_is);
      same_cone = record {
        settings = ap (λ (l : Listing). l.settings) c.replay_items.ensures.listing;
        cone = ap (λ (l : Listing). l.cone) c.replay_items.ensures.listing;
        made = refl;
        last = refl;
      };
      journal = alone_behind (bays g) (lawful g) c.read_packet.ensures.keeps 0 c.replay_items.new.bay c.replay_items.ensures.keeps.journal;
      kept = calls_behind (bays g) (lawful g) c.read_packet.ensures.keeps c.replay_items.new.bay _ _ (λ same.
          let answer : c.from-fault.result ≡ Failed = one_fault same in
          c.in-Err-replay_items.is ∙ ap Err (failed_keys c.in-Err-replay_items.fault (sym c.from-fault.ensures ∙ answer))) c.replay_items.ensures.keeps.kept;
      handed = broken_read c.self.inside.tally.listing.version c.self.inside.tally.listing.settings (packet_of c.read_packet.new.entry) _ _ (g.B.Bay.handed_out c.replay_items.new.bay)
          c.replay_items.ensures.keeps.kept.journal
          c.in-Ok-true.field-0 _ _ c.in-Ok-true.ensures.handed c.in-Ok-true.field-0-test (ap (λ (j : Log). j.gate) (c.in-Ok-true.ensures.moved c.in-Ok-true.field-0-test))
          (c.in-Ok-true.ensures.forward c.in-Ok-true.field-0-test).1;
    })

pub invariant_of-self-in-Ok-true : goal.invariant_of-self-in-Ok-true
invariant_of-self-in-Ok-true = taken_kept

-- they are
pub returns-in_default : goal.returns-in_default
returns-in_default g c =
    rw (← c.self.view_is) (record {
      taken = let taking : c.self.inside.stopped ≡ None = subst (λ (v : Replaying g.row.B.Denot). v.stopped ≡ None) (sym c.self.view_is) c.requires.taking in
          let was = c.self.invariant.taking taking in
          let listing_is = listing_more c.self.inside.tally.listing c.replay_items.new.tally.listing c.read_packet.new.entry.keys.items c.of.result
          c.replay_items.ensures.listing c.in_default.ensures.taken c.of.ensures.value in
          let moved = moved_on (payload_of c.self.inside.tally.listing.version (packet_of c.read_packet.new.entry)) (c.in-Ok-true.ensures.moved c.in-Ok-true.field-0-test)
          c.at_gate-self-inside.ensures in
          let events_is = length_more c.self.inside.tally.listing c.replay_items.new.tally.listing c.read_packet.new.entry.keys.items c.self.inside.events c.len-self-inside.result
          listing_is was.counted c.len-self-inside.ensures in
          record {
            packet = (packet_of c.read_packet.new.entry);
            stands = λ seen told. (held_at c.at_gate-self-inside.ensures (c.in-Ok-true.ensures.found seen told c.in-Ok-true.field-0-test));
            journaled = c.in-Ok-true.ensures.journaled c.in-Ok-true.field-0-test;
            follows = c.in-Ok-true.ensures.follows c.in-Ok-true.field-0-test;
            next_is = c.gate.ensures.value ∙ moved;
            is = λ i. record (seen_as c.replay_items.new.bay c.self.inside.made.value c.replay_items.new.tally (events_is i) (c.in-Ok-true.ensures.weight c.in-Ok-true.field-0-test i)
                c.self.inside.stopped
                ((sym c.gate.ensures.value) i) c.replay_items.new.log c.self.inside.last) { listing = listing_is i };
          };
      forward = went_on c.self.inside.tally.listing.version c.at_gate-self-inside.result.gate c.args.gate c.read_packet.new.journal.gate c.gate.result
          c.self.inside.tally.listing.settings (ap (λ (j : Log). j.gate) c.at_gate-self-inside.ensures) c.gate.ensures.value
          (c.in-Ok-true.ensures.forward c.in-Ok-true.field-0-test) c.self.invariant.valid.limits.packet_to;
      ended = tt;
      refused = tt;
      broke = tt;
      replays = let listing_is = listing_more c.self.inside.tally.listing c.replay_items.new.tally.listing c.read_packet.new.entry.keys.items c.of.result
          c.replay_items.ensures.listing c.in_default.ensures.taken c.of.ensures.value in
          let moved = moved_on (payload_of c.self.inside.tally.listing.version (packet_of c.read_packet.new.entry)) (c.in-Ok-true.ensures.moved c.in-Ok-true.field-0-test)
          c.at_gate-self-inside.ensures in
          λ seen told h done way gate_same.
          let past : IsPast c.self.inside.tally.listing.version h done c.self.inside.tally.listing.events c.args.gate = subst (λ g. IsPast c.self.inside.tally.listing.version h done
          c.self.inside.tally.listing.events g) (sym gate_same) way.past in
          with_keys (bays g) (lawful g) c.read_packet.ensures.keeps c.self.inside.tally c.self.inside.log c.self.inside.last seen told h done c.args.gate way gate_same
          (packet_of c.read_packet.new.entry) (held_at c.at_gate-self-inside.ensures (c.in-Ok-true.ensures.found seen told
          c.in-Ok-true.field-0-test)) c.of.result c.of.ensures.value (λ told_read next is on_read. (
            (packet_of c.read_packet.new.entry),
            record {
              taking = way.taking;
              weighed_is = λ _ _. ap (λ (l : Listing). weight_of weighed (take (edge l.settings 0 c.self.inside.last.n0) (events_of h))) listing_is ∙ way.weighed_is seen told;
              past = subst (λ (l : Listing). IsPast l.version h (done ++ (packet_of c.read_packet.new.entry) ∷ []) l.events c.read_packet.new.journal.gate) (sym listing_is)
                  (subst (λ g. IsPast c.self.inside.tally.listing.version h (done ++ (packet_of c.read_packet.new.entry) ∷ []) (c.self.inside.tally.listing.events ++
                  c.read_packet.new.entry.keys.items) g) (sym moved)
                  (past_more h done c.self.inside.tally.listing.events c.args.gate (packet_of c.read_packet.new.entry) past next));
              on_way = c.in_default.ensures.on_way seen told_read h (events_of next.rest) is
                  (next_holds h done c.self.inside.tally.listing.events c.args.gate (packet_of c.read_packet.new.entry) c.of.result _ past next c.of.ensures.value refl
                  (ap (λ n. n + 1) c.len-first.ensures)) on_read;
            },
          ));
      stays_sound = λ seen told h done way gate_same. keys_stay (bays g) (lawful g) c.read_packet.ensures.keeps c.self.inside.tally c.self.inside.log c.self.inside.last
          seen told h done c.args.gate way gate_same (c.self.invariant.taking way.taking).recounted
          (packet_of c.read_packet.new.entry) (held_at c.at_gate-self-inside.ensures (c.in-Ok-true.ensures.found seen told c.in-Ok-true.field-0-test))
          c.of.result c.of.ensures.value _ refl (ap (λ n. n + 1) c.len-first.ensures) _ _ _ c.replay_items.ensures;
      unflushed = λ seen told none. keys_unwritten (bays g) (lawful g) c.read_packet.ensures.keeps c.self.inside.tally.listing.settings
          (length c.self.inside.tally.listing.events) c.self.inside.last.n0 (packet_of c.read_packet.new.entry) c.of.result _ c.of.ensures.value
          (none (packet_of c.read_packet.new.entry) (held_at c.at_gate-self-inside.ensures (c.in-Ok-true.ensures.found seen told
          c.in-Ok-true.field-0-test)) (c.in-Ok-true.ensures.follows c.in-Ok-true.field-0-test)) c.replay_items.ensures.unflushed;
      malformed = λ at same. absurd (no_fault same);
      log = let taking : c.self.inside.stopped ≡ None = subst (λ (v : Replaying g.row.B.Denot). v.stopped ≡ None) (sym c.self.view_is) c.requires.taking in
          logged_behind (bays g) (lawful g) c.read_packet.ensures.keeps c.self.inside.tally.listing.settings _ _
          c.replay_items.new.bay _ (Ok (Some c.gate.result)) (c.self.invariant.taking taking).log_shut c.replay_items.ensures.keeps.journal (λ P holds. holds) c.in_default.ensures.log;
      framed = λ seen told some. c.in_default.ensures.framed seen (c.read_packet.ensures.keeps.reads.seen ∙ told) some;
      whole = λ seen told some at same. no_fault same;
      unsound = λ file at same. absurd (no_fault same);
      same_cone = record {
        settings = ap (λ (l : Listing). l.settings) c.replay_items.ensures.listing;
        cone = ap (λ (l : Listing). l.cone) c.replay_items.ensures.listing;
        made = refl;
        last = refl;
      };
      journal = alone_behind (bays g) (lawful g) c.read_packet.ensures.keeps 0 c.replay_items.new.bay c.replay_items.ensures.keeps.journal;
      kept = calls_behind (bays g) (lawful g) c.read_packet.ensures.keeps c.replay_items.new.bay _ _ (λ same. absurd (no_fault same)) c.replay_items.ensures.keeps.kept;
      handed = taken_read c.self.inside.tally.listing.version c.self.inside.tally.listing.settings (packet_of c.read_packet.new.entry) _ _ (g.B.Bay.handed_out c.replay_items.new.bay)
          c.replay_items.ensures.keeps.kept.journal
          c.in-Ok-true.field-0 c.args.gate c.gate.result c.in-Ok-true.ensures.handed c.in-Ok-true.field-0-test
          (c.gate.ensures.value ∙ moved_on (payload_of c.self.inside.tally.listing.version (packet_of c.read_packet.new.entry)) (c.in-Ok-true.ensures.moved c.in-Ok-true.field-0-test)
          c.at_gate-self-inside.ensures);
    })

pub invariant_of-self-in-Ok-false : goal.invariant_of-self-in-Ok-false
invariant_of-self-in-Ok-false = ended_kept

-- a closed gate stands there
pub returns-in-Ok-false : goal.returns-in-Ok-false
returns-in-Ok-false g c =
    rw (← c.self.view_is) (record {
      taken = tt;
      forward = tt;
      ended = let taking : c.self.inside.stopped ≡ None = subst (λ (v : Replaying g.row.B.Denot). v.stopped ≡ None) (sym c.self.view_is) c.requires.taking in
          let no_packet : IsFalse c.in-Ok-false.field-0 = c.in-Ok-false.field-0-test in
          let gate_at : c.read_packet.new.journal.gate ≡ c.args.gate =
          ap (λ (j : Log). j.gate) ((c.in-Ok-false.ensures.waits no_packet).0 ∙ c.at_gate-self-inside.ensures) in
          ended_at (bays g) (lawful g) c.read_packet.ensures.keeps c.self.inside.made.value c.self.inside.tally
          c.self.inside.events c.self.inside.weight c.self.inside.stopped c.self.inside.journal.gate c.read_packet.new.journal.gate c.args.gate c.self.inside.log c.self.inside.last
          gate_at (c.in-Ok-false.ensures.enough no_packet) (c.self.invariant.taking taking).journal_settled
          (λ seen told. subst (λ (j : Log). IsClosed (seen 0) j.gate) c.at_gate-self-inside.ensures (c.in-Ok-false.ensures.closed seen told no_packet));
      refused = tt;
      broke = tt;
      replays = let no_packet : IsFalse c.in-Ok-false.field-0 = c.in-Ok-false.field-0-test in
          let gate_at : c.read_packet.new.journal.gate ≡ c.args.gate = ap (λ (j : Log). j.gate) ((c.in-Ok-false.ensures.waits no_packet).0 ∙ c.at_gate-self-inside.ensures) in
          λ seen told h done way gate_same. ended_replays (bays g) (lawful g) c.read_packet.ensures.keeps c.self.inside.tally c.self.inside.log c.self.inside.last
          seen told h done c.args.gate way gate_same c.read_packet.new.journal.gate gate_at
          (subst (λ (j : Log). IsClosed (seen 0) j.gate) c.at_gate-self-inside.ensures (c.in-Ok-false.ensures.closed seen told no_packet));
      stays_sound = λ seen told h done way gate_same. read_stays (bays g) (lawful g) c.read_packet.ensures.keeps c.self.inside.tally c.self.inside.log c.self.inside.last
          seen told h done c.args.gate way gate_same (c.self.invariant.taking way.taking).recounted;
      unflushed = λ seen told none. read_unwritten (bays g) (lawful g) c.read_packet.ensures.keeps;
      malformed = λ at same. absurd (no_fault same);
      log = let taking : c.self.inside.stopped ≡ None = subst (λ (v : Replaying g.row.B.Denot). v.stopped ≡ None) (sym c.self.view_is) c.requires.taking in
          read_logged (bays g) (lawful g) c.read_packet.ensures.keeps c.self.inside.tally.listing.settings _ _ (c.self.invariant.taking taking).log_shut;
      framed = λ seen told some after told_after. subst (λ (files : Files). HoldsSome c.self.inside.tally.listing.version c.self.inside.tally.listing.settings (max c.self.inside.last.n0 (length
          c.self.inside.tally.listing.events)) c.self.inside.tally.rows (files 2))
          (told_once (g.B.Bay.files c.self.inside.bay) seen after told (sym c.read_packet.ensures.keeps.reads.seen ∙ told_after)) some;
      whole = λ seen told some at same. no_fault same;
      unsound = λ file at same. absurd (no_fault same);
      same_cone = record { settings = refl; cone = refl; made = refl; last = refl };
      journal = alone_reading (lawful g) 0 c.read_packet.ensures.keeps.reads;
      kept = calls_as (bays g) (lawful g) c.self.inside.bay c.read_packet.new.bay _ _ (λ same. absurd (no_fault same)) c.read_packet.ensures.keeps.reads.kept;
      handed = ended_read c.self.inside.tally.listing.version c.self.inside.tally.listing.settings (packet_of c.read_packet.new.entry) _ _
          (g.B.Bay.handed_out c.read_packet.new.bay) refl c.in-Ok-false.field-0 c.in-Ok-false.ensures.handed c.in-Ok-false.field-0-test;
    })

pub invariant_of-self-in-Err : goal.invariant_of-self-in-Err
invariant_of-self-in-Err = broken_record_kept

-- what stands there isn't taken
pub returns-in-Err : goal.returns-in-Err
returns-in-Err = record_refused
