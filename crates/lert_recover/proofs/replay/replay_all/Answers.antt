use Rattle.std.proofs.Common.{◌≡◌, ℕ, [], ◌∷◌, ◌++◌, length, refl, ap, sym, ◌∙◌, subst, arith, Ok, Err, List}
use Rattle.lert_bay.specs.{declared.bay.TheConstants.JOURNAL, Files.Files, Kept.CallsBay}
use Rattle.lert_bay.proofs.KeptLaws.{IsLawful, calls_as, calls_none, calls_on, reading_none}
use Rattle.lert_spec.proofs.LimitLaws.{capacity_to}
use Rattle.lert_reports.specs.declared.log_point.LogPoint.{LogPoint}
use Rattle.lert_spec.specs.declared.item.Item.{Item}
use Rattle.lert_cone.specs.{declared.refusal.ReplayFault.TheVariants.Unsound, History.end_of, KeepsLog.head_of, Replaying.Replaying, Replays.{Replays, WhyRefused}}
use Rattle.lert_cone.proofs.KeepsLogSteps.{log_none}
use Rattle.lert_files.proofs.QuietLaws.{quiet_on, quiet_reading}
use Rattle.lert_journal.specs.Payload.{most_payload}
use Rattle.lert_recover.specs.Replayed.{HasReplayed}
use Rattle.lert_recover.proofs.{ReplayingLaws.{framed_none, has_grown, journal_none, journal_on, left_on, quiet_of, read_on, same_none, same_on, shut_on, sound_on, still_on}, LoggedLaws.logged_on}
use Rattle.lert_recover.proofs.{BehindLaws.room_to, RestBytes.past_ahead, ReplayedLaws.replayed_none, MomentLaws.{stays_none, stays_replayed}, StopLaws.full_alone}
use Rattle.lert_recover.proofs.replay.replay_all.Given as given
use Rattle.lert_recover.proofs.replay.replay_all.Invariants.{bays}
use Rattle.lert_recover.proofs.replay.replay_all.Goals as goal

lawful : (g : given.Over) → IsLawful (bays g)
lawful g = record { as_read = g.met.B.Bay.as_read; since_now = g.met.B.Bay.since_now; only_now = g.met.B.Bay.only_now; since_earlier = g.met.B.Bay.since_earlier }

pub packets-init : goal.packets-init
packets-init g c =
    let start = c.args.cone.now in
    let begun = c.requires.begun in
    let few = c.requires.few in
    record {
      taking = c.requires.taking;
      same = same_none start;
      version = refl;
      closed = refl;
      gate_is = begun.0;
      counted = begun.1;
      within = omega (arith, begun.1, few.0, few.1);
      light = c.requires.light;
      near = omega (arith, c.requires.near);
      read = λ seen told. replayed_none start.listing.version start.listing.settings start.listing.cone start.last.n0 start.last.closed (seen JOURNAL) start.listing.events start.weight c.args.first;
      sound = λ seen told h replays. replays;
      throughout = λ seen told h begun each. stays_none (bays g) (lawful g) h start.listing.settings start.listing.cone start.bay each;
      framed = λ seen told some there told_there. framed_none (g.B.Bay.files start.bay) start.listing.settings start.last.n0 start.rows start.listing.events
          (omega (arith, begun.1, few.0)) seen there told told_there some;
      journal = journal_none (g.B.Bay.files start.bay);
      kept = calls_none (bays g) (lawful g) start.bay ⊥ (λ never. never);
      unwritten = λ seen told nothing. quiet_reading (lawful g) (reading_none (bays g) (lawful g) start.bay ⊥ (λ never. never));
      logged = log_none (bays g) (lawful g) start.listing.settings (head_of start) start.bay c.requires.log_shut;
      handed = omega arith;
    }

pub replay-requires : goal.replay-requires
replay-requires g c =
    let now = c.packets.invariant in
    record { taking = now.taking; reach = omega (arith, now.near, now.within, capacity_to c.args.cone.now.listing.settings c.requires.valid) }

pub packets-smaller : goal.packets-smaller
packets-smaller g c =
    let now = c.packets.invariant in
    (has_grown g.B.Bay.files c.args.cone.now c.packets.cone c.replay.new.self c.packets.gate c.in-Ok-Some.next now.same now.counted now.near
    (rw c.in-Ok-Some.field-0-is at c.in-Ok-Some.ensures.taken) (rw c.in-Ok-Some.field-0-is at c.in-Ok-Some.ensures.forward).1).fewer

pub packets-preserved : goal.packets-preserved
packets-preserved g c =
    let files = g.B.Bay.files in
    let start = c.args.cone.now in
    let old = c.packets.cone in
    let new = c.replay.new.self in
    let now = c.packets.invariant in
    let step : CallsBay (bays g) old.bay new.bay ⊥ =
    calls_as (bays g) (lawful g) old.bay new.bay _ ⊥ (λ never. absurd never) c.replay.ensures.kept in
    let took = rw c.in-Ok-Some.field-0-is at c.in-Ok-Some.ensures.taken in
    let next = rw c.in-Ok-Some.field-0-is at c.in-Ok-Some.ensures.forward in
    let cost = rw c.in-Ok-Some.field-0-is at c.in-Ok-Some.ensures.handed in
    let grown = has_grown files start old new c.packets.gate c.in-Ok-Some.next now.same now.counted now.near took next.1 in
    record {
      taking = grown.taking ∙ now.taking;
      same = same_on start old new now.same c.replay.ensures.same_cone;
      version = grown.version ∙ now.version;
      closed = grown.closed ∙ now.closed;
      gate_is = grown.gate_is;
      counted = grown.counted;
      within = grown.within;
      light = omega (arith, grown.light, room_to start.listing.settings c.requires.valid);
      near = grown.near;
      read = λ seen told. read_on files start old new seen told now.same now.version now.journal c.args.first c.packets.gate c.in-Ok-Some.next (now.read seen told)
          (λ there told_there. (
            took.packet,
            took.stands there told_there,
            took.follows,
            took.next_is,
            ap (λ (k : Replaying g.row.B.Denot). k.listing) took.is,
            ap (λ (k : Replaying g.row.B.Denot).
                k.weight) took.is,
          ));
      sound = λ seen told h begun.
          let done = now.sound seen told h begun in
          let there = now.journal.told seen told in
          let one_more = rw c.in-Ok-Some.field-0-is at (c.in-Ok-Some.ensures.replays there.0 there.1 h done.0 done.1 (sym now.gate_is)) in
          (done.0 ++ one_more.0 ∷ [], one_more.1);
      throughout = λ seen told h begun each.
          let done = now.sound seen told h begun in
          let there = now.journal.told seen told in
          stays_replayed (bays g) (lawful g) h start old new.bay ⊥ ⊥ now.same now.kept step (now.throughout seen told h begun each)
          (c.replay.ensures.stays_sound there.0 there.1 h done.0 done.1 (sym now.gate_is));
      framed = λ seen told some.
          let there = now.journal.told seen told in
          c.in-Ok-Some.ensures.framed there.0 there.1 (now.framed seen told some there.0 there.1);
      journal = journal_on now.journal c.replay.ensures.journal.seen;
      kept = calls_on (bays g) (lawful g) start.bay old.bay new.bay ⊥ ⊥ now.kept step;
      unwritten = λ seen told nothing.
          let there = now.journal.told seen told in
          quiet_on (lawful g) (now.unwritten seen told nothing) (quiet_of step
          (c.replay.ensures.unflushed there.0 there.1 (still_on files start old new seen told now.same now.version now.journal c.args.first c.packets.gate (now.read seen told) nothing)));
      logged = logged_on (bays g) (lawful g) start old new _ (Ok tt) ⊥ ⊥ now.same now.version now.journal now.kept step (λ P holds. holds) now.logged c.in-Ok-Some.ensures.log;
      handed = omega (arith, now.handed, cost, next.0);
    }

pub returns-in-Ok-None : goal.returns-in-Ok-None
returns-in-Ok-None g c =
    let files = g.B.Bay.files in
    let start = c.args.cone.now in
    let old = c.packets.cone in
    let new = c.replay.new.self in
    let now = c.packets.invariant in
    let step : CallsBay (bays g) old.bay new.bay ⊥ =
    calls_as (bays g) (lawful g) old.bay new.bay _ ⊥ (λ never. absurd never) c.replay.ensures.kept in
    let gate = c.packets.gate in
    let ended = rw c.in-Ok-None.field-0-is at c.in-Ok-None.ensures.ended in
    let events_are = ap (λ (k : Replaying g.row.B.Denot). k.listing.events) ended.is in
    let Has = λ (seen : Files) (events : List Item) (weight : ℕ).
    HasReplayed start.listing.version start.listing.settings start.listing.cone start.last.n0 start.last.closed (seen JOURNAL) start.listing.events start.weight c.args.first gate events weight in
    record {
      told = λ seen told. (
        subst (λ (weight : ℕ). Has seen new.listing.events weight) (sym (ap (λ (k : Replaying g.row.B.Denot). k.weight) ended.is))
            (subst (λ (events : List Item). Has seen events old.weight) (sym events_are) (now.read seen told)),
        shut_on files start old new seen told now.same now.version now.journal c.args.first gate ended.stands,
      );
      full = λ seen told some. tt;
      reads = λ seen told h begun.
          let cost = rw c.in-Ok-None.field-0-is at c.in-Ok-None.ensures.handed in
          let done = now.sound seen told h begun in
          omega (arith, now.handed, cost, now.gate_is, ap (λ v. end_of v h) now.version, past_ahead h done.0 old.listing.events old.gate done.1.past);
      replays = λ seen told h begun.
          let done = now.sound seen told h begun in
          let there = now.journal.told seen told in
          let end = rw c.in-Ok-None.field-0-is at (c.in-Ok-None.ensures.replays there.0 there.1 h done.0 done.1 (sym now.gate_is)) in
          subst (Replays g.B.Bay.files g.B.Bay.leaves new h) end.0 end.1;
      passed = omega (arith, ended.enough, ap (λ (last : LogPoint). last.n0) now.same.last, ap (length {A = Item}) events_are);
      taking = ap (λ (k : Replaying g.row.B.Denot). k.stopped) ended.is ∙ now.taking;
      gate = ap (λ (k : Replaying g.row.B.Denot). k.gate) ended.is;
      shut = ended.shut;
      counted = ap (λ (k : Replaying g.row.B.Denot). k.events) ended.is ∙ (now.counted ∙ sym (ap (length {A = Item}) events_are));
      closed = ap (λ (k : Replaying g.row.B.Denot). k.listing.closed) ended.is ∙ now.closed;
      same_cone = same_on start old new now.same c.replay.ensures.same_cone;
      near = tt;
      journal = journal_on now.journal c.replay.ensures.journal.seen;
      stays_sound = λ seen told h begun.
          let done = now.sound seen told h begun in
          let there = now.journal.told seen told in
          sound_on start old (files new.bay) h now.same (c.replay.ensures.stays_sound there.0 there.1 h done.0 done.1 (sym now.gate_is)).as_read;
      each_moment = λ seen told h begun each.
          let done = now.sound seen told h begun in
          let there = now.journal.told seen told in
          stays_replayed (bays g) (lawful g) h start old new.bay ⊥ ⊥ now.same now.kept step (now.throughout seen told h begun each)
          (c.replay.ensures.stays_sound there.0 there.1 h done.0 done.1 (sym now.gate_is));
      unflushed = λ seen told nothing.
          let there = now.journal.told seen told in
          quiet_on (lawful g) (now.unwritten seen told nothing) (quiet_of step
          (c.replay.ensures.unflushed there.0 there.1 (still_on files start old new seen told now.same now.version now.journal c.args.first c.packets.gate (now.read seen told) nothing)));
      log = logged_on (bays g) (lawful g) start old new _ (Ok c.packets.gate) ⊥ ⊥ now.same now.version now.journal now.kept step (λ P holds. holds) now.logged c.in-Ok-None.ensures.log;
      kept = calls_on (bays g) (lawful g) start.bay old.bay new.bay ⊥ ⊥ now.kept step;
    }

pub returns-in-Err : goal.returns-in-Err
returns-in-Err g c =
    let files = g.B.Bay.files in
    let start = c.args.cone.now in
    let old = c.packets.cone in
    let new = c.replay.new.self in
    let now = c.packets.invariant in
    let step : CallsBay (bays g) old.bay new.bay ⊥ =
    calls_as (bays g) (lawful g) old.bay new.bay _ ⊥ (λ never. absurd never) c.replay.ensures.kept in
    let count = c.events-events.ensures.count ∙ now.counted in
    record {
      told = λ seen told. (
        old.listing.events,
        subst (λ (weight : ℕ). HasReplayed start.listing.version start.listing.settings start.listing.cone start.last.n0 start.last.closed (seen JOURNAL) start.listing.events start.weight c.args.first
            c.packets.gate old.listing.events weight) (sym c.weight-weight.ensures) (now.read seen told),
        count,
        λ at is. left_on files start old new seen told now.same now.version now.journal c.args.first c.packets.gate at c.events-events.result c.weight-weight.result count
            c.weight-weight.ensures
            (λ there told_there. subst (WhyRefused old (there JOURNAL) c.packets.gate) is (c.in-Err.ensures.refused there told_there)),
      );
      full = λ seen told some file at is.
          let there = now.journal.told seen told in
          let after = c.replay.ensures.journal.seen.told there.0 there.1 in
          full_alone new.listing.settings new.rows new.reports (after.0 2) file at (c.in-Err.ensures.unsound file at (ap Err is) after.0 after.1)
          (λ same. c.in-Err.ensures.whole there.0 there.1 (now.framed seen told some there.0 there.1) at (ap Err is ∙ ap (λ f. Err (Unsound f at)) same));
      replays = λ seen told h begun.
          let done = now.sound seen told h begun in
          let there = now.journal.told seen told in
          c.in-Err.ensures.replays there.0 there.1 h done.0 done.1 (sym now.gate_is);
      reads = λ seen told h begun.
          let done = now.sound seen told h begun in
          let most : most_payload old.listing.version old.listing.settings ≡ most_payload start.listing.version start.listing.settings = λ i. most_payload (now.version i) (now.same.settings i) in
          omega (arith, now.handed, c.in-Err.ensures.handed, now.gate_is, most, ap (λ v. end_of v h) now.version, past_ahead h done.0 old.listing.events old.gate done.1.past);
      passed = tt;
      taking = tt;
      gate = tt;
      shut = tt;
      counted = tt;
      closed = tt;
      same_cone = same_on start old new now.same c.replay.ensures.same_cone;
      near = (omega (arith, now.near, count), omega (arith, now.within, count), omega (arith, now.light, c.weight-weight.ensures));
      journal = journal_on now.journal c.replay.ensures.journal.seen;
      stays_sound = λ seen told h begun.
          let done = now.sound seen told h begun in
          let there = now.journal.told seen told in
          sound_on start old (files new.bay) h now.same (c.replay.ensures.stays_sound there.0 there.1 h done.0 done.1 (sym now.gate_is)).as_read;
      each_moment = λ seen told h begun each.
          let done = now.sound seen told h begun in
          let there = now.journal.told seen told in
          stays_replayed (bays g) (lawful g) h start old new.bay ⊥ ⊥ now.same now.kept step (now.throughout seen told h begun each)
          (c.replay.ensures.stays_sound there.0 there.1 h done.0 done.1 (sym now.gate_is));
      unflushed = λ seen told nothing.
          let there = now.journal.told seen told in
          quiet_on (lawful g) (now.unwritten seen told nothing) (quiet_of step
          (c.replay.ensures.unflushed there.0 there.1 (still_on files start old new seen told now.same now.version now.journal c.args.first c.packets.gate (now.read seen told) nothing)));
      log = logged_on (bays g) (lawful g) start old new _ (Err _) ⊥ ⊥ now.same now.version now.journal now.kept step (λ P holds. tt) now.logged c.in-Err.ensures.log;
      kept = calls_on (bays g) (lawful g) start.bay old.bay new.bay ⊥ _ now.kept
          (calls_as (bays g) (lawful g) old.bay new.bay _ _ (λ is. c.in-Err.is ∙ ap Err is) c.replay.ensures.kept);
    }
