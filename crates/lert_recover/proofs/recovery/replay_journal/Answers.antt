use Rattle.lert_bay.specs.Kept.{Bays, seen_by}
use Rattle.std.proofs.Common.{◌≤◌, ℕ, List, length, ap, sym, ◌∙◌, subst, arith, inl, inr}
use Rattle.std.specs.Prelude.{if◌then◌else◌}
use Rattle.lert_bay.specs.{declared.bay.TheConstants.JOURNAL, Files.Files, Kept.{CallsBay, ReadsBay}}
use Rattle.lert_cone.proofs.{SoundLaws.turns_back}
use Rattle.lert_bay.proofs.KeptLaws.{IsLawful, calls_as, calls_on}
use Rattle.lert_io.proofs.Rising.{risen_since, risen_then}
use Rattle.lert_io.specs.Fault.{HasRisen}
use Rattle.lert_spec.specs.{declared.item.Item.Item, declared.numbers.Numbers.Numbers, Edges.capacity}
use Rattle.lert_reports.specs.declared.log_point.LogPoint.{LogPoint}
use Rattle.lert_cone.specs.{declared.state.ConeState.TheVariants.{Finished, Running}, Sound.StaysSound, Replaying.readied, Stands.{IsSameCone, Standing, WasSound}}
use Rattle.lert_gatelog.specs.Gated.{IsClosed}
use Rattle.lert_files.specs.Opened.{WritesNothing}
use Rattle.lert_files.proofs.QuietLaws.{quiet_on, quiet_reading}
use Rattle.lert_recover.specs.{Replayed.{HasReplayed, IsJournalSame, ReadsRest}, Reopened.IsWhy}
use Rattle.lert_recover.proofs.{ReplayingLaws.{journal_on, journal_same}, LoggedLaws.logged_from, MomentLaws.stays_read, StopLaws.{outside_of, stopped_of, was_before}}
use Rattle.lert_recover.proofs.recovery.replay_journal.Given as given
use Rattle.lert_recover.proofs.recovery.replay_journal.Goals as goal

abbrev bays : (g : given.Over) → Bays g.row.B.Denot
bays g = seen_by g.B.Faulty g.B.Bay

lawful : (g : given.Over) → IsLawful (bays g)
lawful g = record { as_read = g.met.B.Bay.as_read; since_now = g.met.B.Bay.since_now; only_now = g.met.B.Bay.only_now; since_earlier = g.met.B.Bay.since_earlier }

pub replay_all-requires : goal.replay_all-requires
replay_all-requires g c =
    let n0_is = ap (λ (last : LogPoint). last.n0) c.requires.own.2 in
    record {
      taking = c.requires.taking;
      valid = c.requires.valid;
      begun = c.requires.begun;
      few = (
        omega (arith, c.requires.few, n0_is),
        subst (λ (s : Numbers). c.args.cone.last.n0 ≤ capacity s) (sym c.requires.own.0) (omega (arith, c.requires.place, n0_is)),
      );
      log_shut = c.requires.log_shut;
      near = c.requires.near;
      light = c.requires.light;
    }

pub ready-requires : goal.ready-requires
ready-requires g c =
    let all = c.in-Ok.ensures in
    record {
      taking = all.taking;
      passed = omega (arith, all.passed, ap (λ (last : LogPoint). last.n0) all.same_cone.last);
      gate = all.gate;
      shut = all.shut;
    }

pub why_stopped-fault-requires : goal.why_stopped-fault-requires
why_stopped-fault-requires g c =
    let near = c.in-Err.ensures.near in
    record {
      known = c.requires.known;
      place = c.requires.place;
      within = subst (λ (s : Numbers). c.in-Err.stop.before.events ≤ capacity s) c.requires.own.0 near.1;
      light = near.2;
      near = near.0;
    }

pub returns-in-Ok : goal.returns-in-Ok
returns-in-Ok g c =
    let files = g.B.Bay.files in
    let handed = g.B.Bay.handed_out in
    let start = c.args.cone in
    let now = c.ready.result in
    let all = c.in-Ok.ensures in
    let value = c.ready.ensures.value in
    let bay_is = ap (λ (k : Standing g.row.B.Denot). k.bay) value in
    let count_is = ap (λ (k : Standing g.row.B.Denot). length k.listing.events) value in
    let Has = λ (seen : Files) (gate : ℕ) (events : List Item) (weight : ℕ).
    HasReplayed start.listing.version start.listing.settings start.listing.cone start.last.n0 start.last.closed (seen JOURNAL) start.listing.events start.weight c.args.last.now.offset gate events
    weight in
    record {
      told = λ seen told some.
          let start = c.args.cone in
          let read = c.in-Ok.ensures.told seen told in
          let events_are = ap (λ (k : Standing g.row.B.Denot). k.listing.events) c.ready.ensures.value in
          let gate_is = ap (λ (k : Standing g.row.B.Denot). k.gate) c.ready.ensures.value ∙ c.in-Ok.ensures.gate in (
            subst (λ (weight : ℕ). Has seen c.ready.result.gate c.ready.result.listing.events weight) (sym (ap (λ (k : Standing g.row.B.Denot). k.weight) c.ready.ensures.value))
                (subst (λ (events : List Item). Has seen c.ready.result.gate events c.replay_all.new.cone.weight) (sym events_are)
                (subst (λ (gate : ℕ). Has seen gate c.replay_all.new.cone.listing.events c.replay_all.new.cone.weight) (sym gate_is) read.0)),
            subst (λ (gate : ℕ). IsClosed (seen JOURNAL) gate) (sym gate_is) read.1,
          );
      fails = λ seen told. tt;
      stands = λ h some count begun.
          let files = g.B.Bay.files in
          let start = c.args.cone in
          let end = c.replay_all.new.cone in
          c.ready.ensures.stands_for h some (count.0 ∙ ap (λ (k : Standing g.row.B.Denot). k.events) c.ready.ensures.value) count.1
          (λ was now told.
          let back = turns_back c.replay_all.ensures.journal now told in
          c.in-Ok.ensures.replays back.0 back.1 h (begun (was_before files start end c.replay_all.ensures.same_cone (subst (WasSound files) c.ready.ensures.value was)) back.0 back.1));
      passed = omega (arith, all.passed, count_is);
      counted = ap (λ (k : Standing g.row.B.Denot). k.events) value ∙ (all.counted ∙ sym count_is);
      weight = c.ready.ensures.weighs;
      state = (
        ap (λ (k : Standing g.row.B.Denot). k.listing.closed) value ∙ all.closed,
        ap (λ (k : Standing g.row.B.Denot). k.state) value ∙ ap (λ (last : LogPoint). if last.closed then Finished else Running) all.same_cone.last,
      );
      same_cone = subst (IsSameCone (readied start)) (sym value) all.same_cone;
      reads = subst (λ (bay : g.row.B.Denot). IsJournalSame (files start.bay) (files bay)) (sym bay_is) all.journal;
      kept = subst (λ (bay : g.row.B.Denot). CallsBay (bays g) start.bay bay ⊥) (sym bay_is)
          (calls_as (bays g) (lawful g) start.bay c.replay_all.new.cone.bay _ ⊥ (λ never. absurd never) all.kept);
      stays_sound = λ seen told. tt;
      each_moment = λ seen told h begun each. subst (λ (bay : g.row.B.Denot). StaysSound (bays g) start.listing.settings start.listing.cone h start.bay bay) (sym bay_is)
          (all.each_moment seen told h begun each);
      unflushed = λ seen told nothing. subst (λ (bay : g.row.B.Denot). WritesNothing (bays g) start.bay bay ⊥) (sym bay_is) (all.unflushed seen told nothing);
      log = logged_from (bays g) (lawful g) start c.replay_all.new.cone now.bay _ all.log (ap files bay_is);
      rest = λ seen told h begun.
          subst (λ (bay : g.row.B.Denot). ReadsRest start.listing.version start.listing.settings c.args.last.now.offset h (handed start.bay JOURNAL) (handed bay JOURNAL)) (sym bay_is)
          (c.replay_all.ensures.reads seen told h begun);
    }

pub returns-in-Err : goal.returns-in-Err
returns-in-Err g c =
    let files = g.B.Bay.files in
    let faults = g.B.Faulty.faults in
    let start = c.args.cone in
    let all = c.in-Err.ensures in
    let bay_is = c.into_bay-bay.ensures in
    let last = c.why_stopped-fault.new.bay in
    let why = c.why_stopped-fault.ensures in
    let end = c.replay_all.new.cone in
    let behind : ReadsBay (bays g) end.bay last ⊥ = subst (λ (bay : g.row.B.Denot). ReadsBay (bays g) bay last ⊥) bay_is why.only_reads in
    let both : CallsBay (bays g) start.bay last ⊥ = calls_on (bays g) (lawful g) start.bay end.bay last _ ⊥ all.kept behind.kept in
    record {
      told = λ seen told some.
          let files = g.B.Bay.files in
          let start = c.args.cone in
          let end = c.replay_all.new.cone in
          let stop = c.in-Err.stop in
          let stopped = c.in-Err.ensures.told seen told in
          let there = c.replay_all.ensures.journal.told seen told in
          let found = c.why_stopped-fault.ensures.told there.0 (ap files c.into_bay-bay.ensures ∙ there.1) in
          let fault = c.why_stopped-fault.result in
          let why : IsWhy start.listing.version start.listing.settings start.listing.cone start.last.n0 start.last.closed (seen JOURNAL) stop.before.events stop.before.weight stop.gate stop.fault
          fault =
          subst (λ (v : ℕ). IsWhy v start.listing.settings start.listing.cone start.last.n0 start.last.closed (seen JOURNAL) stop.before.events stop.before.weight stop.gate stop.fault fault)
          (sym c.requires.own.3)
          (subst (λ (s : Numbers). IsWhy c.args.last.now.version s start.listing.cone start.last.n0 start.last.closed (seen JOURNAL) stop.before.events stop.before.weight stop.gate stop.fault fault)
          (sym c.requires.own.0)
          (subst (λ (cone : ℕ). IsWhy c.args.last.now.version c.args.settings.now cone start.last.n0 start.last.closed (seen JOURNAL) stop.before.events stop.before.weight stop.gate stop.fault
          fault) (sym c.requires.own.1)
          (subst (λ (last : LogPoint). IsWhy c.args.last.now.version c.args.settings.now c.args.number last.n0 last.closed (seen JOURNAL) stop.before.events stop.before.weight stop.gate stop.fault
          fault) (sym c.requires.own.2)
          (subst (λ (bytes : List ℕ). IsWhy c.args.last.now.version c.args.settings.now c.args.number c.args.last.now.n0 c.args.last.now.closed bytes stop.before.events stop.before.weight stop.gate
          stop.fault fault) there.2
          found)))) in
          stopped_of start.listing.settings start.listing.cone start.last.n0 start.last.closed (seen JOURNAL) start.listing.events start.weight c.args.last.now.offset stop.gate
          stop.before.events stopped.0 stop.before.weight stopped.1 stopped.2 fault stop.fault why stopped.3
          (λ file at is. c.in-Err.ensures.full seen told some file at is);
      fails = λ seen told h begun.
          let there = c.replay_all.ensures.journal.told seen told in
          let found = c.why_stopped-fault.ensures.told there.0 (ap g.B.Bay.files c.into_bay-bay.ensures ∙ there.1) in
          outside_of c.args.last.now.version c.args.settings.now c.args.number c.args.last.now.n0 c.args.last.now.closed (there.0 JOURNAL) c.in-Err.stop.before.events c.in-Err.stop.before.weight
          c.in-Err.stop.gate
          c.why_stopped-fault.result c.in-Err.stop.fault found (c.in-Err.ensures.replays seen told h begun);
      stands = tt;
      passed = tt;
      counted = tt;
      weight = tt;
      state = tt;
      same_cone = tt;
      reads = journal_on all.journal (journal_same (files end.bay) (files last) behind.seen);
      kept = record {
        time = both.time;
        never_falls = both.never_falls;
        failed = λ is. elim (why.failed is) [
          | inl same ↦ risen_then (faults start.bay) (faults end.bay) (faults last) behind.kept.never_falls (all.kept.failed same)
          | inr rose ↦ risen_since (faults start.bay) (faults end.bay) (faults last) all.kept.never_falls behind.kept.never_falls
              (subst (λ (bay : g.row.B.Denot). HasRisen (faults bay) (faults last)) bay_is rose)
        ];
        mark = both.mark;
      };
      stays_sound = λ seen told h begun now is. all.stays_sound seen told h begun now (sym behind.seen ∙ is);
      each_moment = λ seen told h begun each. stays_read (bays g) (lawful g) h start.listing.settings start.listing.cone start.bay end.bay last _ ⊥ all.kept
          (all.each_moment seen told h begun each) behind;
      unflushed = λ seen told nothing. quiet_on (lawful g) (all.unflushed seen told nothing) (quiet_reading (lawful g) behind);
      log = logged_from (bays g) (lawful g) start end last _ all.log behind.seen;
      rest = λ seen told h begun.
          let handed = g.B.Bay.handed_out in
          let unread = ap (λ (out : ℕ → ℕ). out JOURNAL) (why.unread (all.replays seen told h begun)) in
          let same = ap (λ (bay : g.row.B.Denot). handed bay JOURNAL) bay_is in
          omega (arith, c.replay_all.ensures.reads seen told h begun, unread, same);
    }
