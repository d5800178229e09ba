use Rattle.lert_bay.specs.Kept.{Bays, seen_by}
use Rattle.std.proofs.{Common.{◌≡◌, ℕ, ◌+◌, ◌-◌, ◌<◌, ◌≤◌, Some, Err, List, [], length, ap, sym, ◌∙◌, subst, arith}, lemmas.Option.same_Some, lemmas.Result.IfErr-weaker, lemmas.List.Elements.All-nil}
use Rattle.std.specs.{List.length_refill, Prelude.{All, IfOk, MatchResult, if◌then◌else◌}}
use Rattle.lert_base.specs.Packet.{Packet, events_of}
use Rattle.lert_bay.specs.{declared.bay.TheConstants.{JOURNAL, LOG, FRAMES}, Files.Files}
use Rattle.lert_cone.proofs.{TotalLaws.edge_within, UnreadLaws.length_unread, WeighLaws.{weight_from_none, weight_from_small}}
use Rattle.lert_bay.proofs.KeptLaws.{IsLawful, calls_as}
use Rattle.lert_gatelog.specs.Gated.{IsClosed}
use Rattle.lert_cone.specs.{declared.state.ConeState.TheVariants.{Finished, Running}, Framed.HoldsSome, Replaying.Replaying, Sound.IsSound, Stands.{Standing, StandsFor, WereSoundAs}}
use Rattle.lert_cone.specs.Wrote.{IsShutIfTold}
use Rattle.lert_files.specs.{declared.fault.ReopenFault.TheVariants.Failed, Opened.WritesNothing}
use Rattle.lert_recover.specs.{declared.recovery.ReopenRefused.ReopenRefused, Replayed.{FlushesNothing, HasReplayed, ReplaysSome}, Reopened.IsStopped}
use Rattle.lert_files.proofs.QuietLaws.{quiet_as}
use Rattle.lert_journal.specs.Header.{version_in}
use Rattle.lert_levels.specs.{OnDisk.OnDisk, rows.Checked.rows_total, rows.Rows.directory_text}
use Rattle.lert_reports.specs.{Log.{last_first, last_n0}, Stored.Stored}
use Rattle.lert_spec.specs.{declared.item.Item.Item, declared.numbers.Numbers.Numbers, Counts.{weighed, weight_of}, Items.most_weight, Limits.IsValid}
use Rattle.lert_recover.proofs.{BayLaws.{bay_before, made_of, own_of, quiet_before}, LoggedLaws.logs_in, MomentLaws.{stays_made, stays_quiet}, ReplayingLaws.journal_same}
use Rattle.lert_recover.proofs.ReopenLaws.{fails_on, frames_settled, journal_settled, last_of, log_shut, ok_on}
use Rattle.lert_recover.proofs.ReopenLaws.{read_before, refused_before, reopened_of, sound_opened, sound_version, sound_weighs, stands_on}
use Rattle.lert_recover.proofs.{SomeEvents.some_events, UnharmedLaws.{unharmed_opened, unharmed_quiet}}
use Rattle.lert_recover.proofs.recovery.reopen_in_order.Given as given
use Rattle.lert_recover.proofs.recovery.reopen_in_order.Goals as goal

abbrev bays : (g : given.Over) → Bays g.row.B.Denot
bays g = seen_by g.B.Faulty g.B.Bay

lawful : (g : given.Over) → IsLawful (bays g)
lawful g = record { as_read = g.met.B.Bay.as_read; since_now = g.met.B.Bay.since_now; only_now = g.met.B.Bay.only_now; since_earlier = g.met.B.Bay.since_earlier }

-- ---- what a cone asks of the files

pub read_files-requires : goal.read_files-requires
read_files-requires g c =
    let room = c.requires.room in
    record {
      levels = ap (λ (disk : OnDisk). disk.settings) room.levels_are;
      store = ap (λ (stored : Stored). stored.settings) room.stored_is;
      empty = ap (λ (stored : Stored). stored.reports) room.stored_is;
      room = omega (arith, room.roomy);
    }

pub adopt-begun-requires-clause-named : goal.adopt-begun-requires-clause-named
adopt-begun-requires-clause-named g c = c.requires.named

pub adopt-begun-requires-clause-point : goal.adopt-begun-requires-clause-point
adopt-begun-requires-clause-point g c =
    let read = c.in-Ok.ensures.point in
    record {
      within = read.within;
      names = record { offset_from = read.offset_from; offset_to = read.offset_to; first_from = read.first_from; first_to = read.first_to };
      reach = c.in-Ok.ensures.reach;
      known = c.in-Ok.ensures.known;
      weighs = c.in-Ok.ensures.weight;
    }

pub adopt-begun-requires-clause-room : goal.adopt-begun-requires-clause-room
adopt-begun-requires-clause-room g c =
    let room = c.requires.room in
    let read = c.in-Ok.ensures in
    let buffer = c.args.room.buffer in
    let len_is : buffer.len ≡ length buffer.items = omega (arith, buffer.ok.0) in
    record {
      valid = room.valid;
      young_is = room.young_is;
      levels_of = read.same.0 ∙ ap (λ (disk : OnDisk). disk.settings) room.levels_are;
      version_is = read.version;
      at = read.at;
      are = read.rows;
      stored_of = read.same.1 ∙ ap (λ (stored : Stored). stored.settings) room.stored_is;
      own = read.reports.of_cone;
      placed = read.reports.placed;
      keys_are = room.keys_are;
      roomy = sym (length_refill buffer.len buffer.items c.read_files.new.buffer len_is) ∙ (len_is ∙ room.roomy);
    }

pub adopt-begun-requires-clause-log_shut : goal.adopt-begun-requires-clause-log_shut
adopt-begun-requires-clause-log_shut g c seen told =
    let before = sym c.read_files.ensures.quiet.seen ∙ told in
    let opened = (c.in-Ok.ensures.opened seen before).2 in
    log_shut (g.B.Bay.leaves c.read_files.new.bay) seen (c.in-Ok.ensures.durable seen before) c.in-Ok.end.log_end opened.log.records_stand.closed

pub adopt-begun-requires-clause-journal : goal.adopt-begun-requires-clause-journal
adopt-begun-requires-clause-journal g c seen told =
    journal_settled (g.B.Bay.leaves c.read_files.new.bay) seen (c.in-Ok.ensures.durable seen (sym c.read_files.ensures.quiet.seen ∙ told))

pub adopt-begun-requires-clause-frames : goal.adopt-begun-requires-clause-frames
adopt-begun-requires-clause-frames g c seen told from to named =
    frames_settled (g.B.Bay.leaves c.read_files.new.bay) seen (c.in-Ok.ensures.durable seen (sym c.read_files.ensures.quiet.seen ∙ told)) from to

pub replay_journal-requires : goal.replay_journal-requires
replay_journal-requires g c =
    let made = c.adopt-begun.ensures.made in
    let settings_are = ap (λ (k : Replaying g.row.B.Denot). k.listing.settings) made in
    let end = c.in-Ok.end in
    let point = c.in-Ok.ensures.point in
    let events_are = ap (λ (k : Replaying g.row.B.Denot). k.events) made in
    let count = ap (λ (k : Replaying g.row.B.Denot). length k.listing.events) made
    ∙ length_unread end.version c.args.room.settings c.args.cone (end.first - 1) (g.B.Bay.files c.read_files.new.bay) in
    let shut : IsShutIfTold (g.B.Bay.files c.read_files.new.bay) (g.B.Bay.leaves c.read_files.new.bay) LOG end.log_end =
    λ seen told.
    let before = sym c.read_files.ensures.quiet.seen ∙ told in
    let opened = (c.in-Ok.ensures.opened seen before).2 in
    log_shut (g.B.Bay.leaves c.read_files.new.bay) seen (c.in-Ok.ensures.durable seen before) end.log_end opened.log.records_stand.closed in
    record {
      own = (
        settings_are,
        ap (λ (k : Replaying g.row.B.Denot). k.listing.cone) made,
        ap (λ (k : Replaying g.row.B.Denot). k.last) made,
        ap (λ (k : Replaying g.row.B.Denot). k.listing.version) made,
      );
      known = c.in-Ok.ensures.known;
      place = c.in-Ok.ensures.point.within;
      taking = ap (λ (k : Replaying g.row.B.Denot). k.stopped) made;
      valid = subst IsValid (sym settings_are) c.requires.room.valid;
      begun = (ap (λ (k : Replaying g.row.B.Denot). k.gate) made, events_are ∙ sym count);
      few = omega (arith, events_are, point.first_from, point.first_to, edge_within c.args.room.settings 0 end.n0);
      log_shut = subst (λ (k : Replaying g.row.B.Denot). IsShutIfTold (g.B.Bay.files k.bay) (g.B.Bay.leaves k.bay) LOG k.log.gate) (sym made) shut;
      near = point.offset_to;
      light = omega (
        arith,
        ap (λ (k : Replaying g.row.B.Denot). k.weight) made,
        weight_from_small c.args.room.settings end [] c.requires.room.valid point.within (omega arith) (All-nil (λ (i : Item). (1 ≤ i.weight) × (i.weight ≤ most_weight end.version)))
            c.in-Ok.ensures.weight,
        weight_from_none c.args.room.settings end [] (omega arith),
      );
    }

-- ---- files that aren't read

pub returns-in-Err : goal.returns-in-Err
returns-in-Err g c =
    let read = c.in-Err.ensures in
    record {
      told = λ seen told.
          refused_before c.args.room.settings c.args.cone seen c.in-Err.fault
          (λ file at is. c.in-Err.ensures.malformed seen told file at (ap Err is))
          (λ kept is. c.in-Err.ensures.other seen told kept (ap Err is));
      fails = λ seen told h sound.
          let there = sound_opened c.args.room.settings c.args.cone c.requires.room.valid seen h sound in
          c.in-Err.ensures.passes seen told sound.logged sound.log_end there.rows there.opened;
      stands = tt;
      own = tt;
      weight = tt;
      made = tt;
      reads = journal_same (g.B.Bay.files c.args.bay) (g.B.Bay.files c.read_files.new.bay) read.quiet.seen;
      kept = calls_as (bays g) (lawful g) c.args.bay c.read_files.new.bay _ _ (λ is. ap Err is) read.quiet.kept;
      stays_sound = λ seen told h sound now is. subst (IsSound c.args.room.settings c.args.cone h) (same_Some seen now (sym (read.quiet.seen ∙ told) ∙ is)) sound;
      each_moment = λ seen told h each. stays_quiet (bays g) (lawful g) h c.args.room.settings c.args.cone c.args.bay c.read_files.new.bay _ read.quiet seen told each;
      unharmed = unharmed_quiet (bays g) c.args.room.settings c.args.cone c.args.bay c.read_files.new.bay (quiet_as (lawful g) (λ never. absurd never) read.quiet);
      bounded = λ seen told h sound. omega (arith, c.read_files.ensures.handed);
    }

-- ---- the journal behind the others

-- of files that are told and sound for a list, the cone is on its way through that list
pub returns-in-Ok : goal.returns-in-Ok
returns-in-Ok g c =
    let files = g.B.Bay.files in
    let leaves = g.B.Bay.leaves in
    let faults = g.B.Faulty.faults in
    let mark = g.B.Faulty.mark in
    let s = c.args.room.settings in
    let cone = c.args.cone in
    let start = c.adopt-begun.result in
    let read = c.in-Ok.ensures in
    let made = c.adopt-begun.ensures.made in
    let version_is : (seen : Files) → files c.args.bay ≡ Some seen → start.listing.version ≡ version_in (seen JOURNAL) =
    λ seen told. ap (λ (k : Replaying g.row.B.Denot). k.listing.version) made ∙ read.headed seen told in
    let bay_is = ap (λ (k : Replaying g.row.B.Denot). k.bay) made in
    let made_is = ap (λ (k : Replaying g.row.B.Denot). k.made) made in
    let result = c.replay_journal.result in
    let replayed = c.replay_journal.ensures in
    let quiet : WritesNothing (bays g) c.args.bay c.read_files.new.bay ⊥ =
    quiet_as (lawful g) (λ never. absurd never) read.quiet in
    let before : WritesNothing (bays g) c.args.bay start.bay ⊥ = subst (λ (bay : g.row.B.Denot). WritesNothing (bays g) c.args.bay bay ⊥) (sym bay_is) quiet in
    let bay_in = λ (refused : ReopenRefused g.row.B.Denot). refused.bay in
    let says = bay_before (bays g) (lawful g) bay_in c.args.bay start.bay ⊥ (λ (refused : ReopenRefused g.row.B.Denot). refused.fault) before result
    (record { reads = replayed.reads; kept = replayed.kept }) in
    let begun : (seen : Files) → files c.args.bay ≡ Some seen → (h : List Packet) → IsSound s c.args.cone h seen → ReplaysSome files leaves start h =
    λ seen told h sound.
    let opened = read.opened seen told in
    let end = c.in-Ok.end in
    let rows = c.read_files.new.levels.rows in
    c.adopt-begun.ensures.replays seen (read.quiet.seen ∙ told) opened.0 opened.2.log
    (last_of s cone end.n0 end.offset end.first end.closed c.read_files.new.store.reports rows opened.0 opened.1 opened.2.named) h sound
    (sound_version s cone seen h sound ∙ sym (read.headed seen told))
    (sound_weighs s cone c.requires.room.valid c.ranges.cone.fits seen h sound opened.0 end.log_end rows opened.2 end.n0 end.weight end.version opened.1.n0_is (read.headed seen told)
    (read.sum seen told)) in
    let there : (seen : Files) → files c.args.bay ≡ Some seen → files start.bay ≡ Some seen = λ seen told. ap files bay_is ∙ (read.quiet.seen ∙ told) in
    let fails = λ (seen : Files) (told : files c.args.bay ≡ Some seen).
    fails_on (λ h. ReplaysSome files leaves start h) (λ h. IsSound s c.args.cone h seen)
    (λ (refused : ReopenRefused g.row.B.Denot). refused.fault ≡ Failed)
    c.replay_journal.result (begun seen told) (c.replay_journal.ensures.fails seen (there seen told)) in
    record {
      told = λ seen told.
          let files = g.B.Bay.files in
          let s = c.args.room.settings in
          let after = c.read_files.ensures.quiet.seen ∙ told in
          let opened = c.in-Ok.ensures.opened seen told in
          let result = c.replay_journal.result in
          let journal = subst (λ (k : Replaying g.row.B.Denot). (now : Files) → files k.bay ≡ Some now → HoldsSome k.listing.version k.listing.settings k.last.n0 k.rows (now FRAMES) →
          MatchResult result
          (λ (cone : Standing g.row.B.Denot). HasReplayed k.listing.version k.listing.settings k.listing.cone k.last.n0 k.last.closed (now JOURNAL) k.listing.events k.weight c.in-Ok.end.offset
          cone.gate cone.listing.events cone.weight × IsClosed (now JOURNAL) cone.gate)
          (λ (refused : ReopenRefused g.row.B.Denot). IsStopped k.listing.version k.listing.settings k.listing.cone k.last.n0 k.last.closed (now JOURNAL) (length k.listing.events) k.weight
          c.in-Ok.end.offset refused.fault))
          c.adopt-begun.ensures.made c.replay_journal.ensures.told in
          let passed = subst (λ (k : Replaying g.row.B.Denot). IfOk result (λ (cone : Standing g.row.B.Denot). k.last.n0 ≤ length cone.listing.events)) c.adopt-begun.ensures.made
          c.replay_journal.ensures.passed in
          let closed = subst (λ (k : Replaying g.row.B.Denot). IfOk result (λ (cone : Standing g.row.B.Denot). cone.listing.closed ≡ k.listing.closed)) c.adopt-begun.ensures.made
          (ok_on (λ (cone : Standing g.row.B.Denot). (cone.listing.closed ≡ c.adopt-begun.result.listing.closed) ×
          (cone.state ≡ if c.adopt-begun.result.last.closed then Finished else Running))
          (λ (cone : Standing g.row.B.Denot). cone.listing.closed ≡ c.adopt-begun.result.listing.closed)
          result (λ cone both. both.0) c.replay_journal.ensures.state) in
          reopened_of (λ (cone : Standing g.row.B.Denot). cone.listing.closed) (λ (cone : Standing g.row.B.Denot). cone.listing.events)
          (λ (cone : Standing g.row.B.Denot). cone.weight) (λ (cone : Standing g.row.B.Denot). cone.gate)
          (λ (refused : ReopenRefused g.row.B.Denot). refused.fault)
          c.in-Ok.end.version s c.args.cone seen (read.headed seen told) (files c.read_files.new.bay) after opened.0 c.in-Ok.end.log_end c.read_files.new.levels.rows c.in-Ok.end.n0
          c.in-Ok.end.offset c.in-Ok.end.first c.in-Ok.end.closed c.in-Ok.end.weight c.read_files.new.store.reports (directory_text c.read_files.new.levels.rows) opened.2 opened.1
          (read.sum seen told ∙ ap (λ v. rows_total s v (seen FRAMES) 1 c.read_files.new.levels.rows) (read.headed seen told)) result
          (journal seen after (some_events s c.requires.room.valid c.in-Ok.end.version c.in-Ok.end.n0 c.in-Ok.ensures.point.within c.read_files.new.levels.rows c.in-Ok.ensures.at
          (seen FRAMES) (c.in-Ok.ensures.stand seen told))) passed closed (fails seen told);
      fails = fails;
      stands =
          let files = g.B.Bay.files in
          let leaves = g.B.Bay.leaves in
          let s = c.args.room.settings in
          let cone = c.args.cone in
          let start = c.adopt-begun.result in
          let on_way : (h : List Packet) → ((seen : Files) → files c.args.bay ≡ Some seen → (other : List Packet) → IsSound s cone other seen → IsSound s cone h seen) →
          WereSoundAs files start.listing.settings start.listing.cone start.made → (seen : Files) → files start.bay ≡ Some seen → ReplaysSome files leaves start h =
          λ h same was seen told.
          let after = sym (ap (λ (k : Replaying g.row.B.Denot). files k.bay) c.adopt-begun.ensures.made) ∙ told in
          let before = sym c.read_files.ensures.quiet.seen ∙ after in
          let first = was seen (ap (λ (k : Replaying g.row.B.Denot). files k.made) c.adopt-begun.ensures.made ∙ after) in
          let own = subst (λ (k : Replaying g.row.B.Denot). IsSound k.listing.settings k.listing.cone first.0 seen) c.adopt-begun.ensures.made first.1 in
          begun seen before h (same seen before first.0 own) in
          stands_on (λ h. All (λ (packet : Packet). 0 < length packet.items) h)
          (λ h (now : Standing g.row.B.Denot). (length (events_of h) ≡ now.events) × (weight_of weighed (events_of h) ≡ now.weight))
          (λ h. WereSoundAs files start.listing.settings start.listing.cone start.made → (seen : Files) → files start.bay ≡ Some seen → ReplaysSome files leaves start h)
          (λ h. (seen : Files) → files c.args.bay ≡ Some seen → (other : List Packet) → IsSound s cone other seen → IsSound s cone h seen)
          (λ (now : Standing g.row.B.Denot) h. StandsFor files leaves g.B.Faulty.faults now h) c.replay_journal.result on_way c.replay_journal.ensures.stands;
      weight = replayed.weight;
      own = own_of start s cone (ap (λ (k : Replaying g.row.B.Denot). k.listing.settings) made) (ap (λ (k : Replaying g.row.B.Denot). k.listing.cone) made)
          (ap (λ (k : Replaying g.row.B.Denot). k.listing.closed) made ∙ sym (ap (λ (k : Replaying g.row.B.Denot). k.last.closed) made)) result replayed.same_cone replayed.counted
          replayed.state;
      made = made_of start files faults mark c.args.bay (ap files made_is ∙ read.quiet.seen)
          (subst (λ (bay : g.row.B.Denot). faults c.args.bay ≤ faults bay) (sym made_is) read.quiet.kept.never_falls)
          (ap mark made_is ∙ read.quiet.kept.mark) result replayed.same_cone;
      reads = says.reads;
      kept = says.kept;
      stays_sound = λ seen told h sound.
          IfErr-weaker result _ _ (λ refused all now is.
          subst (λ (t : Numbers). IsSound t cone h now) (ap (λ (k : Replaying g.row.B.Denot). k.listing.settings) made)
          (subst (λ (n : ℕ). IsSound start.listing.settings n h now) (ap (λ (k : Replaying g.row.B.Denot). k.listing.cone) made)
          (all h (begun seen told h sound) now is)))
          (replayed.stays_sound seen (there seen told));
      each_moment = λ seen told h each.
          stays_made (bays g) (lawful g) h bay_in (λ (refused : ReopenRefused g.row.B.Denot). refused.fault ≡ Failed) s cone start c.args.bay
          (ap (λ (k : Replaying g.row.B.Denot). k.listing.settings) made) (ap (λ (k : Replaying g.row.B.Denot). k.listing.cone) made) before seen told each result replayed.kept
          (replayed.each_moment seen (there seen told) h (begun seen told h (each seen ((lawful g).as_read c.args.bay seen told))));
      unharmed =
          unharmed_opened (bays g) s c.args.cone c.args.bay c.requires.room.valid c.ranges.cone.fits
          (λ seen told. let opened = c.in-Ok.ensures.opened seen told in (opened.0, c.in-Ok.end.log_end, c.read_files.new.levels.rows, opened.2)) bay_in result
          (λ seen told nothing.
          let opened = c.in-Ok.ensures.opened seen told in
          let end = c.in-Ok.end in
          let n0_is = ap (λ (k : Replaying g.row.B.Denot). k.last.n0) made ∙ opened.1.n0_is in
          let count_is = ap (λ (k : Replaying g.row.B.Denot). length k.listing.events) made
          ∙ (length_unread end.version s cone (end.first - 1) (files c.read_files.new.bay) ∙ ap (λ (n : ℕ). n - 1) opened.1.first_is) in
          let none : FlushesNothing start.listing.version start.listing.settings start.last.n0 (seen JOURNAL) (length start.listing.events) end.offset =
          subst (λ (v : ℕ). FlushesNothing v start.listing.settings start.last.n0 (seen JOURNAL) (length start.listing.events) end.offset) (sym (version_is seen told))
          (subst (λ (t : Numbers). FlushesNothing (version_in (seen JOURNAL)) t start.last.n0 (seen JOURNAL) (length start.listing.events) end.offset)
          (sym (ap (λ (k : Replaying g.row.B.Denot). k.listing.settings) made))
          (subst (λ (n : ℕ). FlushesNothing (version_in (seen JOURNAL)) s n (seen JOURNAL) (length start.listing.events) end.offset) (sym n0_is)
          (subst (λ (n : ℕ). FlushesNothing (version_in (seen JOURNAL)) s (last_n0 opened.0) (seen JOURNAL) n end.offset) (sym count_is)
          (subst (λ (gate : ℕ). FlushesNothing (version_in (seen JOURNAL)) s (last_n0 opened.0) (seen JOURNAL) (last_first opened.0 - 1) gate) (sym opened.1.offset_is)
          (nothing opened.0 end.log_end opened.2.log))))) in
          quiet_before (bays g) (lawful g) bay_in c.args.bay start.bay ⊥ before result (replayed.unflushed seen (there seen told) none))
          (logs_in (bays g) (lawful g) start s cone c.requires.room.valid c.args.bay c.in-Ok.end.log_end (ap (λ (k : Replaying g.row.B.Denot). k.listing.settings) made) version_is
          (ap (λ (k : Replaying g.row.B.Denot). k.log.gate) made) there
          (λ seen told.
          let opened = c.in-Ok.ensures.opened seen told in
          let end = c.in-Ok.end in (
            opened.0,
            opened.2.log,
            c.adopt-begun.ensures.log seen (read.quiet.seen ∙ told) opened.0 opened.2.log
                (last_of s cone end.n0 end.offset end.first end.closed c.read_files.new.store.reports c.read_files.new.levels.rows opened.0 opened.1 opened.2.named),
          ))
          bay_in result replayed.log);
      bounded = λ seen told h sound.
          let handed = g.B.Bay.handed_out in
          let opened = c.in-Ok.ensures.opened seen told in
          read_before (λ (bay : g.row.B.Denot). handed bay JOURNAL) bay_in s cone c.requires.room.valid seen h sound opened.0 c.in-Ok.end.log_end opened.2.log c.in-Ok.end.offset
          opened.1.offset_is start.listing.settings start.listing.version (ap (λ (k : Replaying g.row.B.Denot). k.listing.settings) made) (version_is seen told) c.args.bay start.bay
          (subst (λ (bay : g.row.B.Denot). handed bay JOURNAL ≤ handed c.args.bay JOURNAL + 32) (sym bay_is) read.handed) result
          (replayed.rest seen (there seen told) h (begun seen told h sound));
    }
