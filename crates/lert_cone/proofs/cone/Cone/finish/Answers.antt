use Rattle.lert_spec.specs.Counts.{weighed}
use Rattle.lert_bay.specs.Kept.{Bays, seen_by}
use Rattle.std.proofs.{Common.{ℕ, ◌≡◌, ◌∙◌, List, Err, true, refl, length, ap, sym, subst, inl, arith}, lemmas.Bool.false≢true, lemmas.Result.err_from_is_err_and}
use Rattle.std.specs.List.{length_refill}
use Rattle.lert_base.specs.Packet.{Packet, events_of}
use Rattle.lert_bay.specs.Files.{IfTold}
use Rattle.lert_cone.proofs.{SoundLaws.turns_back, Stepping.{breaks, passes, refuses}, AppendLaws.whole_of, StandLaws.{cone_at, stands_whole, ended_cone, broken_cone, reports_finished}}
use Rattle.lert_cone.proofs.FaultLaws.{any_turn, by_bay_of, is_broken_by, no_refusal}
use Rattle.lert_cone.proofs.{Refusals.{no_fault, one_fault}, TimeLaws.timely}
use Rattle.lert_bay.proofs.KeptLaws.{IsLawful}
use Rattle.lert_spec.specs.{declared.numbers.Numbers.Numbers, Look.closing_of, Timely.IsTimelyIn}
use Rattle.lert_cone.specs.{declared.state.ConeState.TheVariants.{Running, Finished}, InStep.IsLogging, Listing.Listing, Refuses.IsStoppedBy, Sound.{IsKept, IsSound, IsSoundAs}}
use Rattle.lert_cone.specs.Stands.{Standing, StandsFor, over_of, is_broken, is_finished, is_refusal}
use Rattle.lert_reports.specs.Stored.{Stored}
use Rattle.lert_io.proofs.Rising.{risen_since}
use Rattle.lert_cone.proofs.cone.Cone.finish.Given as given
use Rattle.lert_cone.proofs.cone.Cone.finish.Goals as goal
use Rattle.lert_cone.proofs.cone.Cone.finish.Goals.{After-len}
use Rattle.lert_cone.specs.History.{end_of}
use Rattle.lert_cone.proofs.WeighLaws.{light_whole}

abbrev bays : (g : given.Over) → Bays g.row.B.Denot
bays g = seen_by g.B.Faulty g.B.Bay

lawful : (g : given.Over) → IsLawful (bays g)
lawful g = record { as_read = g.met.B.Bay.as_read; since_now = g.met.B.Bay.since_now; only_now = g.met.B.Bay.only_now; since_earlier = g.met.B.Bay.since_earlier }

pub finish-requires : goal.finish-requires
finish-requires g c =
    let running : c.self.inside.state ≡ Running = subst (λ (v : Standing g.row.B.Denot). v.state ≡ Running) (sym c.self.view_is) c.in_ok-test_state.ensures.ok in
    let counted = c.self.invariant.tallied (ap is_broken running) in
    let same : length c.self.inside.buffer.items ≡ length c.deref_mut.result.now = sym (ap (length {A = ℕ}) c.deref_mut.ensures.value) in
    record {
      still = c.self.invariant.closed (ap is_broken running) ∙ ap is_finished running;
      own = λ k d below. absurd (omega (arith, below));
      light = λ k d below. absurd (omega (arith, below));
      fits = omega (arith, counted.fits);
      counted = counted;
      can_log = record {
        logging = subst (λ n. IsLogging c.self.inside.tally c.self.inside.log n) same (c.self.invariant.logging running);
        log_shut = c.self.invariant.log_shut running;
      };
    }

-- a refusal before the first step
pub returns-in_err-test_state : goal.returns-in_err-test_state
returns-in_err-test_state g c =
    let p = err_from_is_err_and c.from_residual.result c.from_residual.ensures.1 in
    let refusal = rw c.in_err-test_state.was at c.test_state.ensures.refusal in
    let why = rw c.in_err-test_state.was at c.test_state.ensures.why in
    let state = c.args.self.now.state in
    rw (p.1, p.2) (record {
      stands_for = tt;
      answers = tt;
      reports = tt;
      finished = tt;
      in_time = tt;
      step = refuses (lawful g) c.in_err-test_state.was c.test_state.ensures.closed c.test_state.ensures.broken refusal;
      broke = λ never. absurd (false≢true (sym never ∙ refusal));
      never_full = λ n len same. subst (IsStoppedBy state) (one_fault same) why;
      never_heavy = λ weight more same. subst (IsStoppedBy state) (one_fault same) why;
      never_old = λ place same. subst (IsStoppedBy state) (one_fault same) why;
      each_moment = λ still sound seen told h stands image may.
          ((stands.whole still sound seen told).files.kept.images image (g.met.B.Bay.only_now c.args.self.now.bay image may)).sound;
      whole = λ seen told. tt;
      sound_closed = tt;
    })

-- a refusal in the middle
pub invariant_of-self : goal.invariant_of-self
invariant_of-self g c =
    let len_is : c.self.inside.buffer.len ≡ length c.self.inside.buffer.items = omega (arith, c.self.inside.buffer.ok) in
    broken_cone (ap is_broken c.broken_by-self-inside.ensures ∙ is_broken_by c.in-Err.fault) (ap (λ (l : Listing). l.settings) c.finish.ensures.listing) (ap (λ (l : Listing). l.version)
    c.finish.ensures.listing)
    refl refl refl refl refl refl
    (sym (length_refill c.self.inside.buffer.len c.self.inside.buffer.items c.finish.new.buffer len_is) ∙ len_is) refl c.finish.ensures.keeps.kept.never_falls
    (any_turn c.finish.ensures.keeps.journal.seen) c.finish.ensures.keeps.kept.mark
    (λ same. risen_since (g.B.Faulty.faults c.self.inside.made.value) (g.B.Faulty.faults c.self.inside.bay) (g.B.Faulty.faults c.finish.new.bay) c.self.invariant.never_falls
    c.finish.ensures.keeps.kept.never_falls
    (c.finish.ensures.keeps.kept.failed (c.in-Err.is ∙ ap Err (by_bay_of c.in-Err.fault (sym c.broken_by-self-inside.ensures ∙ same)))))
    c.self.invariant

pub returns-in-Err : goal.returns-in-Err
returns-in-Err g c =
    let running : c.self.inside.state ≡ Running = subst (λ (v : Standing g.row.B.Denot). v.state ≡ Running) (sym c.self.view_is) c.in_ok-test_state.ensures.ok in
    let did = rw c.in-Err.is at c.finish.ensures in
    rw (← c.self.view_is) (record {
      stands_for = tt;
      answers = tt;
      reports = tt;
      finished = tt;
      in_time = tt;
      step = breaks (lawful g) (record {
        settings = ap (λ (l : Listing). l.settings) did.listing;
        cone = ap (λ (l : Listing). l.cone) did.listing;
        made = refl;
        last = refl;
      }) running (any_turn did.keeps.journal.seen) c.broken_by-self-inside.ensures (ap Err c.from.ensures) refl c.self.invariant.never_falls did.keeps.kept did.keeps.journal.now
          (λ seen told h stands whole. did.sound seen told h whole.in_step (light_whole c.self.inside.tally.listing h whole.keys
          (whole.in_step.journal seen (g.met.B.Bay.as_read c.self.inside.bay seen told)).light)) (λ seen told h stands whole image may. inl (did.each_moment seen told h whole.keys whole.in_step
          image may)) did.keeps.shows;
      broke = λ _ i. record (cone_at c.finish.new.bay c.self.inside.made.value c.finish.new.tally c.self.inside.events c.self.inside.weight c.broken_by-self-inside.result (over_of c.self.inside.over)
          c.self.inside.journal.gate c.finish.new.log c.self.inside.last) { listing = c.finish.ensures.listing i; rows = c.finish.ensures.rows i };
      never_full = λ n len same. false≢true (sym (no_refusal c.in-Err.fault) ∙ ap is_refusal (sym c.from.ensures ∙ one_fault same));
      never_heavy = λ weight more same. false≢true (sym (no_refusal c.in-Err.fault) ∙ ap is_refusal (sym c.from.ensures ∙ one_fault same));
      never_old = λ place same. false≢true (sym (no_refusal c.in-Err.fault) ∙ ap is_refusal (sym c.from.ensures ∙ one_fault same));
      whole = λ seen told. tt;
      each_moment = λ still sound seen told h stands image may.
          let whole = stands.whole still sound seen told in
          c.finish.ensures.each_moment seen told h whole.keys whole.in_step image may;
      sound_closed = tt;
    })

-- the end
pub invariant_of-self-2 : goal.invariant_of-self-2
invariant_of-self-2 g c =
    let len_is : c.self.inside.buffer.len ≡ length c.self.inside.buffer.items = omega (arith, c.self.inside.buffer.ok) in
    let running : c.self.inside.state ≡ Running = subst (λ (v : Standing g.row.B.Denot). v.state ≡ Running) (sym c.self.view_is) c.in_ok-test_state.ensures.ok in
    ended_cone
    running refl (c.finish.ensures.listing ∙ ap (λ closed. record c.self.inside.tally.listing { closed = closed }) c.in_default.ensures.closed) c.in_default.ensures.counted (sym
    (length_refill c.self.inside.buffer.len c.self.inside.buffer.items c.finish.new.buffer len_is) ∙ len_is) c.finish.ensures.keeps.kept.never_falls
    (any_turn c.finish.ensures.keeps.journal.seen) c.finish.ensures.keeps.kept.mark c.self.invariant

was_running : (g : given.Over) (c : After-len g) → c.self.inside.state ≡ Running
was_running g c = subst (λ (v : Standing g.row.B.Denot). v.state ≡ Running) (sym c.self.view_is) c.in_ok-test_state.ensures.ok

-- what its counts list now
ended : (g : given.Over) (c : After-len g) → c.finish.new.tally.listing ≡ record c.self.inside.tally.listing { closed = true }
ended g c = c.finish.ensures.listing ∙ ap (λ closed. record c.self.inside.tally.listing { closed = closed }) c.in_default.ensures.closed

stands_then : (g : given.Over) (c : After-len g) (h : List Packet) → StandsFor g.B.Bay.files g.B.Bay.leaves g.B.Faulty.faults (cone_at c.self.inside.bay c.self.inside.made.value
    c.self.inside.tally c.self.inside.events c.self.inside.weight c.self.inside.state (over_of c.self.inside.over) c.self.inside.journal.gate c.self.inside.log c.self.inside.last) h →
    StandsFor g.B.Bay.files g.B.Bay.leaves g.B.Faulty.faults (cone_at c.finish.new.bay c.self.inside.made.value c.finish.new.tally c.self.inside.events c.self.inside.weight Finished
    (over_of c.self.inside.over) c.self.inside.journal.gate c.finish.new.log c.self.inside.last) h
stands_then g c h stands =
    let running = was_running g c in
    let is = ended g c in
    stands_whole (record {
      settings = ap (λ (l : Listing). l.settings) is;
      cone = ap (λ (l : Listing). l.cone) is;
      made = refl;
      last = refl;
    }) refl (stands.none_over (ap is_broken running)) stands.some stands.counted stands.within (stands.weighed (ap is_broken running))
    (λ sound seen told.
    let was = turns_back c.finish.ensures.keeps.journal.seen seen told in
    let whole = stands.whole (ap is_broken running) sound was.0 was.1 in
    whole_of (g.B.Bay.leaves c.finish.new.bay) seen h c.finish.new.tally c.self.inside.journal.gate c.finish.new.log c.in_default.ensures.counted
    (c.in_default.ensures.in_step was.0 was.1 h whole.keys whole.in_step seen told) (g.met.B.Bay.as_read c.finish.new.bay seen told)
    (ap (λ (l : Listing). l.events) is ∙ whole.keys) (whole.gate_is ∙ ap (λ (l : Listing). end_of l.version h) (sym is)))
    stands

pub returns : goal.returns
returns g c =
    let running = was_running g c in
    let is = ended g c in
    let turned = any_turn c.finish.ensures.keeps.journal.seen in
    rw (← c.self.view_is) (record {
      stands_for = stands_then g c;
      answers = λ h stands sound seen told.
          let then = turned.told seen told in
          let whole = stands.whole (ap is_broken running) sound seen told in
          let up = c.in_default.ensures.in_step seen told h whole.keys whole.in_step then.0 then.1 in
          c.len.ensures.count
          ∙ ap length (ap (λ (v : Stored). v.reports) c.store.ensures ∙ up.reports_are
          ∙ reports_finished c.finish.new.tally.listing (events_of h) c.in_default.ensures.closed (ap (λ (l : Listing). l.events) is ∙ whole.keys))
          ∙ ap (λ (l : Listing). length (closing_of weighed l.settings (events_of h))) is;
      reports = c.len.ensures.count ∙ ap length (ap (λ (v : Stored). v.reports) c.store.ensures);
      finished = λ i. record (cone_at c.finish.new.bay c.self.inside.made.value c.finish.new.tally c.self.inside.events c.self.inside.weight Finished (over_of c.self.inside.over)
          c.self.inside.journal.gate c.finish.new.log c.self.inside.last) { listing = is i; rows = c.finish.ensures.rows i };
      in_time = λ h stands sound seen told.
          let after = turned.told seen told in
          subst (λ (settings : Numbers). IsTimelyIn weighed settings.threshold settings.bins (events_of h) c.finish.new.tally.due.reports) (ap (λ (l : Listing). l.settings) is)
          (timely refl (ap (λ (l : Listing). l.closed) is) (stands_then g c h stands)
          (subst (λ (l : Listing). IfTold (g.B.Bay.files c.self.inside.made.value) (λ first. (history : List Packet) × IsSound l.settings l.cone history first)) (sym is) sound)
          after.0 after.1);
      step = passes (lawful g) (record { settings = ap (λ (l : Listing). l.settings) is; cone = ap (λ (l : Listing). l.cone) is; made = refl; last = refl }) running turned
          c.finish.ensures.keeps.kept;
      broke = tt;
      never_full = λ n len same. no_fault same;
      never_heavy = λ weight more same. no_fault same;
      never_old = λ place same. no_fault same;
      whole = c.in_default.ensures.whole;
      each_moment = λ still sound seen told h stands image may.
          let whole = stands.whole still sound seen told in
          c.finish.ensures.each_moment seen told h whole.keys whole.in_step image may;
      sound_closed = λ sound seen told h stands.
          subst (λ (l : Listing). IsKept (g.B.Bay.leaves c.finish.new.bay) seen (IsSoundAs l.settings l.cone l.closed h)) is
          ((stands_then g c h stands).whole refl (subst (λ (l : Listing). IfTold (g.B.Bay.files c.self.inside.made.value) (λ first. (history : List Packet) × IsSound l.settings l.cone history
          first)) (sym is) sound) seen told).files.kept;
    })
