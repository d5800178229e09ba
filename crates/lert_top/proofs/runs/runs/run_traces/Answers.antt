use Rattle.std.proofs.Common.{[], List, length, refl, ap, sym, ◌∙◌, subst, arith, inl, inr, append-nil}
use Rattle.lert_ingest.specs.{declared.status.Status.Status, Bays.AreLater}
use Rattle.lert_top.specs.runs.Run.{HasRun}
use Rattle.lert_top.proofs.{cones.AskedLaws.{all_back, none_returned, traces_same}, cones.ClosedLaws.{place_not_done, returned_in_each}}
use Rattle.lert_top.proofs.{cones.StatusLaws.{no_memory_no_place, no_memory_no_usage, no_memory_not_done, no_place_no_usage}, runs.RunLaws.{HasRun-shows, not_place_fault, not_usage, run_none}}
use Rattle.lert_ingest.proofs.BayLaws.{are_same, still_marked}
use Rattle.lert_top.proofs.runs.runs.run_traces.Goals as goal

pub returns-in-Err : goal.returns-in-Err
returns-in-Err g c = record {
  asked =
      elim c.in-Err.ensures.refused [
        | inl none ↦ inr (record {
          number = 0;
          within = omega arith;
          asked_is = ap g.P.Place.asked none.1 ∙ sym (append-nil (g.P.Place.asked c.args.place.now));
          no_fault = λ is. no_memory_no_place (sym none.0 ∙ is);
          all = λ is. absurd (no_memory_not_done (sym none.0 ∙ is));
        })
        | inr bay ↦ inl (record { number = bay.2.0; named = omega (arith, bay.2.1, c.cones.ensures); asked_is = bay.2.2; status_is = bay.0 })
      ];
  place_fault = λ is.
      elim c.in-Err.ensures.refused [
        | inl none ↦ absurd (no_memory_no_place (sym none.0 ∙ is))
        | inr bay ↦ (bay.1, refl, refl, bay.4)
      ];
  returned =
      elim c.in-Err.ensures.refused [
        | inl none ↦ none_returned g.P.Bay.Faulty.mark _ _ (ap g.P.Place.handed_bays none.1 ∙ c.requires.none)
        | inr bay ↦ bay.3
      ];
  ran = λ differs.
      elim c.in-Err.ensures.refused [
        | inl none ↦
            let same = ap g.P.Place.handed_bays none.1 ∙ c.requires.none in
            let traces = c.args.traces.items in
            let out = c.args.out.now in (
              [],
              λ cone below. absurd (omega (arith, below)),
              subst (λ (xs : List g.row.P-Bay.Denot). AreLater g.P.Bay.Bay.files g.P.Bay.Faulty.faults g.P.Bay.Faulty.mark xs []) (sym same)
                  (are_same g.P.Bay.Bay.files g.P.Bay.Faulty.faults g.P.Bay.Faulty.mark []),
              subst (λ (xs : List g.row.P-Bay.Denot). HasRun g.P.Trace.Source.remaining g.P.Trace.Faulty.faults g.K.Sink.taken g.K.Faulty.faults
                  g.P.Bay.Bay.files g.P.Bay.Faulty.faults c.args.settings.now c.args.workers traces traces out out xs [] c.in-Err.status) (sym same)
                  (subst (λ (st : Status). HasRun g.P.Trace.Source.remaining g.P.Trace.Faulty.faults g.K.Sink.taken g.K.Faulty.faults
                  g.P.Bay.Bay.files g.P.Bay.Faulty.faults c.args.settings.now c.args.workers traces traces out out [] [] st) (sym none.0)
                  (run_none g.P.Trace.Source.remaining g.P.Trace.Faulty.faults g.K.Sink.taken g.K.Faulty.faults
                  g.P.Bay.Bay.files g.P.Bay.Faulty.faults c.args.settings.now c.args.workers traces traces out out [] [] refl refl refl)),
            )
        | inr bay ↦ absurd (differs bay.0)
      ];
  later = traces_same g.P.Trace.Faulty.faults g.P.Trace.Faulty.mark c.args.traces.items;
  never_falls = c.open_bays.ensures.never_falls;
  no_usage = λ rule is.
      elim c.in-Err.ensures.refused [
        | inl none ↦ no_memory_no_usage rule (sym none.0 ∙ is)
        | inr bay ↦ no_place_no_usage rule (sym bay.0 ∙ is)
      ];
  handed = c.open_bays.ensures.traces;
  closed = λ is.
      elim c.in-Err.ensures.refused [
        | inl none ↦ absurd (no_memory_not_done (sym none.0 ∙ is))
        | inr bay ↦ absurd (place_not_done (sym bay.0 ∙ is))
      ];
}

pub returns-clause-asked : goal.returns-clause-asked
returns-clause-asked g c =
    inr (record {
      number = c.cones.result;
      within = omega (arith, c.cones.ensures);
      asked_is = c.put_back_bays.ensures.asked ∙ c.in-Ok.ensures.asked;
      no_fault = not_place_fault g.P.Trace.Source.remaining g.P.Trace.Faulty.faults g.K.Sink.taken g.K.Faulty.faults
          g.P.Bay.Bay.files g.P.Bay.Faulty.faults c.args.settings.now c.args.workers
          c.args.traces.items c.run_bays-traces.result.0.items c.args.out.now c.run_bays-traces.new.out c.in-Ok.bays.items c.run_bays-traces.new.bays.items c.run_bays-traces.result.1
          c.run_bays-traces.ensures.shows;
      all = λ is. c.cones.ensures;
    })

pub returns-clause-place_fault : goal.returns-clause-place_fault
returns-clause-place_fault g c = λ is.
    absurd (not_place_fault g.P.Trace.Source.remaining g.P.Trace.Faulty.faults g.K.Sink.taken g.K.Faulty.faults g.P.Bay.Bay.files g.P.Bay.Faulty.faults c.args.settings.now c.args.workers
    c.args.traces.items c.run_bays-traces.result.0.items c.args.out.now c.run_bays-traces.new.out c.in-Ok.bays.items c.run_bays-traces.new.bays.items c.run_bays-traces.result.1
    c.run_bays-traces.ensures.shows is)

pub returns-clause-no_usage : goal.returns-clause-no_usage
returns-clause-no_usage g c = λ rule is.
    not_usage g.P.Trace.Source.remaining g.P.Trace.Faulty.faults g.K.Sink.taken g.K.Faulty.faults g.P.Bay.Bay.files g.P.Bay.Faulty.faults c.args.settings.now c.args.workers
    c.args.traces.items c.run_bays-traces.result.0.items c.args.out.now c.run_bays-traces.new.out c.in-Ok.bays.items c.run_bays-traces.new.bays.items rule c.run_bays-traces.result.1
    c.run_bays-traces.ensures.shows is

pub returns-clause-returned : goal.returns-clause-returned
returns-clause-returned g c =
    all_back g.P.Bay.Bay.files g.P.Bay.Faulty.faults g.P.Bay.Faulty.mark c.in-Ok.bays.items c.run_bays-traces.new.bays.items _ _ (c.put_back_bays.ensures.bays ∙ c.in-Ok.ensures.opened)
    c.run_bays-traces.ensures.later c.in-Ok.ensures.marked c.put_back_bays.ensures.returned

pub returns-clause-ran : goal.returns-clause-ran
returns-clause-ran g c = λ differs.
    let same = c.put_back_bays.ensures.bays ∙ c.in-Ok.ensures.opened in
    let first = c.in-Ok.bays.items in
    let now = c.run_bays-traces.new.bays.items in
    let status = c.run_bays-traces.result.1 in (
      now,
      c.put_back_bays.ensures.returned,
      subst (λ (xs : List g.row.P-Bay.Denot). AreLater g.P.Bay.Bay.files g.P.Bay.Faulty.faults g.P.Bay.Faulty.mark xs now) (sym same) c.run_bays-traces.ensures.later,
      subst (λ (xs : List g.row.P-Bay.Denot). HasRun g.P.Trace.Source.remaining g.P.Trace.Faulty.faults g.K.Sink.taken g.K.Faulty.faults
          g.P.Bay.Bay.files g.P.Bay.Faulty.faults c.args.settings.now c.args.workers
          c.args.traces.items c.run_bays-traces.result.0.items c.args.out.now c.run_bays-traces.new.out xs now status) (sym same)
          (HasRun-shows g.P.Trace.Source.remaining g.P.Trace.Faulty.faults g.K.Sink.taken g.K.Faulty.faults g.P.Bay.Bay.files g.P.Bay.Faulty.faults c.args.settings.now c.args.workers
          c.args.traces.items c.run_bays-traces.result.0.items c.args.out.now c.run_bays-traces.new.out first now status c.run_bays-traces.ensures.shows
          (λ other. c.in-Ok.ensures.number ∙ c.cones.ensures) c.run_bays-traces.ensures.exact),
    )

pub put_back_bays-requires-clause-marked : goal.put_back_bays-requires-clause-marked
put_back_bays-requires-clause-marked g c = λ lifetimes outlive cone bay is.
    still_marked g.P.Bay.Bay.files g.P.Bay.Faulty.faults g.P.Bay.Faulty.mark c.in-Ok.bays.items c.run_bays-traces.new.bays.items c.run_bays-traces.ensures.later c.in-Ok.ensures.marked cone bay is

pub run_bays-traces-requires-clause-number : goal.run_bays-traces-requires-clause-number
run_bays-traces-requires-clause-number g c = λ lifetimes outlive. c.in-Ok.ensures.number ∙ c.cones.ensures

pub run_bays-traces-requires-clause-room : goal.run_bays-traces-requires-clause-room
run_bays-traces-requires-clause-room g c = λ lifetimes outlive. omega (arith, c.in-Ok.ensures.number, c.in-Ok.ensures.room)

pub put_back_bays-requires-clause-handed : goal.put_back_bays-requires-clause-handed
put_back_bays-requires-clause-handed g c = λ lifetimes outlive. c.run_bays-traces.ensures.later.number ∙ ap length (sym c.in-Ok.ensures.opened)

pub returns-clause-handed : goal.returns-clause-handed
returns-clause-handed g c = c.put_back_bays.ensures.traces ∙ c.open_bays.ensures.traces

pub returns-clause-never_falls : goal.returns-clause-never_falls
returns-clause-never_falls g c = omega (arith, c.open_bays.ensures.never_falls, c.put_back_bays.ensures.faults)

pub returns-clause-closed : goal.returns-clause-closed
returns-clause-closed g c = λ is.
    returned_in_each g.P.Bay.Bay.files g.P.Bay.Bay.leaves c.args.settings.now c.run_bays-traces.new.bays.items (g.P.Place.returned_bay c.put_back_bays.new.place)
    (c.run_bays-traces.ensures.later.number ∙ (c.in-Ok.ensures.number ∙ c.cones.ensures)) c.put_back_bays.ensures.returned (c.run_bays-traces.ensures.closed is)
