use Rattle.std.proofs.Common.{◌++◌, [], List, length, refl, ap, sym, ◌∙◌, subst, arith, inl, inr}
use Rattle.lert_args.specs.Names.{names_of}
use Rattle.lert_io.proofs.Rising.{risen_since}
use Rattle.lert_io.specs.Fault.{HasRisen}
use Rattle.lert_place.specs.Openings.{bays_granted, traces_granted}
use Rattle.lert_ingest.specs.{Bays.AreLater, Traces.AreTracesLater, declared.status.Status.Status}
use Rattle.lert_ingest.proofs.BayLaws.{are_same}
use Rattle.lert_top.proofs.cones.AskedLaws.{same_returned, asked_along, none_returned, none_returned_same, nothing_handed, returned_along, returned_same_along, traces_marked, traces_returned}
use Rattle.lert_top.proofs.{cones.AskedLaws.{traces_same, word_at-slice_get}, cones.ClosedLaws.{place_not_done, returned_still}}
use Rattle.lert_top.proofs.{cones.StatusLaws.{no_memory_no_place, no_memory_no_usage, no_memory_not_done, no_place_no_usage}, runs.RunLaws.run_none}
use Rattle.lert_top.specs.{cones.Asked.{IsNameRefused, traces_opened}, runs.Run.HasRun}
use Rattle.lert_top.proofs.runs.runs.run_line.Goals as goal

pub returns-in-Err : goal.returns-in-Err
returns-in-Err g c = record {
  asked =
      elim c.in-Err.ensures.refused [
        | inl none ↦ inl (ap g.P.Place.asked none.1 ∙ c.requires.asked, none.0)
        | inr name ↦ inr (inl (subst (λ xs. IsNameRefused (names_of c.args.words.now c.args.job.traces.now) xs (g.P.Place.asked c.open_traces.new.place)) c.requires.asked name.2, name.0))
      ];
  place_fault = λ is.
      elim c.in-Err.ensures.refused [
        | inl none ↦ absurd (no_memory_no_place (sym none.0 ∙ is))
        | inr name ↦ (
          name.1,
          refl,
          name.4,
          none_returned_same _ _ (c.open_traces.ensures.bays ∙ nothing_handed bays_granted (g.P.Place.asked c.args.place.now) (g.P.Place.handed_bays c.args.place.now)
              (g.met.P.Place.tied_bays c.args.place.now) (ap bays_granted c.requires.asked)),
        )
      ];
  no_usage = λ rule is.
      elim c.in-Err.ensures.refused [
        | inl none ↦ no_memory_no_usage rule (sym none.0 ∙ is)
        | inr name ↦ no_place_no_usage rule (sym name.0 ∙ is)
      ];
  returned =
      let no_traces = nothing_handed traces_granted (g.P.Place.asked c.args.place.now) (g.P.Place.handed_traces c.args.place.now)
      (g.met.P.Place.tied_traces c.args.place.now) (ap traces_granted c.requires.asked) in
      let no_bays = nothing_handed bays_granted (g.P.Place.asked c.args.place.now) (g.P.Place.handed_bays c.args.place.now)
      (g.met.P.Place.tied_bays c.args.place.now) (ap bays_granted c.requires.asked) in
      elim c.in-Err.ensures.refused [
        | inl none ↦ (
          none_returned g.P.Trace.Faulty.mark _ _ (ap g.P.Place.handed_traces none.1 ∙ no_traces),
          none_returned g.P.Bay.Faulty.mark _ _ (ap g.P.Place.handed_bays none.1 ∙ no_bays),
        )
        | inr name ↦ (name.3, none_returned g.P.Bay.Faulty.mark _ _ (c.open_traces.ensures.bays ∙ no_bays))
      ];
  ran = λ differs.
      let no_traces = nothing_handed traces_granted (g.P.Place.asked c.args.place.now) (g.P.Place.handed_traces c.args.place.now)
      (g.met.P.Place.tied_traces c.args.place.now) (ap traces_granted c.requires.asked) in
      let no_bays = nothing_handed bays_granted (g.P.Place.asked c.args.place.now) (g.P.Place.handed_bays c.args.place.now)
      (g.met.P.Place.tied_bays c.args.place.now) (ap bays_granted c.requires.asked) in
      elim c.in-Err.ensures.refused [
        | inl none ↦
            let traces = ap g.P.Place.handed_traces none.1 ∙ no_traces in
            let bays = ap g.P.Place.handed_bays none.1 ∙ no_bays in (
              [],
              [],
              record {
                traces_later = subst (λ (xs : List g.row.P-Trace.Denot). AreTracesLater g.P.Trace.Faulty.faults g.P.Trace.Faulty.mark xs []) (sym traces)
                    (traces_same g.P.Trace.Faulty.faults g.P.Trace.Faulty.mark []);
                traces_back = λ trace below. absurd (omega (arith, below));
                bays_later = subst (λ (xs : List g.row.P-Bay.Denot). AreLater g.P.Bay.Bay.files g.P.Bay.Faulty.faults g.P.Bay.Faulty.mark xs []) (sym bays)
                    (are_same g.P.Bay.Bay.files g.P.Bay.Faulty.faults g.P.Bay.Faulty.mark []);
                bays_back = λ cone below. absurd (omega (arith, below));
              },
              λ other. absurd (other none.0),
              subst (λ (st : Status). HasRun g.P.Trace.Source.remaining g.P.Trace.Faulty.faults g.K.Sink.taken g.K.Faulty.faults
                  g.P.Bay.Bay.files g.P.Bay.Faulty.faults c.args.settings.now c.args.job.workers
                  (g.P.Place.handed_traces c.open_traces.new.place) [] c.args.out.now c.args.out.now (g.P.Place.handed_bays c.open_traces.new.place) [] st) (sym none.0)
                  (run_none g.P.Trace.Source.remaining g.P.Trace.Faulty.faults g.K.Sink.taken g.K.Faulty.faults g.P.Bay.Bay.files g.P.Bay.Faulty.faults c.args.settings.now c.args.job.workers
                  (g.P.Place.handed_traces c.open_traces.new.place) [] c.args.out.now c.args.out.now (g.P.Place.handed_bays c.open_traces.new.place) [] (sym traces) refl refl),
            )
        | inr name ↦ absurd (differs name.0)
      ];
  closed = λ is.
      elim c.in-Err.ensures.refused [
        | inl none ↦ absurd (no_memory_not_done (sym none.0 ∙ is))
        | inr name ↦ absurd (place_not_done (sym name.0 ∙ is))
      ];
}

pub run_traces-opened-requires-clause-some : goal.run_traces-opened-requires-clause-some
run_traces-opened-requires-clause-some g c = λ lifetimes outlive. omega (arith, c.in-Ok.ensures.number, c.requires.some)

pub run_traces-opened-requires-clause-few : goal.run_traces-opened-requires-clause-few
run_traces-opened-requires-clause-few g c = λ lifetimes outlive. omega (arith, c.in-Ok.ensures.number, c.requires.few)

pub run_traces-opened-requires-clause-none : goal.run_traces-opened-requires-clause-none
run_traces-opened-requires-clause-none g c =
    λ lifetimes outlive. c.open_traces.ensures.bays
    ∙ nothing_handed bays_granted (g.P.Place.asked c.args.place.now) (g.P.Place.handed_bays c.args.place.now) (g.met.P.Place.tied_bays c.args.place.now) (ap bays_granted c.requires.asked)

pub put_back_traces-requires-clause-small : goal.put_back_traces-requires-clause-small
put_back_traces-requires-clause-small g c = omega (arith, c.run_traces-opened.ensures.later.number, c.in-Ok.ensures.number, c.requires.few)

pub put_back_traces-requires-clause-handed : goal.put_back_traces-requires-clause-handed
put_back_traces-requires-clause-handed g c =
    λ lifetimes outlive. c.run_traces-opened.ensures.later.number ∙ ap length (sym (c.run_traces-opened.ensures.handed ∙ c.in-Ok.ensures.opened))

pub put_back_traces-requires-clause-marked : goal.put_back_traces-requires-clause-marked
put_back_traces-requires-clause-marked g c = λ lifetimes outlive trace now is.
    traces_marked g.P.Trace.Faulty.faults g.P.Trace.Faulty.mark c.in-Ok.opened.items c.run_traces-opened.result.0.items c.run_traces-opened.ensures.later c.in-Ok.ensures.marked trace now is

pub returns : goal.returns
returns g c = record {
  asked =
      let names = names_of c.args.words.now c.args.job.traces.now in
      let before = c.in-Ok.ensures.asked ∙ ap (λ xs. xs ++ traces_opened names) c.requires.asked in
      inr (inr (asked_along _ _ _ _ (traces_opened names) _ _ c.run_traces-opened.result.1 (word_at-slice_get c.args.words.now c.args.job.dir c.word-dir.result.now c.word-dir.ensures) before
      (sym c.put_back_traces.ensures.asked) c.run_traces-opened.ensures.asked));
  place_fault = λ is.
      let failed = c.run_traces-opened.ensures.place_fault is in
      let rose = risen_since (g.P.Faulty.faults c.args.place.now) (g.P.Faulty.faults c.open_traces.new.place) (g.P.Faulty.faults c.run_traces-opened.new.place) c.open_traces.ensures.never_falls
      c.run_traces-opened.ensures.never_falls failed.0 in
      let handed = c.put_back_traces.ensures.traces ∙ (c.run_traces-opened.ensures.handed ∙ c.in-Ok.ensures.opened) in (
        subst (HasRisen (g.P.Faulty.faults c.args.place.now)) (sym c.put_back_traces.ensures.faults) rose,
        failed.1,
        same_returned c.run_traces-opened.result.0.items _ _ (handed ∙ sym failed.2) c.put_back_traces.ensures.returned,
        returned_same_along _ _ _ _ c.put_back_traces.ensures.bays c.put_back_traces.ensures.returned_bays failed.3,
      );
  no_usage = c.run_traces-opened.ensures.no_usage;
  returned =
      let handed = c.put_back_traces.ensures.traces ∙ (c.run_traces-opened.ensures.handed ∙ c.in-Ok.ensures.opened) in (
        traces_returned g.P.Trace.Faulty.faults g.P.Trace.Faulty.mark c.in-Ok.opened.items c.run_traces-opened.result.0.items _ _ handed c.run_traces-opened.ensures.later c.in-Ok.ensures.marked
            c.put_back_traces.ensures.returned,
        returned_along g.P.Bay.Faulty.mark _ _ _ _ c.put_back_traces.ensures.bays c.put_back_traces.ensures.returned_bays c.run_traces-opened.ensures.returned,
      );
  ran = λ differs.
      let ran = c.run_traces-opened.ensures.ran differs in
      let back = c.run_traces-opened.result.0.items in
      let handed = c.put_back_traces.ensures.traces ∙ (c.run_traces-opened.ensures.handed ∙ c.in-Ok.ensures.opened) in
      let bays = c.put_back_traces.ensures.bays in (
        back,
        ran.0,
        record {
          traces_later = subst (λ (xs : List g.row.P-Trace.Denot). AreTracesLater g.P.Trace.Faulty.faults g.P.Trace.Faulty.mark xs back) (sym handed) c.run_traces-opened.ensures.later;
          traces_back = c.put_back_traces.ensures.returned;
          bays_later = subst (λ (xs : List g.row.P-Bay.Denot). AreLater g.P.Bay.Bay.files g.P.Bay.Faulty.faults g.P.Bay.Faulty.mark xs ran.0) (sym bays) ran.2;
          bays_back = λ cone below. c.put_back_traces.ensures.returned_bays cone ∙ ran.1 cone below;
        },
        λ other. ap length handed ∙ c.in-Ok.ensures.number,
        subst (λ (xs : List g.row.P-Trace.Denot). HasRun g.P.Trace.Source.remaining g.P.Trace.Faulty.faults g.K.Sink.taken g.K.Faulty.faults
            g.P.Bay.Bay.files g.P.Bay.Faulty.faults c.args.settings.now c.args.job.workers
            xs back c.args.out.now c.run_traces-opened.new.out (g.P.Place.handed_bays c.put_back_traces.new.place) ran.0 c.run_traces-opened.result.1) (sym handed)
            (subst (λ (xs : List g.row.P-Bay.Denot). HasRun g.P.Trace.Source.remaining g.P.Trace.Faulty.faults g.K.Sink.taken g.K.Faulty.faults
            g.P.Bay.Bay.files g.P.Bay.Faulty.faults c.args.settings.now c.args.job.workers
            c.in-Ok.opened.items back c.args.out.now c.run_traces-opened.new.out xs ran.0 c.run_traces-opened.result.1) (sym bays) ran.3),
      );
  closed = λ is.
      returned_still g.P.Bay.Bay.files g.P.Bay.Bay.leaves c.args.settings.now (g.P.Place.returned_bay c.run_traces-opened.new.place)
      (g.P.Place.returned_bay c.put_back_traces.new.place) c.put_back_traces.ensures.returned_bays (c.run_traces-opened.ensures.closed is);
}
