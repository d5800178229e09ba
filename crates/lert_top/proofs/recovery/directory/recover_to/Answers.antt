use Rattle.std.proofs.{lemmas.Option.slice_get_within, Common.{[], List, length, refl, ap, sym, ◌∙◌, subst, arith, inl, inr, append-nil}}
use Rattle.lert_ingest.specs.{declared.status.Status.Status, declared.status.Status.TheVariants.OutOfMemory, Bays.AreLater}
use Rattle.lert_top.specs.{recovery.Recovered.{HasRecovered, unopened, unopened_memory}, recovery.Moments.AreSpared}
use Rattle.lert_top.proofs.{cones.AskedLaws.{all_back, none_returned, nothing_handed}, cones.StatusLaws.{no_memory_no_place, no_memory_no_usage, no_memory_not_done, no_place_no_usage}}
use Rattle.lert_top.proofs.{recovery.JournalLaws.journals_same, recovery.SoundLaws.sound_same, recovery.RecoverEnding.{has_recovered, recovery_not_place_fault, recovery_not_usage}}
use Rattle.lert_top.proofs.recovery.MomentLaws.{returned_sound}
use Rattle.lert_ingest.proofs.BayLaws.{are_same, still_marked}
use Rattle.lert_place.specs.Openings.{bays_granted}
use Rattle.lert_bay.specs.Kept.{Bays, seen_by}
use Rattle.lert_top.proofs.recovery.directory.recover_to.Given as given
use Rattle.lert_top.proofs.recovery.directory.recover_to.Goals as goal

abbrev bays_in : (g : given.Over) → Bays g.row.P-Bay.Denot
bays_in g = seen_by g.P.Bay.Faulty g.P.Bay.Bay

pub returns-in-Err : goal.returns-in-Err
returns-in-Err g c = record {
  asked =
      elim c.in-Err.ensures.refused [
        | inl none ↦ inr (record {
          number = 0;
          within = omega arith;
          asked_is = ap g.P.Place.asked none.1 ∙ sym (append-nil (g.P.Place.asked c.args.place.now));
          no_fault = λ is. no_memory_no_place (sym none.0 ∙ is);
          all = λ is. absurd (no_memory_not_done (sym none.0 ∙ is));
        })
        | inr bay ↦ inl (record { number = bay.2.0; named = omega (arith, bay.2.1, c.cones.ensures); asked_is = bay.2.2; status_is = bay.0 })
      ];
  place_fault = λ is.
      elim c.in-Err.ensures.refused [
        | inl none ↦ absurd (no_memory_no_place (sym none.0 ∙ is))
        | inr bay ↦ (bay.1, refl, bay.4)
      ];
  returned =
      elim c.in-Err.ensures.refused [
        | inl none ↦ none_returned g.P.Bay.Faulty.mark _ _ (ap g.P.Place.handed_bays none.1
            ∙ nothing_handed bays_granted (g.P.Place.asked c.args.place.now) (g.P.Place.handed_bays c.args.place.now) (g.met.P.Place.tied_bays c.args.place.now) c.requires.no_bay)
        | inr bay ↦ bay.3
      ];
  recovered = λ differs.
      elim c.in-Err.ensures.refused [
        | inl none ↦
            let same = ap g.P.Place.handed_bays none.1 ∙ nothing_handed bays_granted (g.P.Place.asked c.args.place.now) (g.P.Place.handed_bays c.args.place.now)
            (g.met.P.Place.tied_bays c.args.place.now) c.requires.no_bay in
            let out = c.args.out.now in
            let s = c.args.settings.now in (
              [],
              λ cone below. absurd (omega (arith, below)),
              subst (λ (xs : List g.row.P-Bay.Denot). AreLater g.P.Bay.Bay.files g.P.Bay.Faulty.faults g.P.Bay.Faulty.mark xs []) (sym same)
                  (are_same g.P.Bay.Bay.files g.P.Bay.Faulty.faults g.P.Bay.Faulty.mark []),
              subst (λ (xs : List g.row.P-Bay.Denot). HasRecovered g.K.Sink.taken g.K.Faulty.faults g.P.Bay.Bay.files g.P.Bay.Faulty.faults s out out xs
                  [] c.in-Err.status) (sym same) (subst (λ (st : Status). HasRecovered g.K.Sink.taken g.K.Faulty.faults g.P.Bay.Bay.files g.P.Bay.Faulty.faults s out out [] [] st)
                  (sym none.0) (has_recovered g.K.Sink.taken g.K.Faulty.faults g.P.Bay.Bay.files g.P.Bay.Faulty.faults s
                  out out [] [] OutOfMemory (unopened (unopened_memory refl) refl) (λ other. absurd (other refl)) (journals_same g.P.Bay.Bay.files []) (sound_same g.P.Bay.Bay.files s []))),
            )
        | inr bay ↦ absurd (differs bay.0)
      ];
  each_moment = λ differs.
      elim c.in-Err.ensures.refused [
        | inl none ↦
            let same = ap g.P.Place.handed_bays none.1 ∙ nothing_handed bays_granted (g.P.Place.asked c.args.place.now) (g.P.Place.handed_bays c.args.place.now)
            (g.met.P.Place.tied_bays c.args.place.now) c.requires.no_bay in
            λ cone before now was is. absurd (omega (arith, slice_get_within _ cone before was, ap length same))
        | inr bay ↦ absurd (differs bay.0)
      ];
  no_usage = λ rule is.
      elim c.in-Err.ensures.refused [
        | inl none ↦ no_memory_no_usage rule (sym none.0 ∙ is)
        | inr bay ↦ no_place_no_usage rule (sym bay.0 ∙ is)
      ];
  traces = c.open_bays.ensures.traces;
}

pub returns : goal.returns
returns g c = record {
  asked =
      let shows = c.recover_bays-status.ensures.shows in
      inr (record {
        number = c.cones.result;
        within = omega (arith, c.cones.ensures);
        asked_is = c.put_back_bays.ensures.asked ∙ c.in-Ok.ensures.asked;
        no_fault = recovery_not_place_fault g.K.Sink.taken g.K.Faulty.faults g.P.Bay.Bay.files g.P.Bay.Faulty.faults c.args.settings.now c.args.out.now
            c.recover_bays-status.new.out c.in-Ok.bays.items c.recover_bays-status.new.bays.items c.recover_bays-status.result shows;
        all = λ is. c.cones.ensures;
      });
  place_fault = λ is.
      absurd (recovery_not_place_fault g.K.Sink.taken g.K.Faulty.faults g.P.Bay.Bay.files g.P.Bay.Faulty.faults c.args.settings.now c.args.out.now
      c.recover_bays-status.new.out c.in-Ok.bays.items c.recover_bays-status.new.bays.items c.recover_bays-status.result c.recover_bays-status.ensures.shows is);
  returned =
      all_back g.P.Bay.Bay.files g.P.Bay.Faulty.faults g.P.Bay.Faulty.mark c.in-Ok.bays.items c.recover_bays-status.new.bays.items _ _ (c.put_back_bays.ensures.bays ∙ c.in-Ok.ensures.opened)
      c.recover_bays-status.ensures.reread.later c.in-Ok.ensures.marked c.put_back_bays.ensures.returned;
  recovered = λ differs.
      let same = c.put_back_bays.ensures.bays ∙ c.in-Ok.ensures.opened in
      let first = c.in-Ok.bays.items in
      let now = c.recover_bays-status.new.bays.items in
      let s = c.args.settings.now in
      let status = c.recover_bays-status.result in (
        now,
        c.put_back_bays.ensures.returned,
        subst (λ (xs : List g.row.P-Bay.Denot). AreLater g.P.Bay.Bay.files g.P.Bay.Faulty.faults g.P.Bay.Faulty.mark xs now) (sym same) c.recover_bays-status.ensures.reread.later,
        subst (λ (xs : List g.row.P-Bay.Denot). HasRecovered g.K.Sink.taken g.K.Faulty.faults g.P.Bay.Bay.files g.P.Bay.Faulty.faults s c.args.out.now
            c.recover_bays-status.new.out xs now status) (sym same)
            (has_recovered g.K.Sink.taken g.K.Faulty.faults g.P.Bay.Bay.files g.P.Bay.Faulty.faults s c.args.out.now c.recover_bays-status.new.out first
            now status c.recover_bays-status.ensures.shows
            (λ other. c.in-Ok.ensures.number ∙ c.cones.ensures) c.recover_bays-status.ensures.reread.journals c.recover_bays-status.ensures.reread.stays_sound),
      );
  each_moment = λ differs.
      let same = c.put_back_bays.ensures.bays ∙ c.in-Ok.ensures.opened in
      let first = c.in-Ok.bays.items in
      let now = c.recover_bays-status.new.bays.items in
      returned_sound (bays_in g) c.args.settings.now (g.P.Place.handed_bays c.put_back_bays.new.place) now (g.P.Place.returned_bay c.put_back_bays.new.place)
      (c.recover_bays-status.ensures.reread.later.number ∙ ap length (sym same)) c.put_back_bays.ensures.returned
      (subst (λ (xs : List g.row.P-Bay.Denot). AreSpared (bays_in g) c.args.settings.now xs now) (sym same) c.recover_bays-status.ensures.reread.each_moment);
  no_usage = λ rule is.
      recovery_not_usage g.K.Sink.taken g.K.Faulty.faults g.P.Bay.Bay.files g.P.Bay.Faulty.faults c.args.settings.now c.args.out.now
      c.recover_bays-status.new.out c.in-Ok.bays.items c.recover_bays-status.new.bays.items rule c.recover_bays-status.result c.recover_bays-status.ensures.shows is;
  traces = c.put_back_bays.ensures.traces ∙ c.open_bays.ensures.traces;
}

pub put_back_bays-requires-clause-marked : goal.put_back_bays-requires-clause-marked
put_back_bays-requires-clause-marked g c = λ lifetimes outlive cone bay is.
    still_marked g.P.Bay.Bay.files g.P.Bay.Faulty.faults g.P.Bay.Faulty.mark c.in-Ok.bays.items c.recover_bays-status.new.bays.items c.recover_bays-status.ensures.reread.later
    c.in-Ok.ensures.marked cone bay is

pub recover_bays-status-requires : goal.recover_bays-status-requires
recover_bays-status-requires g c = record { number = c.in-Ok.ensures.number ∙ c.cones.ensures; room = omega (arith, c.in-Ok.ensures.number, c.in-Ok.ensures.room) }

pub put_back_bays-requires-clause-handed : goal.put_back_bays-requires-clause-handed
put_back_bays-requires-clause-handed g c = λ lifetimes outlive. c.recover_bays-status.ensures.reread.later.number ∙ ap length (sym c.in-Ok.ensures.opened)

pub open_bays-requires-clause-none : goal.open_bays-requires-clause-none
open_bays-requires-clause-none g c = λ lifetimes outlive.
    nothing_handed bays_granted (g.P.Place.asked c.args.place.now) (g.P.Place.handed_bays c.args.place.now) (g.met.P.Place.tied_bays c.args.place.now) c.requires.no_bay
