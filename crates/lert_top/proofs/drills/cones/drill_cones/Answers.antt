use Rattle.std.proofs.{Common.{◌≡◌, ℕ, ◌≤◌, List, Option, length, refl, ap, sym, ◌∙◌, subst, arith}, lemmas.List.length-map}
use Rattle.lert_cone.specs.Stands.{Standing}
use Rattle.lert_top.proofs.{cones.StatusLaws.{err_at, ok_at}, drills.DealtLaws.dealt_items, drills.DrillLaws.stopped_shows}
use Rattle.lert_top.specs.{drills.Dealt.AreDealt, drills.Drilled.{DrillShows, drill_memory}}
use Rattle.lert_ingest.specs.{Bays.bays_of, Stops.AreWeaving}
use Rattle.lert_ingest.proofs.BayLaws.{told_later}
use Rattle.lert_top.proofs.drills.cones.drill_cones.Goals as goal

-- keys are dealt to four sources
four_sources : {S : Type 0} (remaining : S → Option (List ℕ)) (seed events : ℕ) (sources : List S) → AreDealt remaining seed events sources → length sources ≡ 4
four_sources remaining seed events sources are = sym (length-map sources remaining) ∙ ap (λ (texts : List (Option (List ℕ))). length texts) are

four_some : (number : ℕ) → number ≡ 4 → 1 ≤ number
four_some number is = omega (arith, is)

four_few : (number : ℕ) → number ≡ 4 → number ≤ 1024
four_few number is = omega (arith, is)

-- the same cones came back
cones_number : {B : Type 0} (old new : List (Standing B)) → length (bays_of new) ≡ length (bays_of old) → length new ≡ length old
cones_number {B} old new is = sym (length-map new (λ (cone : Standing B). cone.bay)) ∙ (is ∙ length-map old (λ (cone : Standing B). cone.bay))

pub returns-in_default : goal.returns-in_default
returns-in_default g c = record { number = refl; shows = λ seed events are. drill_memory refl }

pub ingest-sources-requires-clause-least : goal.ingest-sources-requires-clause-least
ingest-sources-requires-clause-least g c = λ lifetimes outlive. c.requires.least

pub ingest-sources-requires-clause-most : goal.ingest-sources-requires-clause-most
ingest-sources-requires-clause-most g c = λ lifetimes outlive. c.requires.most

pub ingest-sources-requires-clause-some : goal.ingest-sources-requires-clause-some
ingest-sources-requires-clause-some g c = λ lifetimes outlive. four_some (length c.args.sources.items)
    (four_sources g.S.Source.remaining c.requires.dealt.0 c.requires.dealt.1.0 c.args.sources.items c.requires.dealt.1.1)

pub ingest-sources-requires-clause-few : goal.ingest-sources-requires-clause-few
ingest-sources-requires-clause-few g c = λ lifetimes outlive. four_few (length c.args.sources.items)
    (four_sources g.S.Source.remaining c.requires.dealt.0 c.requires.dealt.1.0 c.args.sources.items c.requires.dealt.1.1)

pub ingest-sources-requires-clause-number : goal.ingest-sources-requires-clause-number
ingest-sources-requires-clause-number g c = λ lifetimes outlive. c.requires.number

pub ingest-sources-requires-clause-new_cones : goal.ingest-sources-requires-clause-new_cones
ingest-sources-requires-clause-new_cones g c = λ lifetimes outlive. c.requires.new_cones

pub returns-in-Err-clause-number : goal.returns-in-Err-clause-number
returns-in-Err-clause-number g c = cones_number c.args.cones.items c.ingest-sources.result.1.items c.ingest-sources.ensures.later.number

pub finish_and_print-status-requires : goal.finish_and_print-status-requires
finish_and_print-status-requires g c = record {
  empty = c.in-Ok.ensures;
  number = cones_number c.args.cones.items c.ingest-sources.result.1.items c.ingest-sources.ensures.later.number ∙ c.requires.number;
  told = told_later g.B.Bay.files g.B.Faulty.faults g.B.Faulty.mark (bays_of c.args.cones.items) (bays_of c.ingest-sources.result.1.items) c.ingest-sources.ensures.later c.requires.told;
  weaving =
      let read = ok_at c.ingest-sources.result.2 _ c.in_default-read.is c.ingest-sources.ensures.read in
      (c.args.workers, (read.traces, read.weaving));
}

pub returns : goal.returns
returns g c = record {
  number = c.finish_and_print-status.ensures.number ∙ cones_number c.args.cones.items c.ingest-sources.result.1.items c.ingest-sources.ensures.later.number;
  shows = λ seed events are.
      let read = ok_at c.ingest-sources.result.2 _ c.in_default-read.is c.ingest-sources.ensures.read in
      c.finish_and_print-status.ensures.shows c.args.workers seed events
      (subst (λ traces. AreWeaving g.B.Bay.files g.B.Bay.leaves g.B.Faulty.faults c.args.settings.now c.args.workers traces c.ingest-sources.result.1.items)
      (dealt_items seed events g.S.Source.remaining c.args.sources.items read.traces are read.items) read.weaving);
}

pub returns-in-Err-clause-shows : goal.returns-in-Err-clause-shows
returns-in-Err-clause-shows g c = λ seed events are.
    subst (DrillShows g.K.Sink.taken g.K.Faulty.faults c.args.settings.now seed events c.args.out.now c.args.out.now) (sym c.status_of-status.ensures)
    (stopped_shows g.S.Source.remaining g.S.Faulty.faults g.K.Sink.taken g.K.Faulty.faults g.B.Bay.files g.B.Faulty.faults
    c.args.settings.now c.args.workers seed events c.args.sources.items c.ingest-sources.result.0.items c.args.out.now (bays_of c.args.cones.items)
    (bays_of c.ingest-sources.result.1.items) are c.in-Err.stopped (err_at c.ingest-sources.result.2 c.in-Err.stopped _ c.in-Err.is c.ingest-sources.ensures.stopped))
