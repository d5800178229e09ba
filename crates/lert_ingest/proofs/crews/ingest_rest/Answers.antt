use denote.Exit.{no}
use denote.Param.Send.{arg_send, param_send}
use Rattle.lert_cone.proofs.ConeSend.{cone_send}
use Rattle.std.proofs.{Common.{◌≡◌, ◌∙◌, List, length, ap, refl, sym, subst, arith}, lemmas.Bool.false≢true}
use Rattle.lert_cone.specs.{Locked.is_stopped, Stands.Standing}
use Rattle.lert_ingest.specs.Back.{AreSeen}
use Rattle.lert_ingest.proofs.{Finishing.{as_many_back, of_answer, opened_same}, Starting.{all_fit_new, all_opened, few_cones}}
use Rattle.lert_ingest.proofs.crews.ingest_rest.Given as given
use Rattle.lert_ingest.proofs.crews.ingest_rest.Goals as goal
use Rattle.lert_ingest.proofs.crews.ingest_rest.Goals.{After-run_crew-readers}

pub first_of_cones-requires : goal.first_of_cones-requires
first_of_cones-requires g c =
    let shown = ap (λ (xs : List (Standing _)). length xs) c.deref.ensures.value in
    let most = few_cones c.args.settings.now c.args.cones.items c.requires.number c.requires.held.1 in
    omega (arith, shown, most)

pub run_crew-readers-requires-send-H : goal.run_crew-readers-requires-send-H
run_crew-readers-requires-send-H g c κs within =
    param_send _ _ (arg_send _ no _ (cone_send _ _ _ g.B.Bay g.B.Faulty g.T.CountTable c.type_bounds.send-B c.type_bounds.send-T c.type_bounds.send-T-Cursor))

pub run_crew-readers-requires-clause-opened : goal.run_crew-readers-requires-clause-opened
run_crew-readers-requires-clause-opened g c κs within =
    all_opened g.B.Bay.files g.B.Bay.leaves g.B.Faulty.faults c.args.settings.now c.requires.held.0 c.args.cones.items c.requires.held.1

pub run_crew-readers-requires-clause-fits : goal.run_crew-readers-requires-clause-fits
run_crew-readers-requires-clause-fits g c κs within =
    all_fit_new g.B.Bay.files g.B.Bay.leaves g.B.Faulty.faults c.args.settings.now c.requires.held.0 c.args.cones.items c.requires.held.1 g.B.Faulty.mark _ (record {
      terms_are = λ _. refl;
      stands = λ _ _ stands. stands;
      stood = λ _ _ stands. stands;
      stopped_is = λ cone stopped running. false≢true (sym (ap is_stopped running) ∙ stopped);
      over_is = λ _. refl;
      refuses = λ _ _ _ _ why. why;
    }) (λ terms packet journaled. journaled)

-- as many cones come back as there were
counted : (g : given.Over) (c : After-run_crew-readers g) → length c.run_crew-readers.result.states.items ≡ length c.args.cones.items
counted g c = as_many_back g.S.Source.remaining g.S.Faulty.faults g.S.Faulty.mark g.B.Bay.files g.B.Bay.leaves g.B.Faulty.faults g.B.Faulty.mark _ (record {
  terms_are = λ _. refl;
  stands = λ _ _ stands. stands;
  stood = λ _ _ stands. stands;
  stopped_is = λ cone stopped running. false≢true (sym (ap is_stopped running) ∙ stopped);
  over_is = λ _. refl;
  refuses = λ _ _ _ _ why. why;
}) c.args.settings.now c.requires.held.0 c.args.readers.items c.requires.readable c.args.cones.items c.requires.number c.requires.held.1 (λ es. es.items)
    c.run_crew-readers.result.readers.items c.run_crew-readers.result.states.items c.run_crew-readers.result.ends
    c.run_crew-readers.ensures.ran c.run_crew-readers.ensures.states_back

pub answer-answer-requires : goal.answer-answer-requires
answer-answer-requires g c =
    let shown = ap (λ (xs : List (Standing _)). length xs) c.deref-2.ensures.value in
    let back = counted g (goal.at.answer-answer-requires g c).After-run_crew-readers in
    let most = few_cones c.args.settings.now c.args.cones.items c.requires.number c.requires.held.1 in
    omega (arith, shown, back, most)

pub returns-clause-opened : goal.returns-clause-opened
returns-clause-opened g c = opened_same g.S.Source.remaining g.S.Faulty.faults g.S.Faulty.mark g.B.Bay.files g.B.Bay.leaves g.B.Faulty.faults g.B.Faulty.mark _ (record {
  terms_are = λ _. refl;
  stands = λ _ _ stands. stands;
  stood = λ _ _ stands. stands;
  stopped_is = λ cone stopped running. false≢true (sym (ap is_stopped running) ∙ stopped);
  over_is = λ _. refl;
  refuses = λ _ _ _ _ why. why;
}) c.args.settings.now c.requires.held.0 c.args.readers.items c.requires.readable c.args.cones.items c.requires.number c.requires.held.1 (λ es. es.items)
    c.run_crew-readers.result.readers.items c.run_crew-readers.result.states.items c.run_crew-readers.result.ends c.args.workers
    c.requires.least c.requires.some c.run_crew-readers.ensures.busy c.run_crew-readers.ensures.ran c.run_crew-readers.ensures.readers_back

pub returns-clause-ingested : goal.returns-clause-ingested
returns-clause-ingested g c = λ before held. of_answer g.S.Source.remaining g.S.Faulty.faults g.S.Faulty.mark g.B.Bay.files g.B.Bay.leaves g.B.Faulty.faults g.B.Faulty.mark _ (record {
  terms_are = λ _. refl;
  stands = λ _ _ stands. stands;
  stood = λ _ _ stands. stands;
  stopped_is = λ cone stopped running. false≢true (sym (ap is_stopped running) ∙ stopped);
  over_is = λ _. refl;
  refuses = λ _ _ _ _ why. why;
}) c.args.settings.now before c.args.readers.items c.requires.readable c.args.cones.items c.requires.number held (λ es. es.items)
    c.run_crew-readers.result.readers.items c.run_crew-readers.result.states.items c.run_crew-readers.result.ends c.args.workers
    c.requires.least c.requires.some c.run_crew-readers.ensures.busy c.run_crew-readers.ensures.ran c.run_crew-readers.ensures.readers_back c.run_crew-readers.ensures.states_back
    (subst (AreSeen g.B.Bay.files g.B.Faulty.faults g.B.Faulty.mark) c.deref.ensures.value c.first_of_cones.ensures.seen)
    c.deref-2.result.now c.deref-2.ensures.value c.answer-answer.result c.answer-answer.ensures.judged c.answer-answer.ensures.seen c.answer-answer.ensures.none_began
