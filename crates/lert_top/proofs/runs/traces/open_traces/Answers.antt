use Rattle.std.proofs.Common.{◌≡◌, ◌+◌, ◌++◌, ◌∷◌, [], true, false, length, get_or, take, slice_get, refl, inl, inr, ap, sym, ◌∙◌, subst, arith, rules, append_assoc, length-append}
use Rattle.lert_args.specs.{Names.names_of, Word.word_at}
use Rattle.lert_io.proofs.Rising.{risen_since}
use Rattle.lert_io.specs.Fault.{HasRisen}
use Rattle.lert_place.specs.Openings.{trace_asked}
use Rattle.lert_top.proofs.{cones.AskedLaws.{all_returned, same_returned, name_there, names_before, opened_more, word_at-slice_get}, cones.ConeLaws.each-push}
use Rattle.lert_top.specs.cones.Asked.{traces_opened}
use Rattle.lert_top.proofs.runs.traces.open_traces.Goals as goal

pub returns-in-Err-clause-refused : goal.returns-in-Err-clause-refused
returns-in-Err-clause-refused g c =
    let here = c.loop-number.invariant in
    let rose = risen_since (g.P.Faulty.faults c.args.place.now) (g.P.Faulty.faults c.loop-number.place) (g.P.Faulty.faults c.open_trace.new.self) here.falls
    c.open_trace.ensures.cause.never_falls (c.open_trace.ensures.cause.failed (search rules)) in
    let index = c.loop-number.number-index in
    let words = c.args.words.now in
    let places = c.args.traces.now in
    let at = get_or places index 0 in
    let name = word_at-slice_get words at c.word.result.now c.word.ensures in
    let handed = c.put_back_traces.ensures.traces ∙ (c.in-Err.ensures.refused ∙ here.opened) in
    inr (
      refl,
      subst (HasRisen (g.P.Faulty.faults c.args.place.now)) (sym c.put_back_traces.ensures.faults) rose,
      record {
        number = index;
        name = word_at words at;
        named = name_there words places index c.loop-number-test.true;
        asked_is =
            c.put_back_traces.ensures.asked
            ∙ (c.in-Err.ensures.asked
            ∙ (ap (λ n. g.P.Place.asked c.loop-number.place ++ trace_asked n false ∷ []) name
            ∙ (ap (λ xs. xs ++ trace_asked (word_at words at) false ∷ []) here.asked
            ∙ (append_assoc (g.P.Place.asked c.args.place.now) (traces_opened (names_of words (take index places))) (trace_asked (word_at words at) false ∷ [])
            ∙ ap (λ names. g.P.Place.asked c.args.place.now ++ (traces_opened names ++ trace_asked (word_at words at) false ∷ [])) (sym (names_before words places index))))));
      },
      all_returned g.P.Trace.Faulty.mark c.loop-number.opened.items (g.P.Place.handed_traces c.put_back_traces.new.place) (g.P.Place.returned_trace c.put_back_traces.new.place)
          handed c.put_back_traces.ensures.returned here.marked,
      same_returned c.loop-number.opened.items (g.P.Place.handed_traces c.put_back_traces.new.place) (g.P.Place.returned_trace c.put_back_traces.new.place)
          handed c.put_back_traces.ensures.returned,
    )

pub loop-number-preserved : goal.loop-number-preserved
loop-number-preserved g c =
    let here = c.loop-number.invariant in
    let index = c.loop-number.number-index in
    let words = c.args.words.now in
    let places = c.args.traces.now in
    let at = get_or places index 0 in
    let trace = c.in-Ok-open_trace.trace in
    let name = word_at-slice_get words at c.word.result.now c.word.ensures in
    let items = c.push_back_reserved.ensures.items in
    record {
      opened = c.in-Ok-open_trace.ensures.handed ∙ (ap (λ xs. xs ++ trace ∷ []) here.opened ∙ sym items);
      number = ap length items ∙ (length-append c.loop-number.opened.items (trace ∷ []) ∙ ap (λ n. n + 1) here.number);
      room = omega (arith, here.room, c.push_back_reserved.ensures.capacity);
      marked = λ place found is.
          each-push (λ k t. g.P.Trace.Faulty.mark t ≡ k) c.loop-number.opened.items trace here.marked (c.in-Ok-open_trace.ensures.number ∙ ap length here.opened)
          place found (ap (λ xs. slice_get xs place) (sym items) ∙ is);
      asked =
          c.in-Ok-open_trace.ensures.asked
          ∙ (ap (λ n. g.P.Place.asked c.loop-number.place ++ trace_asked n true ∷ []) name
          ∙ (ap (λ xs. xs ++ trace_asked (word_at words at) true ∷ []) here.asked
          ∙ (append_assoc (g.P.Place.asked c.args.place.now) (traces_opened (names_of words (take index places))) (trace_asked (word_at words at) true ∷ [])
          ∙ ap (λ xs. g.P.Place.asked c.args.place.now ++ xs) (sym (opened_more words places index c.loop-number-test.true)))));
      bays = c.open_trace.ensures.bays ∙ here.bays;
      falls = omega (arith, here.falls, c.open_trace.ensures.cause.never_falls);
    }

pub returns-in_default : goal.returns-in_default
returns-in_default g c = record { opened = tt; number = tt; marked = tt; asked = tt; refused = inl (refl, refl); never_falls = omega arith; bays = refl }

pub returns-in-Err-clause-bays : goal.returns-in-Err-clause-bays
returns-in-Err-clause-bays g c = c.put_back_traces.ensures.bays ∙ (c.open_trace.ensures.bays ∙ c.loop-number.invariant.bays)

pub returns-in-Err-clause-never_falls : goal.returns-in-Err-clause-never_falls
returns-in-Err-clause-never_falls g c = omega (arith, c.loop-number.invariant.falls, c.open_trace.ensures.cause.never_falls, c.put_back_traces.ensures.faults)

pub returns-clause-opened : goal.returns-clause-opened
returns-clause-opened g c = c.loop-number.invariant.opened

pub returns-clause-marked : goal.returns-clause-marked
returns-clause-marked g c = c.loop-number.invariant.marked

pub returns-clause-bays : goal.returns-clause-bays
returns-clause-bays g c = c.loop-number.invariant.bays

pub returns-clause-never_falls : goal.returns-clause-never_falls
returns-clause-never_falls g c = c.loop-number.invariant.falls

pub returns-clause-number : goal.returns-clause-number
returns-clause-number g c = omega (arith, c.loop-number.invariant.number, c.loop-number-test.false, c.loop-number.auto.number-index-end)

pub put_back_traces-requires-clause-handed : goal.put_back_traces-requires-clause-handed
put_back_traces-requires-clause-handed g c = λ lifetimes outlive. ap length (sym (c.in-Err.ensures.refused ∙ c.loop-number.invariant.opened))

pub put_back_traces-requires-clause-marked : goal.put_back_traces-requires-clause-marked
put_back_traces-requires-clause-marked g c = λ lifetimes outlive trace bay is. c.loop-number.invariant.marked trace bay is

pub put_back_traces-requires-clause-small : goal.put_back_traces-requires-clause-small
put_back_traces-requires-clause-small g c = omega (arith, c.loop-number.invariant.number, c.loop-number-test.true, c.requires.few)
