use Rattle.std.proofs.{Common.{◌≡◌, ◌≢◌, ◌⊎◌, ◌^◌, ◌<◌, ◌≤◌, List, [], ℕ, Some, false, length, refl, sym, ap, ◌∙◌, inl, inr, subst, arith}, Math.Dec.eqb}
use Rattle.lert_args.specs.{Command.{command, usage}, Names.names_of, declared.line.Line.Line, declared.line.Line.TheVariants.{Run, Recover, Gen, Drill}, Word.word_at}
use Rattle.lert_args.proofs.SoundLines.{AreBelow, along_drill, along_gen, along_recover, along_run, command_number, drill_keeps, gen_keeps, recover_placed, run_keeps, run_placed, word_at-slice_get}
use Rattle.lert_top.specs.{drills.Drilled.{DrillShows, drill_memory}, cones.Asked.{IsAsked, IsAskedForBays}, cones.Closed.AreReturnedClosed, runs.Ran.HasPutBack, runs.Run.HasRun}
use Rattle.lert_top.specs.{recovery.Recovered.HasRecovered, Generated.TraceShows, recovery.Moments.AreReturnedSpared}
use Rattle.lert_ingest.specs.{declared.status.Status.TheVariants.{Done, OutOfMemory, PlaceFault, Usage}, Bays.AreLater}
use Rattle.lert_top.proofs.{cones.AskedLaws.nothing_handed, cones.StatusLaws.{no_memory_no_place, no_memory_no_usage, no_memory_not_done, some_is}, runs.RunLaws.run_none}
use Rattle.lert_top.proofs.{NoLine.{below_none, later_none, put_back_none, recovered_none, rule_is, sound_none, usage_not_place}, OtherLines.{none_back, none_back_same, of_another, of_no_rule}}
use Rattle.lert_spec.specs.declared.numbers.Numbers.{Numbers}
use Rattle.std.specs.Prelude.{slice_get}
use Rattle.lert_bay.specs.Kept.{Bays, seen_by}
use Rattle.lert_place.specs.Openings.{AreReturned, bays_granted, traces_granted}
use Rattle.lert_top.proofs.top.run.Given as given
use Rattle.lert_top.proofs.top.run.Goals.{In-Err-Usage}
use Rattle.lert_top.proofs.top.run.Goals as goal

abbrev bays_in : (g : given.Over) → Bays g.row.P-Bay.Denot
bays_in g = seen_by g.P.Bay.Faulty g.P.Bay.Bay

-- a place that was asked for nothing handed nothing out
no_trace : (g : given.Over) (place : g.row.P.Denot) → g.P.Place.asked place ≡ [] → g.P.Place.handed_traces place ≡ []
no_trace g place none = nothing_handed traces_granted (g.P.Place.asked place) (g.P.Place.handed_traces place) (g.met.P.Place.tied_traces place) (ap traces_granted none)

no_bay : (g : given.Over) (place : g.row.P.Denot) → g.P.Place.asked place ≡ [] → g.P.Place.handed_bays place ≡ []
no_bay g place none = nothing_handed bays_granted (g.P.Place.asked place) (g.P.Place.handed_bays place) (g.met.P.Place.tied_bays place) (ap bays_granted none)

all_back : (g : given.Over) (place : g.row.P.Denot) → g.P.Place.asked place ≡ [] →
    AreReturned g.P.Trace.Faulty.mark (g.P.Place.handed_traces place) (g.P.Place.returned_trace place)
    × AreReturned g.P.Bay.Faulty.mark (g.P.Place.handed_bays place) (g.P.Place.returned_bay place)
all_back g place none = (
  none_back (g.P.Place.handed_traces place) (no_trace g place none) (g.P.Place.returned_trace place) g.P.Trace.Faulty.mark,
  none_back (g.P.Place.handed_bays place) (no_bay g place none) (g.P.Place.returned_bay place) g.P.Bay.Faulty.mark,
)

-- what is said of another command than that of the line
in_run : {P : Type 0} (g : given.Over) (c : goal.After-drop-traces-inside g) (other : Line) → command c.args.words.now ≡ Some other → eqb 0 (command_number other) ≡ false → P
in_run g c other said apart =
    of_another (command c.args.words.now) c.in-Ok.line (Run c.in-Run.settings c.in-Run.workers c.in-Run.dir c.in-Run.traces) other c.in-Ok.ensures.line c.in-Run.is said apart

in_recover : {P : Type 0} (g : given.Over) (c : goal.After-recover_to g) (other : Line) → command c.args.words.now ≡ Some other → eqb 1 (command_number other) ≡ false → P
in_recover g c other said apart =
    of_another (command c.args.words.now) c.in-Ok.line (Recover c.in-Recover.settings c.in-Recover.dir) other c.in-Ok.ensures.line c.in-Recover.is said apart

in_gen : {P : Type 0} (g : given.Over) (c : goal.After-gen_to g) (other : Line) → command c.args.words.now ≡ Some other → eqb 2 (command_number other) ≡ false → P
in_gen g c other said apart =
    of_another (command c.args.words.now) c.in-Ok.line (Gen c.in-Gen.seed c.in-Gen.events) other c.in-Ok.ensures.line c.in-Gen.is said apart

in_drill : {P : Type 0} (g : given.Over) (c : goal.After-drill g) (other : Line) → command c.args.words.now ≡ Some other → eqb 3 (command_number other) ≡ false → P
in_drill g c other said apart =
    of_another (command c.args.words.now) c.in-Ok.line (Drill c.in-Drill.settings c.in-Drill.workers c.in-Drill.seed c.in-Drill.events) other c.in-Ok.ensures.line c.in-Drill.is said apart

pub run_line-requires-clause-dir : goal.run_line-requires-clause-dir
run_line-requires-clause-dir g c κs within =
    (run_placed c.args.words.now c.in-Ok.line c.in-Ok.ensures.line c.in-Run.settings c.in-Run.workers c.in-Run.dir c.in-Run.traces c.in-Run.is).dir_in

pub run_line-requires-clause-within : goal.run_line-requires-clause-within
run_line-requires-clause-within g c κs within =
    subst (AreBelow (length c.args.words.now)) (sym c.as_slice.ensures)
    (run_placed c.args.words.now c.in-Ok.line c.in-Ok.ensures.line c.in-Run.settings c.in-Run.workers c.in-Run.dir c.in-Run.traces c.in-Run.is).traces_in

pub word-requires : goal.word-requires
word-requires g c = recover_placed c.args.words.now c.in-Ok.line c.in-Ok.ensures.line c.in-Recover.settings c.in-Recover.dir c.in-Recover.is

-- a run
pub returns-in-Run : goal.returns-in-Run
returns-in-Run g c = record {
  usage = λ rule is. absurd (c.run_line.ensures.no_usage rule is);
  at_usage = λ rule broken. of_no_rule (usage c.args.words.now) rule c.in-Ok.ensures.sound broken;
  asked = λ settings workers dir traces spelled sound.
      let words = c.args.words.now in
      along_run (command words) c.in-Ok.line c.in-Ok.ensures.line
      (λ (s : Numbers) (w d : ℕ) (t : List ℕ). IsAsked (names_of words t) (word_at words d) (2 ^ s.cone_bits) (g.P.Place.asked c.run_line.new.place) c.run_line.result)
      c.in-Run.settings settings c.in-Run.workers workers c.in-Run.dir dir c.in-Run.traces traces c.in-Run.is spelled
      (subst (λ (t : List ℕ). IsAsked (names_of words t) (word_at words c.in-Run.dir) (2 ^ c.in-Run.settings.cone_bits) (g.P.Place.asked c.run_line.new.place) c.run_line.result)
      c.as_slice.ensures c.run_line.ensures.asked);
  place_fault = c.run_line.ensures.place_fault;
  returned = λ sound. c.run_line.ensures.returned;
  ran = λ settings workers dir traces spelled sound.
      along_run (command c.args.words.now) c.in-Ok.line c.in-Ok.ensures.line Ran
      c.in-Run.settings settings c.in-Run.workers workers c.in-Run.dir dir c.in-Run.traces traces c.in-Run.is spelled
      (subst (Ran c.in-Run.settings c.in-Run.workers c.in-Run.dir) c.as_slice.ensures c.run_line.ensures.ran);
  closed = λ settings workers dir traces spelled sound.
      along_run (command c.args.words.now) c.in-Ok.line c.in-Ok.ensures.line
      (λ (s : Numbers) (w d : ℕ) (t : List ℕ). c.run_line.result ≡ Done → AreReturnedClosed g.P.Bay.Bay.files g.P.Bay.Bay.leaves s (g.P.Place.returned_bay c.run_line.new.place))
      c.in-Run.settings settings c.in-Run.workers workers c.in-Run.dir dir c.in-Run.traces traces c.in-Run.is spelled c.run_line.ensures.closed;
  asked_again = λ settings dir spelled sound. in_run g c (Recover settings dir) spelled refl;
  recovered = λ settings dir spelled sound. in_run g c (Recover settings dir) spelled refl;
  each_moment = λ settings dir spelled sound. in_run g c (Recover settings dir) spelled refl;
  generated = λ seed events spelled sound. in_run g c (Gen seed events) spelled refl;
  drilled = λ settings workers seed events spelled sound. in_run g c (Drill settings workers seed events) spelled refl;
}
  where
    Ran : Numbers → ℕ → ℕ → List ℕ → Type 0
    Ran s w d t = c.run_line.result ≢ PlaceFault → (backs : List g.row.P-Trace.Denot) × (bays : List g.row.P-Bay.Denot)
        × HasPutBack g.P.Trace.Faulty.faults g.P.Trace.Faulty.mark g.P.Bay.Bay.files g.P.Bay.Faulty.faults g.P.Bay.Faulty.mark
        (g.P.Place.handed_traces c.run_line.new.place) backs (g.P.Place.returned_trace c.run_line.new.place)
        (g.P.Place.handed_bays c.run_line.new.place) bays (g.P.Place.returned_bay c.run_line.new.place)
        × (c.run_line.result ≢ OutOfMemory → length (g.P.Place.handed_traces c.run_line.new.place) ≡ length t)
        × HasRun g.P.Trace.Source.remaining g.P.Trace.Faulty.faults g.K.Sink.taken g.K.Faulty.faults
        g.P.Bay.Bay.files g.P.Bay.Faulty.faults s w (g.P.Place.handed_traces c.run_line.new.place) backs c.args.out.now c.run_line.new.out
        (g.P.Place.handed_bays c.run_line.new.place) bays c.run_line.result

pub returns-in-Recover : goal.returns-in-Recover
returns-in-Recover g c = record {
  usage = λ rule is. absurd (c.recover_to.ensures.no_usage rule is);
  at_usage = λ rule broken. of_no_rule (usage c.args.words.now) rule c.in-Ok.ensures.sound broken;
  asked = λ settings workers dir traces spelled sound. in_recover g c (Run settings workers dir traces) spelled refl;
  place_fault = λ is.
      let found = c.recover_to.ensures.place_fault is in (
        found.0,
        found.1,
        none_back_same (g.P.Place.handed_traces c.recover_to.new.place) (c.recover_to.ensures.traces ∙ no_trace g c.args.place.now c.requires.asked) (g.P.Place.returned_trace c.recover_to.new.place),
        found.2,
      );
  returned = λ sound. (
    none_back (g.P.Place.handed_traces c.recover_to.new.place) (c.recover_to.ensures.traces ∙ no_trace g c.args.place.now c.requires.asked) (g.P.Place.returned_trace c.recover_to.new.place)
        g.P.Trace.Faulty.mark,
    c.recover_to.ensures.returned,
  );
  ran = λ settings workers dir traces spelled sound. in_recover g c (Run settings workers dir traces) spelled refl;
  closed = λ settings workers dir traces spelled sound. in_recover g c (Run settings workers dir traces) spelled refl;
  asked_again = λ settings dir spelled sound.
      let words = c.args.words.now in
      let name = word_at-slice_get words c.in-Recover.dir c.word.result.now c.word.ensures in
      along_recover (command words) c.in-Ok.line c.in-Ok.ensures.line
      (λ s d. IsAskedForBays (word_at words d) (2 ^ s.cone_bits) [] (g.P.Place.asked c.recover_to.new.place) c.recover_to.result)
      c.in-Recover.settings settings c.in-Recover.dir dir c.in-Recover.is spelled
      (subst (λ xs. IsAskedForBays (word_at words c.in-Recover.dir) (2 ^ c.in-Recover.settings.cone_bits) xs (g.P.Place.asked c.recover_to.new.place) c.recover_to.result) c.requires.asked
      (subst (λ (d : List ℕ). IsAskedForBays d (2 ^ c.in-Recover.settings.cone_bits) (g.P.Place.asked c.args.place.now) (g.P.Place.asked c.recover_to.new.place) c.recover_to.result) name
      c.recover_to.ensures.asked));
  recovered = λ settings dir spelled sound.
      along_recover (command c.args.words.now) c.in-Ok.line c.in-Ok.ensures.line (λ s d. c.recover_to.result ≢ PlaceFault → (backs : List g.row.P-Bay.Denot)
      × ((cone : ℕ) → cone < length backs → g.P.Place.returned_bay c.recover_to.new.place cone ≡ slice_get backs cone)
      × AreLater g.P.Bay.Bay.files g.P.Bay.Faulty.faults g.P.Bay.Faulty.mark (g.P.Place.handed_bays c.recover_to.new.place) backs
      × HasRecovered g.K.Sink.taken g.K.Faulty.faults g.P.Bay.Bay.files g.P.Bay.Faulty.faults s c.args.out.now
      c.recover_to.new.out (g.P.Place.handed_bays c.recover_to.new.place) backs c.recover_to.result)
      c.in-Recover.settings settings c.in-Recover.dir dir c.in-Recover.is spelled c.recover_to.ensures.recovered;
  each_moment = λ settings dir spelled sound.
      along_recover (command c.args.words.now) c.in-Ok.line c.in-Ok.ensures.line
      (λ (s : Numbers) (d : ℕ). c.recover_to.result ≢ PlaceFault → AreReturnedSpared (bays_in g) s (g.P.Place.handed_bays c.recover_to.new.place) (g.P.Place.returned_bay c.recover_to.new.place))
      c.in-Recover.settings settings c.in-Recover.dir dir c.in-Recover.is spelled c.recover_to.ensures.each_moment;
  generated = λ seed events spelled sound. in_recover g c (Gen seed events) spelled refl;
  drilled = λ settings workers seed events spelled sound. in_recover g c (Drill settings workers seed events) spelled refl;
}

pub returns-in-Drill : goal.returns-in-Drill
returns-in-Drill g c = record {
  usage = λ rule is.
      elim (subst (DrillShows g.K.Sink.taken g.K.Faulty.faults c.in-Drill.settings c.in-Drill.seed c.in-Drill.events c.args.out.now c.drill.new.out) is c.drill.ensures.shows) [ ];
  at_usage = λ rule broken. of_no_rule (usage c.args.words.now) rule c.in-Ok.ensures.sound broken;
  asked = λ settings workers dir traces spelled sound. in_drill g c (Run settings workers dir traces) spelled refl;
  place_fault = λ is.
      elim (subst (DrillShows g.K.Sink.taken g.K.Faulty.faults c.in-Drill.settings c.in-Drill.seed c.in-Drill.events c.args.out.now c.drill.new.out) is c.drill.ensures.shows) [ ];
  returned = λ sound. all_back g c.args.place.now c.requires.asked;
  ran = λ settings workers dir traces spelled sound. in_drill g c (Run settings workers dir traces) spelled refl;
  closed = λ settings workers dir traces spelled sound. in_drill g c (Run settings workers dir traces) spelled refl;
  asked_again = λ settings dir spelled sound. in_drill g c (Recover settings dir) spelled refl;
  recovered = λ settings dir spelled sound. in_drill g c (Recover settings dir) spelled refl;
  each_moment = λ settings dir spelled sound. in_drill g c (Recover settings dir) spelled refl;
  generated = λ seed events spelled sound. in_drill g c (Gen seed events) spelled refl;
  drilled = λ settings workers seed events spelled sound.
      along_drill (command c.args.words.now) c.in-Ok.line c.in-Ok.ensures.line
      (λ s w a n. (c.args.place.now ≡ c.args.place.now) × DrillShows g.K.Sink.taken g.K.Faulty.faults s a n c.args.out.now c.drill.new.out c.drill.result)
      c.in-Drill.settings settings c.in-Drill.workers workers c.in-Drill.seed seed c.in-Drill.events events c.in-Drill.is spelled (refl, c.drill.ensures.shows);
}

-- a run
pub run_line-requires-clause-least : goal.run_line-requires-clause-least
run_line-requires-clause-least g c κs within =
    (run_keeps c.args.words.now c.in-Ok.line c.in-Ok.ensures.line c.in-Ok.ensures.sound c.in-Run.settings c.in-Run.workers c.in-Run.dir c.in-Run.traces c.in-Run.is).0.least

pub run_line-requires-clause-most : goal.run_line-requires-clause-most
run_line-requires-clause-most g c κs within =
    (run_keeps c.args.words.now c.in-Ok.line c.in-Ok.ensures.line c.in-Ok.ensures.sound c.in-Run.settings c.in-Run.workers c.in-Run.dir c.in-Run.traces c.in-Run.is).0.most

pub run_line-requires-clause-some : goal.run_line-requires-clause-some
run_line-requires-clause-some g c κs within =
    subst (λ (xs : List ℕ). 1 ≤ length xs) (sym c.as_slice.ensures)
    (run_placed c.args.words.now c.in-Ok.line c.in-Ok.ensures.line c.in-Run.settings c.in-Run.workers c.in-Run.dir c.in-Run.traces c.in-Run.is).some

pub run_line-requires-clause-few : goal.run_line-requires-clause-few
run_line-requires-clause-few g c κs within =
    subst (λ (xs : List ℕ). length xs ≤ 1024) (sym c.as_slice.ensures)
    (run_keeps c.args.words.now c.in-Ok.line c.in-Ok.ensures.line c.in-Ok.ensures.sound c.in-Run.settings c.in-Run.workers c.in-Run.dir c.in-Run.traces c.in-Run.is).1

pub run_line-requires-clause-asked : goal.run_line-requires-clause-asked
run_line-requires-clause-asked g c κs within = c.requires.asked

-- a recovery
pub recover_to-requires-clause-no_bay : goal.recover_to-requires-clause-no_bay
recover_to-requires-clause-no_bay g c κs within = ap bays_granted c.requires.asked

-- generated keys
pub gen_to-requires : goal.gen_to-requires
gen_to-requires g c = record {
  few = gen_keeps c.args.words.now c.in-Ok.line c.in-Ok.ensures.line c.in-Ok.ensures.sound c.in-Gen.seed c.in-Gen.events c.in-Gen.is;
}

pub returns-in-Gen : goal.returns-in-Gen
returns-in-Gen g c = record {
  usage = λ rule is.
      elim (subst (TraceShows g.K.Sink.taken g.K.Faulty.faults c.in-Gen.seed c.in-Gen.events c.args.out.now c.gen_to.new.out) is c.gen_to.ensures.shows) [ ];
  at_usage = λ rule broken. of_no_rule (usage c.args.words.now) rule c.in-Ok.ensures.sound broken;
  asked = λ settings workers dir traces spelled sound. in_gen g c (Run settings workers dir traces) spelled refl;
  place_fault = λ is.
      elim (subst (TraceShows g.K.Sink.taken g.K.Faulty.faults c.in-Gen.seed c.in-Gen.events c.args.out.now c.gen_to.new.out) is c.gen_to.ensures.shows) [ ];
  returned = λ sound. all_back g c.args.place.now c.requires.asked;
  ran = λ settings workers dir traces spelled sound. in_gen g c (Run settings workers dir traces) spelled refl;
  closed = λ settings workers dir traces spelled sound. in_gen g c (Run settings workers dir traces) spelled refl;
  asked_again = λ settings dir spelled sound. in_gen g c (Recover settings dir) spelled refl;
  recovered = λ settings dir spelled sound. in_gen g c (Recover settings dir) spelled refl;
  each_moment = λ settings dir spelled sound. in_gen g c (Recover settings dir) spelled refl;
  generated = λ seed events spelled sound.
      along_gen (command c.args.words.now) c.in-Ok.line c.in-Ok.ensures.line
      (λ (a n : ℕ). (c.args.place.now ≡ c.args.place.now) × (((c.gen_to.result ≡ OutOfMemory) × (c.gen_to.new.out ≡ c.args.out.now))
      ⊎ TraceShows g.K.Sink.taken g.K.Faulty.faults a n c.args.out.now c.gen_to.new.out c.gen_to.result))
      c.in-Gen.seed seed c.in-Gen.events events c.in-Gen.is spelled (refl, inr c.gen_to.ensures.shows);
  drilled = λ settings workers seed events spelled sound. in_gen g c (Drill settings workers seed events) spelled refl;
}

-- a drill
pub drill-requires-clause-least : goal.drill-requires-clause-least
drill-requires-clause-least g c κs within =
    (drill_keeps c.args.words.now c.in-Ok.line c.in-Ok.ensures.line c.in-Ok.ensures.sound c.in-Drill.settings c.in-Drill.workers c.in-Drill.seed c.in-Drill.events c.in-Drill.is).0.least

pub drill-requires-clause-most : goal.drill-requires-clause-most
drill-requires-clause-most g c κs within =
    (drill_keeps c.args.words.now c.in-Ok.line c.in-Ok.ensures.line c.in-Ok.ensures.sound c.in-Drill.settings c.in-Drill.workers c.in-Drill.seed c.in-Drill.events c.in-Drill.is).0.most

pub drill-requires-clause-few : goal.drill-requires-clause-few
drill-requires-clause-few g c κs within =
    (drill_keeps c.args.words.now c.in-Ok.line c.in-Ok.ensures.line c.in-Ok.ensures.sound c.in-Drill.settings c.in-Drill.workers c.in-Drill.seed c.in-Drill.events c.in-Drill.is).1

-- words that break a rule
broken_rule : (g : given.Over) (c : In-Err-Usage g) → usage c.args.words.now ≡ Some c.in-Err-Usage.rule
broken_rule g c = c.in-Err-Usage.ensures.usage c.in-Err-Usage.rule c.in-Err-Usage.field-0-is

pub returns-in-Err-Usage : goal.returns-in-Err-Usage
returns-in-Err-Usage g c =
    record {
      asked = λ settings workers dir traces spelled sound. of_no_rule (usage c.args.words.now) c.in-Err-Usage.rule sound (broken_rule g c);
      ran = λ settings workers dir traces spelled sound. of_no_rule (usage c.args.words.now) c.in-Err-Usage.rule sound (broken_rule g c);
      closed = λ settings workers dir traces spelled sound. of_no_rule (usage c.args.words.now) c.in-Err-Usage.rule sound (broken_rule g c);
      asked_again = λ settings dir spelled sound. of_no_rule (usage c.args.words.now) c.in-Err-Usage.rule sound (broken_rule g c);
      recovered = λ settings dir spelled sound. of_no_rule (usage c.args.words.now) c.in-Err-Usage.rule sound (broken_rule g c);
      each_moment = λ settings dir spelled sound. of_no_rule (usage c.args.words.now) c.in-Err-Usage.rule sound (broken_rule g c);
      generated = λ seed events spelled sound. of_no_rule (usage c.args.words.now) c.in-Err-Usage.rule sound (broken_rule g c);
      drilled = λ settings workers seed events spelled sound. of_no_rule (usage c.args.words.now) c.in-Err-Usage.rule sound (broken_rule g c);
      returned = λ sound. of_no_rule (usage c.args.words.now) c.in-Err-Usage.rule sound (broken_rule g c);
      usage = λ rule is. broken_rule g c ∙ ap Some (sym c.in-Err-Usage.rule-is ∙ rule_is _ rule is);
      at_usage = λ rule broken. (inl (ap Usage (c.in-Err-Usage.rule-is ∙ some_is (sym (broken_rule g c) ∙ broken))), refl, refl);
      place_fault = λ is. absurd (usage_not_place _ is);
    }

-- no memory to read the line
pub returns-in-Err-OutOfMemory : goal.returns-in-Err-OutOfMemory
returns-in-Err-OutOfMemory g c =
    record {
      usage = λ rule is. absurd (no_memory_no_usage rule is);
      place_fault = λ is. absurd (no_memory_no_place is);
      ran = λ settings workers dir traces spelled sound differs.
          let place = c.args.place.now in
          let out = c.args.out.now in
          let no_traces = no_trace g place c.requires.asked in
          let no_bays = no_bay g place c.requires.asked in (
            [],
            [],
            put_back_none (g.P.Place.handed_bays place) no_bays g.P.Bay.Bay.files g.P.Bay.Faulty.faults g.P.Bay.Faulty.mark
                g.P.Trace.Faulty.faults g.P.Trace.Faulty.mark (g.P.Place.handed_traces place) no_traces (g.P.Place.returned_trace place) (g.P.Place.returned_bay place),
            λ other. absurd (other refl),
            run_none g.P.Trace.Source.remaining g.P.Trace.Faulty.faults g.K.Sink.taken g.K.Faulty.faults g.P.Bay.Bay.files g.P.Bay.Faulty.faults
                settings workers (g.P.Place.handed_traces place) [] out out (g.P.Place.handed_bays place) [] (sym no_traces) refl refl,
          );
      closed = λ settings workers dir traces spelled sound is. absurd (no_memory_not_done is);
      asked_again = λ settings dir spelled sound.
          inr (record { number = 0; within = omega arith; asked_is = c.requires.asked; no_fault = no_memory_no_place; all = λ is. absurd (no_memory_not_done is) });
      recovered = λ settings dir spelled sound differs.
          let place = c.args.place.now in
          let no_bays = no_bay g place c.requires.asked in (
            [],
            λ cone within. below_none cone within,
            later_none (g.P.Place.handed_bays place) no_bays g.P.Bay.Bay.files g.P.Bay.Faulty.faults g.P.Bay.Faulty.mark,
            recovered_none (g.P.Place.handed_bays place) no_bays g.P.Bay.Bay.files g.P.Bay.Faulty.faults g.P.Bay.Faulty.mark g.K.Sink.taken g.K.Faulty.faults settings c.args.out.now,
          );
      each_moment = λ settings dir spelled sound differs.
          let place = c.args.place.now in
          sound_none (g.P.Place.handed_bays place) (no_bay g place c.requires.asked) (bays_in g) settings (g.P.Place.returned_bay place);
      at_usage = λ rule broken. (inr refl, refl, refl);
      asked = λ settings workers dir traces spelled sound. inl (c.requires.asked, refl);
      returned = λ sound. all_back g c.args.place.now c.requires.asked;
      generated = λ seed events spelled sound. (refl, inl (refl, refl));
      drilled = λ settings workers seed events spelled sound. (refl, drill_memory refl);
    }
