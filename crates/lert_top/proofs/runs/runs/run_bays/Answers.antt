use Rattle.std.proofs.{Common.{◌≡◌, ◌++◌, List, length, refl, ap, sym, ◌∙◌, subst, arith, append-nil}, lemmas.List.length-map}
use Rattle.lert_cone.specs.Stands.{Standing}
use Rattle.lert_ingest.specs.{Bays.{AreLater, bays_of}, Stops.IsExact}
use Rattle.lert_ingest.proofs.{BayLaws.are_more, EachLaws.{kept_unused, unused_more}, Exactly.{exact_memory, exact_turned}}
use Rattle.lert_top.specs.{runs.Ran.IsDone, runs.Run.{RunShows, unmade}, cones.Unmade.IsUnmade, cones.Closed.AreClosedInEach}
use Rattle.lert_top.proofs.{cones.AskedLaws.traces_same, cones.ConeLaws.unmade_since, runs.DoneLaws.unmade_not_done, runs.Ending.{only_memory, shows_since, telling_since}}
use Rattle.lert_top.proofs.runs.runs.run_bays.Given as given
use Rattle.lert_top.proofs.runs.runs.run_bays.Goals as goal
use Rattle.lert_top.proofs.runs.runs.run_bays.Goals.{In-Err-make_cones}

pub returns-in-Err : goal.returns-in-Err
returns-in-Err g c = record {
  later = c.find_stale.ensures.later;
  traces_later = traces_same g.S.Faulty.faults g.S.Faulty.mark c.args.traces.items;
  shows = unmade (c.in-Err.ensures.unmade c.args.settings.now) refl refl;
  exact = λ fresh.
      let now = c.find_stale.new.bays.items in
      exact_memory g.S.Source.remaining g.S.Faulty.faults g.B.Bay.files g.B.Faulty.faults c.args.settings.now c.args.traces.items c.args.traces.items c.args.workers c.args.bays.now.items now _ _
      (λ texts are. only_memory g.B.Bay.files g.B.Faulty.faults c.args.settings.now c.args.bays.now.items now c.in-Err.status (c.in-Err.ensures.unmade c.args.settings.now) fresh are.faultless);
  closed = λ is.
      absurd (unmade_not_done g.B.Bay.files g.B.Faulty.faults c.args.settings.now c.args.bays.now.items c.find_stale.new.bays.items c.in-Err.status
      (c.in-Err.ensures.unmade c.args.settings.now) is);
}

-- why no cones were made, said of the bays as they were opened
unmade_at : (g : given.Over) (c : In-Err-make_cones g) → IsUnmade g.B.Bay.files g.B.Faulty.faults c.args.settings.now c.args.bays.now.items c.make_cones.new.bays.items
    c.in-Err-make_cones.status
unmade_at g c =
    unmade_since g.B.Bay.files g.B.Faulty.faults g.B.Faulty.mark c.args.settings.now c.args.bays.now.items c.find_stale.new.bays.items c.make_cones.new.bays.items
    c.find_stale.ensures.later c.in-Err-make_cones.ensures.kept c.find_stale.ensures.kept c.in_default.ensures.fresh c.in_default.ensures.fresh_now
    c.in-Err-make_cones.status c.in-Err-make_cones.ensures.unmade

pub returns-in-Err-make_cones : goal.returns-in-Err-make_cones
returns-in-Err-make_cones g c = record {
  later =
      are_more g.B.Bay.files g.B.Faulty.faults g.B.Faulty.mark c.args.bays.now.items c.find_stale.new.bays.items c.make_cones.new.bays.items c.find_stale.ensures.later
      c.in-Err-make_cones.ensures.kept;
  traces_later = traces_same g.S.Faulty.faults g.S.Faulty.mark c.args.traces.items;
  shows = unmade (unmade_at g c) refl refl;
  exact = λ fresh.
      let now = c.make_cones.new.bays.items in
      exact_memory g.S.Source.remaining g.S.Faulty.faults g.B.Bay.files g.B.Faulty.faults c.args.settings.now c.args.traces.items c.args.traces.items c.args.workers c.args.bays.now.items now _ _
      (λ texts are. only_memory g.B.Bay.files g.B.Faulty.faults c.args.settings.now c.args.bays.now.items now c.in-Err-make_cones.status (unmade_at g c) fresh are.faultless);
  closed = λ is.
      absurd (unmade_not_done g.B.Bay.files g.B.Faulty.faults c.args.settings.now c.find_stale.new.bays.items c.make_cones.new.bays.items c.in-Err-make_cones.status
      c.in-Err-make_cones.ensures.unmade is);
}

pub returns : goal.returns
returns g c =
    let first = c.args.bays.now.items in
    let then = c.find_stale.new.bays.items in
    let made = bays_of c.in-Ok.cones.items in
    let now = bays_of c.run_cones-cones.result.0.items in
    let back = c.bring_back.ensures.bays ∙ (ap (λ xs. now ++ xs) c.in-Ok.ensures.emptied ∙ append-nil now) in
    record {
      later =
          subst (AreLater g.B.Bay.files g.B.Faulty.faults g.B.Faulty.mark first) (sym back) (are_more g.B.Bay.files g.B.Faulty.faults g.B.Faulty.mark first then now c.find_stale.ensures.later
          (are_more g.B.Bay.files g.B.Faulty.faults g.B.Faulty.mark then made now c.in-Ok.ensures.later c.run_cones-cones.ensures.later));
      traces_later = c.run_cones-cones.ensures.traces_later;
      shows =
          let s = c.args.settings.now in
          let later = are_more g.B.Bay.files g.B.Faulty.faults g.B.Faulty.mark first then made c.find_stale.ensures.later c.in-Ok.ensures.later in
          let unused = unused_more g.B.Bay.files s first then made c.in-Ok.ensures.later.number (kept_unused g.B.Bay.files s first then c.find_stale.ensures.kept) c.in-Ok.ensures.unused in
          subst (λ (xs : List g.row.B.Denot). RunShows g.S.Source.remaining g.S.Faulty.faults g.K.Sink.taken g.K.Faulty.faults g.B.Bay.files g.B.Faulty.faults
          c.args.settings.now c.args.workers c.args.traces.items c.run_cones-cones.result.1.items c.args.out.now c.run_cones-cones.new.out first xs c.run_cones-cones.result.2) (sym back)
          (shows_since g.S.Source.remaining g.S.Faulty.faults g.K.Sink.taken g.K.Faulty.faults g.B.Bay.files g.B.Faulty.faults
          c.args.settings.now c.args.workers g.B.Faulty.mark c.args.traces.items c.run_cones-cones.result.1.items c.args.out.now c.run_cones-cones.new.out
          first made now later c.run_cones-cones.ensures.later c.in_default.ensures.fresh unused c.run_cones-cones.ensures.shows);
      exact = λ fresh.
          let first = c.args.bays.now.items in
          let then = c.find_stale.new.bays.items in
          let made = bays_of c.in-Ok.cones.items in
          let now = bays_of c.run_cones-cones.result.0.items in
          let back = c.bring_back.ensures.bays ∙ (ap (λ xs. now ++ xs) c.in-Ok.ensures.emptied ∙ append-nil now) in
          let later = are_more g.B.Bay.files g.B.Faulty.faults g.B.Faulty.mark first then made c.find_stale.ensures.later c.in-Ok.ensures.later in
          subst (λ (xs : List g.row.B.Denot). IsExact g.S.Source.remaining g.S.Faulty.faults g.B.Bay.files g.B.Faulty.faults
          c.args.settings.now c.args.workers c.args.traces.items c.run_cones-cones.result.1.items first xs (IsDone g.K.Faulty.faults c.args.out.now c.run_cones-cones.new.out
          c.run_cones-cones.result.2) (λ status. c.run_cones-cones.result.2 ≡ status)) (sym back)
          (exact_turned g.S.Source.remaining g.S.Faulty.faults g.B.Bay.files g.B.Faulty.faults c.args.settings.now c.args.traces.items c.run_cones-cones.result.1.items
          c.args.workers c.args.workers made now first now _ _ _ _ (λ texts are. (
            telling_since g.S.Source.remaining g.S.Faulty.faults g.K.Sink.taken g.K.Faulty.faults g.B.Bay.files g.B.Faulty.faults
                c.args.settings.now c.args.workers g.B.Faulty.mark c.args.traces.items c.run_cones-cones.result.1.items c.args.out.now c.run_cones-cones.new.out
                first made now later c.run_cones-cones.ensures.later texts are,
            λ ok. ok,
            λ status failed. failed,
          )) c.run_cones-cones.ensures.exact);
      closed = λ is.
          let now = bays_of c.run_cones-cones.result.0.items in
          let back = c.bring_back.ensures.bays ∙ (ap (λ xs. now ++ xs) c.in-Ok.ensures.emptied ∙ append-nil now) in
          subst (AreClosedInEach g.B.Bay.files g.B.Bay.leaves c.args.settings.now) (sym back) (c.run_cones-cones.ensures.closed is);
    }

pub find_stale-requires : goal.find_stale-requires
find_stale-requires g c = record { small = c.requires.small }

pub make_cones-requires-clause-number : goal.make_cones-requires-clause-number
make_cones-requires-clause-number g c = λ lifetimes outlive. c.find_stale.ensures.later.number ∙ c.requires.number

pub make_cones-requires-clause-room : goal.make_cones-requires-clause-room
make_cones-requires-clause-room g c = λ lifetimes outlive. omega (arith, c.find_stale.ensures.room, c.find_stale.ensures.later.number, c.requires.room)

pub make_cones-requires-clause-fresh : goal.make_cones-requires-clause-fresh
make_cones-requires-clause-fresh g c = λ lifetimes outlive. c.in_default.ensures.fresh_now

pub bring_back-requires : goal.bring_back-requires
bring_back-requires g c =
    let first = c.args.bays.now.items in
    let made = bays_of c.in-Ok.cones.items in
    let now = bays_of c.run_cones-cones.result.0.items in
    omega (
      arith,
      ap length c.in-Ok.ensures.emptied,
      c.make_cones.ensures.room,
      c.find_stale.ensures.room,
      c.requires.room,
      c.find_stale.ensures.later.number,
      c.in-Ok.ensures.later.number,
      c.run_cones-cones.ensures.later.number,
      length-map c.run_cones-cones.result.0.items (λ (cone : Standing g.row.B.Denot). cone.bay),
    )

pub run_cones-cones-requires-clause-least : goal.run_cones-cones-requires-clause-least
run_cones-cones-requires-clause-least g c = λ lifetimes outlive. c.requires.least

pub run_cones-cones-requires-clause-most : goal.run_cones-cones-requires-clause-most
run_cones-cones-requires-clause-most g c = λ lifetimes outlive. c.requires.most

pub run_cones-cones-requires-clause-some : goal.run_cones-cones-requires-clause-some
run_cones-cones-requires-clause-some g c = λ lifetimes outlive. c.requires.some

pub run_cones-cones-requires-clause-few : goal.run_cones-cones-requires-clause-few
run_cones-cones-requires-clause-few g c = λ lifetimes outlive. c.requires.few

pub run_cones-cones-requires-clause-number : goal.run_cones-cones-requires-clause-number
run_cones-cones-requires-clause-number g c = λ lifetimes outlive. c.in-Ok.ensures.number

pub run_cones-cones-requires-clause-new_cones : goal.run_cones-cones-requires-clause-new_cones
run_cones-cones-requires-clause-new_cones g c = λ lifetimes outlive. c.in-Ok.ensures.new_cones
