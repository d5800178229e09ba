use Rattle.std.proofs.{Common.{◌≡◌, ◌≤◌, List, ◌+◌, length, map, sum_by, take, refl, ap, ◌∙◌, subst, arith}, lemmas.List.{length-map, take_all}, lemmas.List.Sums.sum_by_push}
use Rattle.std.proofs.{lemmas.Option.slice_get_read, lemmas.Result.{err_from_is_err_and, on_ok_weaker, on_err_weaker}}
use Rattle.lert_top.specs.drills.Print.{drilled_as}
use Rattle.lert_io.proofs.Rising.{risen_since}
use Rattle.lert_top.proofs.{cones.ConeTexts.IsCut-begins, drills.DrillTexts.{drilled_next, lines_are, texts_begin, texts_next}}
use Rattle.lert_text.specs.{Drill.{Drilled, drill_line, drill_lines, drill_text, drill_texts}, Page.{IsCut, IsPrinting}}
use Rattle.lert_text.proofs.Printing.{IsPrinting-all, IsPrinting-start}
use Rattle.lert_top.proofs.drills.print.print_drill.Goals as goal

pub loop-number-init : goal.loop-number-init
loop-number-init g c = record {
  printing = IsPrinting-start (g.K.Sink.taken c.args.out.now) c.args.page.now c.requires.empty;
  events = refl;
  reports = refl;
  few_events = omega arith;
  few_reports = omega arith;
  falls = omega arith;
}

pub summary_of-events_here-requires-clause-settings : goal.summary_of-events_here-requires-clause-settings
summary_of-events_here-requires-clause-settings g c =
    let cones = c.args.cones.now in
    (c.requires.printable c.loop-number.number c.index-cones-number.result
    (slice_get_read cones (length cones) c.loop-number.number c.index-cones-number.result refl c.loop-number-test.true c.index-cones-number.is)).1

pub summary_of-events_here-requires-clause-whole : goal.summary_of-events_here-requires-clause-whole
summary_of-events_here-requires-clause-whole g c =
    let cones = c.args.cones.now in
    (c.requires.printable c.loop-number.number c.index-cones-number.result
    (slice_get_read cones (length cones) c.loop-number.number c.index-cones-number.result refl c.loop-number-test.true c.index-cones-number.is)).0

pub returns-in_err-print_drill_cone-clause-cut : goal.returns-in_err-print_drill_cone-clause-cut
returns-in_err-print_drill_cone-clause-cut g c =
    let p = err_from_is_err_and c.from_residual.result c.from_residual.ensures.1 in
    let here = c.loop-number.invariant in
    let n = c.loop-number.number in
    let cones = c.args.cones.now in
    let all = map drilled_as cones in
    let cone = c.index-cones-number.result in
    let found = slice_get_read cones (length cones) n cone refl c.loop-number-test.true c.index-cones-number.is in
    let start = g.K.Sink.taken c.args.out.now in
    let now = g.K.Sink.taken c.print_drill_cone.new.out in
    let counts = c.summary_of-events_here.ensures in
    let summary = c.summary_of-events_here.result in
    let line = drill_line n summary.0 summary.1 summary.2 in
    let is : line ≡ drill_text n (drilled_as cone) = (λ i. drill_line n (counts.events i) (counts.reports i) (counts.keys i)) in
    rw p.1 (IsCut-begins start now (drill_lines all) (drill_texts 0 (take (n + 1) all)) (texts_begin all (n + 1))
    (subst (IsCut start now) (texts_next cones n cone line found is) (c.in_err-print_drill_cone.ensures.cut start (drill_texts 0 (take n all)) here.printing)))

pub returns-in_err-print_drill_cone-clause-cause : goal.returns-in_err-print_drill_cone-clause-cause
returns-in_err-print_drill_cone-clause-cause g c =
    let p = err_from_is_err_and c.from_residual.result c.from_residual.ensures.1 in
    let here = c.loop-number.invariant in
    let cause = c.in_err-print_drill_cone.ensures.cause in
    rw p.1 (record {
      never_falls = omega (arith, here.falls, cause.never_falls);
      failed = λ failed. risen_since (g.K.Faulty.faults c.args.out.now) (g.K.Faulty.faults c.loop-number.out) (g.K.Faulty.faults c.print_drill_cone.new.out) here.falls (omega arith)
          (cause.failed refl);
    })

pub loop-number-preserved : goal.loop-number-preserved
loop-number-preserved g c =
    let here = c.loop-number.invariant in
    let n = c.loop-number.number in
    let cones = c.args.cones.now in
    let all = map drilled_as cones in
    let cone = c.index-cones-number.result in
    let found = slice_get_read cones (length cones) n cone refl c.loop-number-test.true c.index-cones-number.is in
    let start = g.K.Sink.taken c.args.out.now in
    let now = g.K.Sink.taken c.print_drill_cone.new.out in
    let counts = c.summary_of-events_here.ensures in
    let summary = c.summary_of-events_here.result in
    let line = drill_line n summary.0 summary.1 summary.2 in
    let is : line ≡ drill_text n (drilled_as cone) = (λ i. drill_line n (counts.events i) (counts.reports i) (counts.keys i)) in
    let next = drilled_next cones n cone found in
    record {
      printing = subst (IsPrinting start now c.print_drill_cone.new.page) (texts_next cones n cone line found is)
          (c.in_ok-print_drill_cone.ensures.ok start (drill_texts 0 (take n all)) here.printing);
      events = omega (
        arith,
        here.events,
        counts.events,
        sum_by_push (λ (one : Drilled). one.events) (take n all) (drilled_as cone),
        ap (λ (ones : List Drilled). sum_by (λ (one : Drilled). one.events) ones) next,
      );
      reports = omega (
        arith,
        here.reports,
        counts.reports,
        sum_by_push (λ (one : Drilled). length one.keys) (take n all) (drilled_as cone),
        ap (λ (ones : List Drilled). sum_by (λ (one : Drilled). length one.keys) ones) next,
      );
      few_events = omega (arith, here.few_events, counts.few_events);
      few_reports = omega (arith, here.few_reports, counts.few_reports);
      falls = omega (arith, here.falls, c.print_drill_cone.ensures.cause.never_falls);
    }

pub returns : goal.returns
returns g c = record {
  ok = λ text was.
      let here = c.loop-number.invariant in
      let all = map drilled_as c.args.cones.now in
      let start = g.K.Sink.taken c.args.out.now in
      let enough : length all ≤ c.loop-number.number = omega (arith, c.loop-number-test.false, length-map c.args.cones.now drilled_as) in
      let whole = take_all c.loop-number.number all enough in
      let printing = subst (λ (ones : List Drilled). IsPrinting start (g.K.Sink.taken c.loop-number.out) c.loop-number.page (drill_texts 0 ones)) whole here.printing in
      let texts = lines_are all c.loop-number.events c.loop-number.reports (here.events ∙ ap (λ (ones : List Drilled). sum_by (λ (one : Drilled). one.events) ones) whole)
      (here.reports ∙ ap (λ (ones : List Drilled). sum_by (λ (one : Drilled). length one.keys) ones) whole) in
      on_ok_weaker c.print_total.result
      (λ printed. IsPrinting-all start (g.K.Sink.taken c.print_total.new.out) (drill_lines all) (subst (IsPrinting start (g.K.Sink.taken c.print_total.new.out) _) texts printed) text was)
      (c.print_total.ensures.ok start (drill_texts 0 all) printing);
  cut =
      let here = c.loop-number.invariant in
      let all = map drilled_as c.args.cones.now in
      let start = g.K.Sink.taken c.args.out.now in
      let enough : length all ≤ c.loop-number.number = omega (arith, c.loop-number-test.false, length-map c.args.cones.now drilled_as) in
      let whole = take_all c.loop-number.number all enough in
      let printing = subst (λ (ones : List Drilled). IsPrinting start (g.K.Sink.taken c.loop-number.out) c.loop-number.page (drill_texts 0 ones)) whole here.printing in
      let texts = lines_are all c.loop-number.events c.loop-number.reports (here.events ∙ ap (λ (ones : List Drilled). sum_by (λ (one : Drilled). one.events) ones) whole)
      (here.reports ∙ ap (λ (ones : List Drilled). sum_by (λ (one : Drilled). length one.keys) ones) whole) in
      on_err_weaker c.print_total.result (λ cut. subst (IsCut start (g.K.Sink.taken c.print_total.new.out)) texts cut) (c.print_total.ensures.cut start (drill_texts 0 all) printing);
  cause =
      let here = c.loop-number.invariant in
      let cause = c.print_total.ensures.cause in
      record {
        never_falls = omega (arith, here.falls, cause.never_falls);
        failed = λ failed. risen_since (g.K.Faulty.faults c.args.out.now) (g.K.Faulty.faults c.loop-number.out) (g.K.Faulty.faults c.print_total.new.out) here.falls cause.never_falls
            (cause.failed failed);
      };
}

pub overflow_add-events : goal.overflow_add-events
overflow_add-events g c = omega (arith, c.loop-number.invariant.few_events, c.summary_of-events_here.ensures.few_events, c.loop-number-test.true, c.requires.few)

pub overflow_add-reports : goal.overflow_add-reports
overflow_add-reports g c = omega (arith, c.loop-number.invariant.few_reports, c.summary_of-events_here.ensures.few_reports, c.loop-number-test.true, c.requires.few)
