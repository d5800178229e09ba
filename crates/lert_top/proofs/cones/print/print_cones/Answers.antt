use Rattle.std.proofs.{Common.{◌≡◌, ◌≤◌, List, ◌+◌, length, map, sum_by, take, refl, ap, ◌∙◌, subst, arith}, lemmas.List.{length-map, take_all}, lemmas.List.Sums.sum_by_push}
use Rattle.std.proofs.{lemmas.Option.slice_get_read, lemmas.Result.{err_from_is_err_and, on_ok_weaker, on_err_weaker}}
use Rattle.lert_cone.specs.Stands.{is_finished}
use Rattle.lert_spec.specs.Lines.{Printed, cone_texts, lines}
use Rattle.lert_text.specs.Page.{IsCut, IsPrinting}
use Rattle.lert_top.specs.cones.Print.{printed_as}
use Rattle.lert_io.proofs.Rising.{risen_since}
use Rattle.lert_top.proofs.cones.ConeTexts.{IsCut-begins, lines_are, printed_next, texts_begin, texts_next}
use Rattle.lert_text.proofs.Printing.{IsPrinting-all, IsPrinting-start}
use Rattle.lert_top.proofs.cones.print.print_cones.Goals as goal

pub loop-number-init : goal.loop-number-init
loop-number-init g c = record {
  printing = IsPrinting-start (g.K.Sink.taken c.args.out.now) c.args.page.now c.requires.empty;
  events = refl;
  reports = refl;
  few_events = omega arith;
  few_reports = omega arith;
  falls = omega arith;
  marked = refl;
}

pub returns-in_err-print_cone-clause-cut : goal.returns-in_err-print_cone-clause-cut
returns-in_err-print_cone-clause-cut g c =
    let p = err_from_is_err_and c.from_residual.result c.from_residual.ensures.1 in
    let here = c.loop-number.invariant in
    let n = c.loop-number.number in
    let cones = c.args.cones.now in
    let all = map printed_as cones in
    let cone = c.index-cones-number.result in
    let found = slice_get_read cones (length cones) n cone refl c.loop-number-test.true c.index-cones-number.is in
    let start = g.K.Sink.taken c.args.out.now in
    let now = g.K.Sink.taken c.print_cone.new.out in
    let one : Printed = record { events = c.events.result; reports = c.list.result.now; closed = c.is_finished-closed.result } in
    let is : one ≡ printed_as cone = (λ i. record {
      events = c.events.ensures.count i;
      reports = (c.list.ensures.reports ∙ c.reports.ensures.value) i;
      closed = (c.is_finished-closed.ensures ∙ ap is_finished c.state.ensures.value) i;
    }) in
    rw p.1 (IsCut-begins start now (lines all) (cone_texts 0 (take (n + 1) all)) (texts_begin all (n + 1))
    (subst (IsCut start now) (texts_next cones n cone one found is) (c.in_err-print_cone.ensures.cut start (cone_texts 0 (take n all)) here.printing)))

pub returns-in_err-print_cone-clause-cause : goal.returns-in_err-print_cone-clause-cause
returns-in_err-print_cone-clause-cause g c =
    let p = err_from_is_err_and c.from_residual.result c.from_residual.ensures.1 in
    let here = c.loop-number.invariant in
    let cause = c.in_err-print_cone.ensures.cause in
    rw p.1 (record {
      never_falls = omega (arith, here.falls, cause.never_falls);
      failed = λ failed. risen_since (g.K.Faulty.faults c.args.out.now) (g.K.Faulty.faults c.loop-number.out) (g.K.Faulty.faults c.print_cone.new.out) here.falls (omega arith)
          (cause.failed refl);
    })

pub numbers_of-events_here-requires-clause-settings : goal.numbers_of-events_here-requires-clause-settings
numbers_of-events_here-requires-clause-settings g c =
    let cones = c.args.cones.now in
    (c.requires.printable c.loop-number.number c.index-cones-number.result
    (slice_get_read cones (length cones) c.loop-number.number c.index-cones-number.result refl c.loop-number-test.true c.index-cones-number.is)).1

pub numbers_of-events_here-requires-clause-whole : goal.numbers_of-events_here-requires-clause-whole
numbers_of-events_here-requires-clause-whole g c =
    let cones = c.args.cones.now in
    (c.requires.printable c.loop-number.number c.index-cones-number.result
    (slice_get_read cones (length cones) c.loop-number.number c.index-cones-number.result refl c.loop-number-test.true c.index-cones-number.is)).0

pub loop-number-preserved : goal.loop-number-preserved
loop-number-preserved g c =
    let here = c.loop-number.invariant in
    let n = c.loop-number.number in
    let cones = c.args.cones.now in
    let all = map printed_as cones in
    let cone = c.index-cones-number.result in
    let found = slice_get_read cones (length cones) n cone refl c.loop-number-test.true c.index-cones-number.is in
    let start = g.K.Sink.taken c.args.out.now in
    let now = g.K.Sink.taken c.print_cone.new.out in
    let one : Printed = record { events = c.events.result; reports = c.list.result.now; closed = c.is_finished-closed.result } in
    let is : one ≡ printed_as cone = (λ i. record {
      events = c.events.ensures.count i;
      reports = (c.list.ensures.reports ∙ c.reports.ensures.value) i;
      closed = (c.is_finished-closed.ensures ∙ ap is_finished c.state.ensures.value) i;
    }) in
    let next = printed_next cones n cone found in
    let counts = c.numbers_of-events_here.ensures in
    record {
      printing = subst (IsPrinting start now c.print_cone.new.page) (texts_next cones n cone one found is) (c.in_ok-print_cone.ensures.ok start (cone_texts 0 (take n all)) here.printing);
      events = omega (
        arith,
        here.events,
        counts.events,
        sum_by_push (λ (p : Printed). p.events) (take n all) (printed_as cone),
        ap (λ (ps : List Printed). sum_by (λ (p : Printed). p.events) ps) next,
      );
      reports = omega (
        arith,
        here.reports,
        counts.reports,
        sum_by_push (λ (p : Printed). length p.reports) (take n all) (printed_as cone),
        ap (λ (ps : List Printed). sum_by (λ (p : Printed). length p.reports) ps) next,
      );
      few_events = omega (arith, here.few_events, counts.few_events);
      few_reports = omega (arith, here.few_reports, counts.few_reports);
      falls = omega (arith, here.falls, c.print_cone.ensures.cause.never_falls);
      marked = c.print_cone.ensures.mark ∙ here.marked;
    }

pub returns : goal.returns
returns g c = record {
  ok = λ text was.
      let here = c.loop-number.invariant in
      let all = map printed_as c.args.cones.now in
      let start = g.K.Sink.taken c.args.out.now in
      let enough : length all ≤ c.loop-number.number = omega (arith, c.loop-number-test.false, length-map c.args.cones.now printed_as) in
      let whole = take_all c.loop-number.number all enough in
      let printing = subst (λ (ps : List Printed). IsPrinting start (g.K.Sink.taken c.loop-number.out) c.loop-number.page (cone_texts 0 ps)) whole here.printing in
      let texts = lines_are all c.loop-number.events c.loop-number.reports (here.events ∙ ap (λ (ps : List Printed). sum_by (λ (p : Printed). p.events) ps) whole)
      (here.reports ∙ ap (λ (ps : List Printed). sum_by (λ (p : Printed). length p.reports) ps) whole) in
      on_ok_weaker c.print_total.result
      (λ printed_all. IsPrinting-all start (g.K.Sink.taken c.print_total.new.out) (lines all) (subst (IsPrinting start (g.K.Sink.taken c.print_total.new.out) _) texts printed_all) text was)
      (c.print_total.ensures.ok start (cone_texts 0 all) printing);
  cut =
      let here = c.loop-number.invariant in
      let all = map printed_as c.args.cones.now in
      let start = g.K.Sink.taken c.args.out.now in
      let enough : length all ≤ c.loop-number.number = omega (arith, c.loop-number-test.false, length-map c.args.cones.now printed_as) in
      let whole = take_all c.loop-number.number all enough in
      let printing = subst (λ (ps : List Printed). IsPrinting start (g.K.Sink.taken c.loop-number.out) c.loop-number.page (cone_texts 0 ps)) whole here.printing in
      let texts = lines_are all c.loop-number.events c.loop-number.reports (here.events ∙ ap (λ (ps : List Printed). sum_by (λ (p : Printed). p.events) ps) whole)
      (here.reports ∙ ap (λ (ps : List Printed). sum_by (λ (p : Printed). length p.reports) ps) whole) in
      on_err_weaker c.print_total.result (λ cut. subst (IsCut start (g.K.Sink.taken c.print_total.new.out)) texts cut) (c.print_total.ensures.cut start (cone_texts 0 all) printing);
  cause =
      let here = c.loop-number.invariant in
      let cause = c.print_total.ensures.cause in
      record {
        never_falls = omega (arith, here.falls, cause.never_falls);
        failed = λ failed. risen_since (g.K.Faulty.faults c.args.out.now) (g.K.Faulty.faults c.loop-number.out) (g.K.Faulty.faults c.print_total.new.out) here.falls cause.never_falls
            (cause.failed failed);
      };
  mark = c.print_total.ensures.mark ∙ c.loop-number.invariant.marked;
}

pub returns-in_err-print_cone-clause-mark : goal.returns-in_err-print_cone-clause-mark
returns-in_err-print_cone-clause-mark g c = c.print_cone.ensures.mark ∙ c.loop-number.invariant.marked

pub overflow_add-events : goal.overflow_add-events
overflow_add-events g c = omega (arith, c.loop-number.invariant.few_events, c.numbers_of-events_here.ensures.few_events, c.loop-number-test.true, c.requires.few)

pub overflow_add-reports : goal.overflow_add-reports
overflow_add-reports g c = omega (arith, c.loop-number.invariant.few_reports, c.numbers_of-events_here.ensures.few_reports, c.loop-number-test.true, c.requires.few)
