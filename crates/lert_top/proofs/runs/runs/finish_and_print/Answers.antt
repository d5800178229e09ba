use Rattle.std.proofs.Common.{◌≡◌, ◌≤◌, ◌++◌, List, length, map, Some, refl, ap, sym, ◌∙◌, subst}
use Rattle.lert_cone.specs.Stands.{Standing}
use Rattle.lert_spec.specs.{declared.numbers.Numbers.Numbers, Lines.lines}
use Rattle.lert_top.proofs.{cones.StatusLaws.{few_cones, few_numbers}, cones.ClosedLaws.{finished_in_each, stopped_not_done}}
use Rattle.lert_top.proofs.cones.EndLaws.{ends_later, finished_closed, finished_ended, finished_printable, stopped_ended, stopped_shows}
use Rattle.lert_top.specs.{cones.Finish.{end_cut, end_done}, cones.Print.{ArePrintable, printed_as}}
use Rattle.lert_io.specs.Reading.{IfTold}
use Rattle.lert_text.specs.Page.{IsCut}
use Rattle.lert_top.proofs.runs.runs.finish_and_print.Goals as goal

pub finish_cones-requires-clause-few : goal.finish_cones-requires-clause-few
finish_cones-requires-clause-few g c =
    let bits = subst (λ (t : Numbers). t.cone_bits ≤ 8) c.numbers-valid.ensures.value c.numbers-valid.ensures.valid.limits.cone_bits_to in
    few_numbers (length c.args.cones.now.items) (few_cones c.args.settings.now (length c.args.cones.now.items) bits c.requires.number)

pub print_cones-requires : goal.print_cones-requires
print_cones-requires g c = record {
  empty = c.requires.empty;
  few =
      let bits = subst (λ (t : Numbers). t.cone_bits ≤ 8) c.numbers-valid.ensures.value c.numbers-valid.ensures.valid.limits.cone_bits_to in
      few_cones c.args.settings.now (length c.deref.result.now) bits
      (ap (λ (cones : List (Standing g.row.B.Denot)). length cones) c.deref.ensures.value ∙ (c.in_default.ensures.finished.number_is ∙ c.requires.number));
  printable =
      subst (ArePrintable c.args.settings.now) (sym c.deref.ensures.value)
      (finished_printable g.B.Bay.files g.B.Bay.leaves g.B.Faulty.faults g.B.Faulty.mark c.args.cones.now.items c.finish_cones.new.cones.items c.args.settings.now c.requires.weaving.0
      c.requires.weaving.1.0 c.requires.weaving.1.1 c.requires.number c.in_default.ensures.finished);
}

pub finish_cones-requires-clause-running : goal.finish_cones-requires-clause-running
finish_cones-requires-clause-running g c = λ number cone is. (c.requires.weaving.1.1 number cone is).state_is

pub returns-in-Err : goal.returns-in-Err
returns-in-Err g c = record {
  later =
      let stopped = c.in-Err.ensures.stopped in
      ends_later g.B.Bay.files g.B.Bay.leaves g.B.Faulty.faults g.B.Faulty.mark c.args.cones.now.items c.finish_cones.new.cones.items stopped.others.number_is
      (stopped_ended g.B.Bay.files g.B.Bay.leaves g.B.Faulty.faults g.B.Faulty.mark c.args.cones.now.items c.finish_cones.new.cones.items c.in-Err.status stopped);
  shows = λ workers traces weaving fits.
      stopped_shows g.B.Bay.files g.B.Bay.leaves g.B.Faulty.faults g.B.Faulty.mark c.args.cones.now.items c.finish_cones.new.cones.items c.args.settings.now workers traces weaving
      g.K.Sink.taken g.K.Faulty.faults c.args.out.now c.in-Err.status c.in-Err.ensures.stopped;
  closed = λ is.
      let stopped = c.in-Err.ensures.stopped in
      absurd (stopped_not_done stopped.cone stopped.fault (sym stopped.status_is ∙ is));
}

pub returns-in-Ok : goal.returns-in-Ok
returns-in-Ok g c = record {
  later =
      let are = c.in_default.ensures.finished in
      ends_later g.B.Bay.files g.B.Bay.leaves g.B.Faulty.faults g.B.Faulty.mark c.args.cones.now.items c.finish_cones.new.cones.items are.number_is
      (finished_ended g.B.Bay.files g.B.Bay.leaves g.B.Faulty.faults g.B.Faulty.mark c.args.cones.now.items c.finish_cones.new.cones.items are);
  shows = λ workers traces weaving fits.
      end_done
      (finished_closed g.B.Bay.files g.B.Bay.leaves g.B.Faulty.faults g.B.Faulty.mark c.args.cones.now.items c.finish_cones.new.cones.items c.args.settings.now workers traces weaving
      c.requires.number c.in_default.ensures.finished fits (λ all. IfTold (g.K.Sink.taken c.args.out.now) (λ text. g.K.Sink.taken c.print_cones.new.out ≡ Some (text ++ all)))
      (λ text had. c.in-Ok.ensures.ok text had ∙ ap (λ (xs : List (Standing g.row.B.Denot)). Some (text ++ lines (map printed_as xs))) c.deref.ensures.value));
  closed = λ is.
      finished_in_each g.B.Bay.files g.B.Bay.leaves g.B.Faulty.faults g.B.Faulty.mark c.args.settings.now c.requires.weaving.0 c.requires.weaving.1.0 c.args.cones.now.items
      c.finish_cones.new.cones.items c.requires.weaving.1.1 c.in_default.ensures.finished;
}

pub returns-in-Err-print_cones : goal.returns-in-Err-print_cones
returns-in-Err-print_cones g c = record {
  later =
      let are = c.in_default.ensures.finished in
      ends_later g.B.Bay.files g.B.Bay.leaves g.B.Faulty.faults g.B.Faulty.mark c.args.cones.now.items c.finish_cones.new.cones.items are.number_is
      (finished_ended g.B.Bay.files g.B.Bay.leaves g.B.Faulty.faults g.B.Faulty.mark c.args.cones.now.items c.finish_cones.new.cones.items are);
  shows = λ workers traces weaving fits.
      let start = g.K.Sink.taken c.args.out.now in
      let end = g.K.Sink.taken c.print_cones.new.out in
      end_cut (c.in-Err-print_cones.ensures.cause.failed refl)
      (finished_closed g.B.Bay.files g.B.Bay.leaves g.B.Faulty.faults g.B.Faulty.mark c.args.cones.now.items c.finish_cones.new.cones.items c.args.settings.now workers traces weaving
      c.requires.number c.in_default.ensures.finished fits (IsCut start end)
      (subst (λ (xs : List (Standing g.row.B.Denot)). IsCut start end (lines (map printed_as xs))) c.deref.ensures.value c.in-Err-print_cones.ensures.cut));
  closed = λ is.
      finished_in_each g.B.Bay.files g.B.Bay.leaves g.B.Faulty.faults g.B.Faulty.mark c.args.settings.now c.requires.weaving.0 c.requires.weaving.1.0 c.args.cones.now.items
      c.finish_cones.new.cones.items c.requires.weaving.1.1 c.in_default.ensures.finished;
}
