use Rattle.std.proofs.Common.{◌≤◌, ◌++◌, List, length, map, Some, refl, ap, sym, ◌∙◌, subst}
use Rattle.lert_spec.specs.declared.numbers.Numbers.{Numbers}
use Rattle.lert_cone.specs.Stands.{Standing}
use Rattle.lert_top.proofs.{cones.StatusLaws.{few_cones, few_numbers}, drills.DrillLaws.{finished_fits, lines_same}, cones.EndLaws.finished_printable}
use Rattle.lert_top.specs.{drills.Drilled.{drill_cut, drill_done, drill_memory}, drills.Print.drilled_as, cones.Print.ArePrintable}
use Rattle.lert_text.specs.{Drill.drill_lines, Page.IsCut}
use Rattle.lert_top.proofs.drills.cones.finish_and_print.Goals as goal

pub finish_cones-requires-clause-few : goal.finish_cones-requires-clause-few
finish_cones-requires-clause-few g c =
    let bits = subst (λ (t : Numbers). t.cone_bits ≤ 8) c.numbers-valid.ensures.value c.numbers-valid.ensures.valid.limits.cone_bits_to in
    few_numbers (length c.args.cones.now.items) (few_cones c.args.settings.now (length c.args.cones.now.items) bits c.requires.number)

pub print_drill-requires : goal.print_drill-requires
print_drill-requires g c = record {
  empty = c.requires.empty;
  few =
      let bits = subst (λ (t : Numbers). t.cone_bits ≤ 8) c.numbers-valid.ensures.value c.numbers-valid.ensures.valid.limits.cone_bits_to in
      few_cones c.args.settings.now (length c.deref.result.now) bits
      (ap (λ (cones : List (Standing g.row.B.Denot)). length cones) c.deref.ensures.value ∙ (c.in_default.ensures.finished.number_is ∙ c.requires.number));
  printable =
      subst (ArePrintable c.args.settings.now) (sym c.deref.ensures.value)
      (finished_printable g.B.Bay.files g.B.Bay.leaves g.B.Faulty.faults g.B.Faulty.mark c.args.cones.now.items c.finish_cones.new.cones.items c.args.settings.now c.requires.weaving.0
      c.requires.weaving.1.0 c.requires.weaving.1.1 c.requires.number c.in_default.ensures.finished);
}

pub finish_cones-requires-clause-running : goal.finish_cones-requires-clause-running
finish_cones-requires-clause-running g c = λ number cone is. (c.requires.weaving.1.1 number cone is).state_is

pub returns-in-Ok-clause-shows : goal.returns-in-Ok-clause-shows
returns-in-Ok-clause-shows g c = λ workers seed events weaving.
    let files = g.B.Bay.files in
    let leaves = g.B.Bay.leaves in
    let faults = g.B.Faulty.faults in
    let mark = g.B.Faulty.mark in
    let s = c.args.settings.now in
    let old = c.args.cones.now.items in
    let new = c.finish_cones.new.cones.items in
    let are = c.in_default.ensures.finished in
    let same = lines_same files leaves faults mark s workers seed events old new weaving c.requires.number are c.requires.told in
    drill_done (finished_fits files leaves faults mark s workers seed events old new weaving c.requires.number are c.requires.told) (λ text had. c.in-Ok.ensures.ok text had
    ∙ (ap (λ (xs : List (Standing g.row.B.Denot)). Some (text ++ drill_lines (map drilled_as xs))) c.deref.ensures.value ∙ ap (λ all. Some (text ++ all)) same))

pub returns-in-Err-print_drill-clause-shows : goal.returns-in-Err-print_drill-clause-shows
returns-in-Err-print_drill-clause-shows g c = λ workers seed events weaving.
    let files = g.B.Bay.files in
    let leaves = g.B.Bay.leaves in
    let faults = g.B.Faulty.faults in
    let mark = g.B.Faulty.mark in
    let s = c.args.settings.now in
    let old = c.args.cones.now.items in
    let new = c.finish_cones.new.cones.items in
    let are = c.in_default.ensures.finished in
    let start = g.K.Sink.taken c.args.out.now in
    let end = g.K.Sink.taken c.print_drill.new.out in
    let same = lines_same files leaves faults mark s workers seed events old new weaving c.requires.number are c.requires.told in
    drill_cut (finished_fits files leaves faults mark s workers seed events old new weaving c.requires.number are c.requires.told) (c.in-Err-print_drill.ensures.cause.failed refl)
    (subst (IsCut start end) same (subst (λ (xs : List (Standing g.row.B.Denot)). IsCut start end (drill_lines (map drilled_as xs))) c.deref.ensures.value c.in-Err-print_drill.ensures.cut))

pub returns-in-Err : goal.returns-in-Err
returns-in-Err g c = record { number = c.in-Err.ensures.stopped.others.number_is; shows = λ workers seed events weaving. drill_memory refl }

pub returns-in-Ok-clause-number : goal.returns-in-Ok-clause-number
returns-in-Ok-clause-number g c = c.in_default.ensures.finished.number_is

pub returns-in-Err-print_drill-clause-number : goal.returns-in-Err-print_drill-clause-number
returns-in-Err-print_drill-clause-number g c = c.in_default.ensures.finished.number_is
