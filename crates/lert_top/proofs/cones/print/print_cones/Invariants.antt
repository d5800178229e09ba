use Rattle.std.proofs.Common.{◌≡◌, ◌*◌, ◌≤◌, length, map, sum_by, take}
use Rattle.lert_spec.specs.Lines.{Printed, cone_texts}
use Rattle.lert_text.specs.Page.{IsPrinting}
use Rattle.lert_top.specs.cones.Print.{printed_as}
use Rattle.lert_top.proofs.cones.print.print_cones.Given as goal

-- the cones so far were printed and summed up
abbrev pub invariant-loop-number : goal.invariant-loop-number
invariant-loop-number g l = record {
  printing : IsPrinting (g.K.Sink.taken l.fn.out) (g.K.Sink.taken l.out) l.page (cone_texts 0 (take l.number (map printed_as l.cones)));
  events : l.events ≡ sum_by (λ (p : Printed). p.events) (take l.number (map printed_as l.cones));
  reports : l.reports ≡ sum_by (λ (p : Printed). length p.reports) (take l.number (map printed_as l.cones));
  few_events : l.events ≤ l.number * 4294967295;
  few_reports : l.reports ≤ l.number * 4294967295;
  falls : g.K.Faulty.faults l.fn.out ≤ g.K.Faulty.faults l.out;
  marked : g.K.Faulty.mark l.out ≡ g.K.Faulty.mark l.fn.out;
}
