use Rattle.std.proofs.Common.{◌≡◌, ◌*◌, ◌≤◌, length, map, sum_by, take}
use Rattle.lert_top.specs.drills.Print.{drilled_as}
use Rattle.lert_text.specs.{Drill.{Drilled, drill_texts}, Page.IsPrinting}
use Rattle.lert_top.proofs.drills.print.print_drill.Given as goal

-- the cones so far were printed and summed up
abbrev pub invariant-loop-number : goal.invariant-loop-number
invariant-loop-number g l = record {
  printing : IsPrinting (g.K.Sink.taken l.fn.out) (g.K.Sink.taken l.out) l.page (drill_texts 0 (take l.number (map drilled_as l.cones)));
  events : l.events ≡ sum_by (λ (one : Drilled). one.events) (take l.number (map drilled_as l.cones));
  reports : l.reports ≡ sum_by (λ (one : Drilled). length one.keys) (take l.number (map drilled_as l.cones));
  few_events : l.events ≤ l.number * 4294967295;
  few_reports : l.reports ≤ l.number * 4294967295;
  falls : g.K.Faulty.faults l.fn.out ≤ g.K.Faulty.faults l.out;
}
