use Rattle.std.proofs.Common.{◌≡◌, ℕ, ◌≤◌, List, ◌++◌, length, take, Option}
use Rattle.std.specs.List.{flat_map}
use Rattle.lert_spec.specs.Lines.{cone_line, report_line}
use Rattle.lert_text.specs.Page.{IsPrinting}
use Rattle.lert_text.proofs.print.print_cone.Given as goal

-- the cone's line and the reports so far were printed
abbrev pub invariant-loop-report : goal.invariant-loop-report
invariant-loop-report g l = record {
  printing : (start : Option (List ℕ)) (text : List ℕ) → IsPrinting start (g.K.Sink.taken l.fn.out) l.fn.page text →
      IsPrinting start (g.K.Sink.taken l.out) l.page (text ++ (cone_line l.cone l.events (length l.reports) l.closed ++ flat_map report_line (take l.report-index l.reports)));
  falls : g.K.Faulty.faults l.fn.out ≤ g.K.Faulty.faults l.out;
  marked : g.K.Faulty.mark l.out ≡ g.K.Faulty.mark l.fn.out;
}
