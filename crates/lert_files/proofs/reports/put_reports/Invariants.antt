use Rattle.std.proofs.Common.{◌≡◌, ◌++◌}
use Rattle.lert_files.specs.Repeated.{reports_from, AreNewThere}
use Rattle.lert_files.proofs.reports.put_reports.Given as goal

-- the reports so far are in the store, and their keys are new
abbrev pub invariant-loop-number : goal.invariant-loop-number
invariant-loop-number g l = record {
  stored : l.store.reports ≡ l.fn.store.reports ++ reports_from l.payload l.start l.number;
  settings : l.store.settings ≡ l.fn.store.settings;
  fresh : AreNewThere l.fn.store.reports l.payload l.start l.number;
}
