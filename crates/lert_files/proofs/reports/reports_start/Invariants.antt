use Rattle.std.proofs.Common.{◌≡◌, ◌+◌, ◌-◌, ◌*◌, ◌≤◌}
use Rattle.lert_reports.specs.LogText.{level_place}
use Rattle.lert_files.proofs.reports.reports_start.Given as goal

-- it stands at the next level
abbrev pub invariant-loop-level : goal.invariant-loop-level
invariant-loop-level l = record {
  some : 1 ≤ l.level;
  place_is : l.place ≡ level_place l.settings l.n0 l.level;
  below : l.place ≤ 25 + (l.level - 1) * 4294967298;
}
