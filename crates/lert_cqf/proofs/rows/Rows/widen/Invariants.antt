use Rattle.std.proofs.Common.{◌≡◌, ℕ}
use Rattle.lert_cqf.specs.Around.{IsOpening, IsWidened}
use Rattle.lert_cqf.proofs.rows.Rows.widen.Given as goal

abbrev pub invariant-loop-count : goal.invariant-loop-count
invariant-loop-count l = record {
  widened : (n homes : ℕ) (o : IsOpening n homes l.home l.place l.last l.extra l.initial.self.slots.items l.initial.self.run_ends l.initial.self.used l.initial.self.spill)
      → IsWidened n homes l.home l.count o.before o.after o.front o.back l.self.slots.items l.self.run_ends l.self.used l.self.spill;
  occupied : l.self.occupied ≡ l.initial.self.occupied;
}
