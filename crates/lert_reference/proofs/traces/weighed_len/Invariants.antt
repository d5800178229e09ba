use Rattle.std.proofs.Common.{◌-◌, ◌<◌, ◌≤◌, ℕ}
use Rattle.lert_trace.specs.Trace.{item_at, version_in}
use Rattle.lert_reference.proofs.traces.weighed_len.Given as goal

-- the items so far weigh something
abbrev pub invariant-loop-n : goal.invariant-loop-n
invariant-loop-n l = record {
  within : l.n ≤ l.all;
  weighed : (k : ℕ) → k < l.n → 1 ≤ (item_at (version_in l.bytes) l.bytes k).weight;
}

abbrev pub decreases-loop-n : goal.decreases-loop-n
decreases-loop-n l = l.all - l.n
