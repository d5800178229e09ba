use Rattle.std.proofs.Common.{◌≡◌, ◌≤◌, length, take, vec_capacity}
use Rattle.lert_worker.specs.crew.Ready.{ends_of}
use Rattle.lert_worker.proofs.crew.reading.list_ends.Given as goal

abbrev pub invariant-loop-by : goal.invariant-loop-by
invariant-loop-by g l = record {
  ends_are : l.ends.items ≡ take l.by (ends_of l.crew);
  room : length l.crew ≤ vec_capacity l.ends;
}
