use Rattle.std.proofs.Common.{◌≡◌, ◌≤◌, ◌+◌, length, vec_capacity}
use Rattle.lert_worker.specs.crew.Passes.{AreHired, IsPassFrom, IsQuiet}
use Rattle.lert_worker.proofs.crew.hiring.make_crew.Given as goal

abbrev pub invariant-loop-number : goal.invariant-loop-number
invariant-loop-number g l = record {
  low : 1 ≤ l.number;
  pass_is : IsPassFrom l.fleet 0 l.number l.pass;
  quiet : IsQuiet l.pass;
  total : length l.crew.items + l.number ≡ l.workers;
  hired : AreHired l.fleet l.settings l.workers l.crew.items;
  room : l.workers ≤ vec_capacity l.crew;
}
