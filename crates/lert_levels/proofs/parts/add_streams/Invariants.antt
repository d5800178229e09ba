use Rattle.std.proofs.Common.{◌≡◌, ◌++◌, ◌≤◌, replicate, None, vec_capacity}
use Rattle.lert_levels.proofs.parts.add_streams.Given as goal

abbrev pub invariant-loop : goal.invariant-loop
invariant-loop l = record {
  parts : l.parts.items ≡ l.fn.parts.items ++ replicate l.counter None;
  room : vec_capacity l.fn.parts ≤ vec_capacity l.parts;
}
