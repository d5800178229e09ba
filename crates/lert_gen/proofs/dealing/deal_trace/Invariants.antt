use Rattle.std.proofs.Common.{◌≡◌, ◌≤◌}
use Rattle.lert_gen.specs.Generated.{trace_of}
use Rattle.lert_gen.proofs.DealLaws.{fourths}
use Rattle.lert_gen.proofs.dealing.deal_trace.Given as goal

-- the keys so far stand behind the header
abbrev pub invariant-loop-number : goal.invariant-loop-number
invariant-loop-number l = record {
  within : l.number ≤ l.count;
  text : l.bytes.items ≡ trace_of (fourths l.seed l.trace l.number);
}
