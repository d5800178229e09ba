use Rattle.std.proofs.Common.{◌≡◌, ◌+◌, ◌-◌, ◌≤◌, length, drop}
use Rattle.lert_spec.specs.Agreed.{agreed}
use Rattle.lert_spec.proofs.common.agreed.Given as goal

-- the first `same` bytes are those that the texts have in common, and the rest decides
abbrev pub invariant-loop-same : goal.invariant-loop-same
invariant-loop-same l = record {
  in_text : l.same ≤ length l.text;
  in_bytes : l.same ≤ length l.bytes;
  rest : agreed l.text l.bytes ≡ l.same + agreed (drop l.same l.text) (drop l.same l.bytes);
}

abbrev pub decreases-loop-same : goal.decreases-loop-same
decreases-loop-same l = length l.text - l.same
