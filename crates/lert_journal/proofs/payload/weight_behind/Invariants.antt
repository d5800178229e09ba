use Rattle.std.proofs.Common.{◌≡◌, ◌-◌, ◌*◌, ◌≤◌, map}
use Rattle.std.specs.List.{range_with_len}
use Rattle.lert_spec.specs.Counts.{weighed, weight_of}
use Rattle.lert_journal.specs.Payload.{item_in}
use Rattle.lert_journal.proofs.payload.weight_behind.Given as goal

-- what the items from the first one on weigh so far, each at most 255
abbrev pub invariant-loop-n : goal.invariant-loop-n
invariant-loop-n l = record {
  sum : l.weight ≡ weight_of weighed (map (item_in l.version l.payload) (range_with_len l.first (l.n - l.first)));
  most : l.weight ≤ 255 * (l.n - l.first);
}
