use Rattle.std.proofs.Common.{◌≡◌, ◌+◌, ◌≤◌, ◌++◌, take, sum_by}
use Rattle.std.specs.List.{flat_map}
use Rattle.lert_text.specs.{Parts.{part_of, most_bytes}, StatusLine.part_text}
use Rattle.lert_text.proofs.status.push_parts.Given as goal

-- the parts so far were put
abbrev pub invariant-loop-part : goal.invariant-loop-part
invariant-loop-part l = record {
  within : l.end ≤ l.at + sum_by (λ part. most_bytes (part_of part)) (take l.part-index l.parts);
  text : take l.end l.into ≡ take l.at l.fn.into ++ flat_map (λ part. part_text l.fields (part_of part)) (take l.part-index l.parts);
}
