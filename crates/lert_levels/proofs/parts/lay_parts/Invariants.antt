use Rattle.std.proofs.Common.{◌≡◌, ◌+◌, ◌*◌, ◌≤◌, vec_capacity}
use Rattle.lert_levels.specs.Parts.{streams_to, oldest_stream, ArePartsOf}
use Rattle.lert_levels.proofs.parts.lay_parts.Given as goal

-- the parts of the levels so far
abbrev pub invariant-loop-lower : goal.invariant-loop-lower
invariant-loop-lower l = record {
  parts : ArePartsOf l.settings l.m l.young l.rows (streams_to l.young l.rows l.lower) l.lower l.parts.items;
  oldest : l.oldest ≡ oldest_stream l.young l.rows l.lower;
  few : streams_to l.young l.rows l.lower ≤ (l.lower + 1) * l.settings.bins;
  room : vec_capacity l.fn.parts ≤ vec_capacity l.parts;
}
