use Rattle.std.proofs.Common.{◌≤◌, ◌*◌}
use Rattle.lert_blocks.specs.Frame.{numbers_in}
use Rattle.lert_frames.specs.Steps.{AreCounted}
use Rattle.lert_frames.proofs.run_ends.run_ends_of.Given as goal

abbrev pub invariant-loop-word : goal.invariant-loop-word
invariant-loop-word l = record {
  counted : AreCounted (numbers_in l.word l.bytes) l.found;
  few : l.found.set ≤ 64 * l.word;
}
