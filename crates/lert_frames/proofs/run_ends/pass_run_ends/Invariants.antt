use Rattle.lert_bay.specs.Kept.{OnlyReads, seen_by}
use Rattle.lert_frames.{specs.Steps.PassesWords}
use Rattle.lert_frames.proofs.run_ends.pass_run_ends.Given as goal

abbrev pub invariant-loop-word : goal.invariant-loop-word
invariant-loop-word g l = record {
  passes : PassesWords (seen_by g.B.Faulty g.B.Bay) l.fn.bay l._word l.fn.ends l.ends l.found;
  reads : OnlyReads (seen_by g.B.Faulty g.B.Bay) l.fn.bay l.bay ⊥;
}
