use Rattle.lert_bay.specs.Kept.{seen_by}
use Rattle.std.proofs.Common.{◌≡◌, None, Some}
use Rattle.lert_bay.{specs.Files.Files, specs.Kept.OnlyReads, specs.declared.bay.TheConstants.FRAMES}
use Rattle.lert_frames.{specs.Decoded.work_of, specs.ToCome.{IsSameFrame, IsSameToCome, IsWithin}}
use Rattle.lert_frames.proofs.reader.FrameReader.fill.Given as goal

-- the same is to come, and nothing was changed
abbrev pub invariant-loop-self : goal.invariant-loop-self
invariant-loop-self g l = record {
  fault : l.self.fault ≡ None;
  given : l.self.given ≡ 0;
  frame : IsSameFrame l.fn.self l.self;
  to_come : (seen : Files) → g.B.Bay.files l.fn.bay ≡ Some seen → IsSameToCome l.fn.self l.self (seen FRAMES);
  within : (seen : Files) → g.B.Bay.files l.fn.bay ≡ Some seen → IsWithin l.fn.self (seen FRAMES) → IsWithin l.self (seen FRAMES);
  only_reads : OnlyReads (seen_by g.B.Faulty g.B.Bay) l.fn.bay l.bay ⊥;
}

abbrev pub decreases-loop-self : goal.decreases-loop-self
decreases-loop-self g l = work_of l.self.decoder
