use Rattle.std.proofs.Common.{◌≤◌, ℕ, ◌-◌, max}
use Rattle.lert_bay.specs.Kept.{Bays, seen_by}
use Rattle.lert_frames.{specs.Writing.{Proceeds, Stays}, specs.declared.writer.FrameWriter.FrameWriter}
use Rattle.lert_frames.proofs.writer.FrameWriter.reach.Given as goal

-- blocks were ended up to this one at most
pub record IsOnWay {B : Type 0} (bays : Bays B) (block : ℕ) (old new : FrameWriter) (before after : B) : Type 0 where
  pub proceeds : Proceeds bays old new before after ⊥
  pub stays : Stays bays old new before after
  pub from : old.number ≤ new.number
  pub upto : new.number ≤ max old.number block

abbrev pub invariant-loop-self : goal.invariant-loop-self
invariant-loop-self g l = IsOnWay (seen_by g.B.Faulty g.B.Bay) l.block l.initial.self l.self l.initial.bay l.bay

abbrev pub decreases-loop-self : goal.decreases-loop-self
decreases-loop-self g l = l.block - l.self.number
