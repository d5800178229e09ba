use Rattle.lert_bay.specs.Kept.{seen_by}
use Rattle.std.proofs.Common.{◌≡◌, ℕ, ◌+◌, ◌-◌, ◌≤◌, length}
use Rattle.lert_bay.{specs.declared.bay.TheConstants.FRAMES, specs.Files.IfTold, specs.Kept.Bays, specs.Settled.part}
use Rattle.lert_frames.{specs.Calls.{Writes}, specs.Outlet.{IsOut, size_of}, specs.declared.outlet.Outlet.Outlet}
use Rattle.lert_frames.proofs.moving.move_down.Given as goal

-- so many bytes are moved, and those behind them are as they were
pub record IsMoved {B : Type 0} (bays : Bays B) (from to count moved : ℕ) (before after : B) (outlet : Outlet) : Type 0 where
  pub some : moved ≤ count
  pub empty : outlet.len ≡ 0
  pub place : outlet.at ≡ to + moved
  pub size : size_of outlet ≡ 8192
  pub writes : Writes bays to (to + moved) before after ⊥
  pub out : IfTold (bays.files before) (λ seen. IfTold (bays.files after) (λ later. from + count ≤ length (seen FRAMES) →
      IsOut to (part (seen FRAMES) from (from + moved)) (later FRAMES) outlet))

abbrev pub invariant-loop-moved : goal.invariant-loop-moved
invariant-loop-moved g l = IsMoved (seen_by g.B.Faulty g.B.Bay) l.from l.to l.count l.moved l.initial.bay l.bay l.outlet

abbrev pub decreases-loop-moved : goal.decreases-loop-moved
decreases-loop-moved g l = l.count - l.moved
