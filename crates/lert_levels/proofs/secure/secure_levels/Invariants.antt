use Rattle.std.proofs.Common.{◌≡◌, ◌≤◌, Some, take, length}
use Rattle.lert_bay.specs.{declared.bay.TheConstants.FRAMES, Files.Files, Kept.{Bays, OnlyReads, seen_by}}
use Rattle.lert_levels.specs.Sources.{AreSecure}
use Rattle.lert_levels.proofs.secure.secure_levels.Given as goal

abbrev pub bays : (g : goal.Over) → Bays g.row.B.Denot
bays g = seen_by g.B.Faulty g.B.Bay

-- the levels so far are secure, and nothing was changed
abbrev pub invariant-loop-lower : goal.invariant-loop-lower
invariant-loop-lower g l = record {
  secure : (seen : Files) → g.B.Bay.files l.fn.bay ≡ Some seen → l.len ≤ length (seen FRAMES) →
      AreSecure l.settings l.version (seen FRAMES) 1 (take l.lower l.rows);
  room : l.room ≡ l.settings;
  only_reads : OnlyReads (bays g) l.fn.bay l.bay ⊥;
}
