use Rattle.std.proofs.Common.{◌≡◌, ◌≤◌, Some, map, take, length}
use Rattle.lert_bay.specs.{declared.bay.TheConstants.FRAMES, Files.Files, Kept.{Bays, OnlyReads, seen_by}}
use Rattle.lert_levels.specs.Sources.{of_bin, placed_at, AllOf, IsSecure}
use Rattle.lert_levels.proofs.secure.secure_row.Given as goal

abbrev pub bays : (g : goal.Over) → Bays g.row.B.Denot
bays g = seen_by g.B.Faulty g.B.Bay

-- the frames so far are secure, and nothing was changed
abbrev pub invariant-loop-bin : goal.invariant-loop-bin
invariant-loop-bin g l = record {
  secure : (seen : Files) → g.B.Bay.files l.fn.bay ≡ Some seen → l.len ≤ length (seen FRAMES) →
      AllOf (IsSecure l.fn.room l.version (seen FRAMES)) (map of_bin (map (placed_at l.level) (take l.bin-index l.row)));
  room : l.room ≡ l.fn.room;
  only_reads : OnlyReads (bays g) l.fn.bay l.bay ⊥;
}
