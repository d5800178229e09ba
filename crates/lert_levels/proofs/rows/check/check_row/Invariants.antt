use Rattle.std.proofs.Common.{◌≡◌, Some, None, map, take}
use Rattle.lert_bay.specs.{declared.bay.TheConstants.FRAMES, Files.Files, Kept.{Bays, OnlyReads, seen_by}}
use Rattle.lert_levels.specs.rows.Checked.{IsWeightOf, RowStands, row_total, row_width, bin_left, first_of}
use Rattle.lert_levels.proofs.rows.check.check_row.Given as goal

abbrev pub bays : (g : goal.Over) → Bays g.row.B.Denot
bays g = seen_by g.B.Faulty g.B.Bay

-- the bins so far stand, the sum is that of their counts, and nothing was changed
abbrev pub invariant-loop-bin : goal.invariant-loop-bin
invariant-loop-bin g l = record {
  stand : (seen : Files) → g.B.Bay.files l.fn.bay ≡ Some seen → RowStands l.fn.reader.settings l.version (seen FRAMES) l.level (take l.bin-index l.row);
  whole : (seen : Files) → g.B.Bay.files l.fn.bay ≡ Some seen →
      first_of (map (bin_left l.fn.reader.settings l.version (seen FRAMES) l.level) (take l.bin-index l.row)) ≡ None;
  between : IsWeightOf l.version (row_width (take l.bin-index l.row)) l.sum;
  sum : (seen : Files) → g.B.Bay.files l.fn.bay ≡ Some seen → l.sum ≡ row_total l.fn.reader.settings l.version (seen FRAMES) l.level (take l.bin-index l.row);
  settings : l.reader.settings ≡ l.fn.reader.settings;
  only_reads : OnlyReads (bays g) l.fn.bay l.bay ⊥;
}
