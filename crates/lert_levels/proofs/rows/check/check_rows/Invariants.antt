use Rattle.std.proofs.Common.{ℕ, ◌≡◌, ◌+◌, ◌<◌, Some, None, [], take, get_or}
use Rattle.lert_bay.specs.{declared.bay.TheConstants.FRAMES, Files.Files, Kept.{Bays, OnlyReads, seen_by}}
use Rattle.lert_levels.specs.rows.Checked.{IsWeightOf, RowStands, rows_left, rows_total, rows_width}
use Rattle.lert_levels.proofs.rows.check.check_rows.Given as goal

abbrev pub bays : (g : goal.Over) → Bays g.row.B.Denot
bays g = seen_by g.B.Faulty g.B.Bay

-- the levels so far stand, the sum is that of their counts, and nothing was changed
abbrev pub invariant-loop-lower : goal.invariant-loop-lower
invariant-loop-lower g l = record {
  stand : (seen : Files) → g.B.Bay.files l.fn.bay ≡ Some seen → (k : ℕ) → k < l.lower → RowStands l.settings l.version (seen FRAMES) (k + 1) (get_or l.rows k []);
  whole : (seen : Files) → g.B.Bay.files l.fn.bay ≡ Some seen → rows_left l.settings l.version (seen FRAMES) (take l.lower l.rows) ≡ None;
  between : IsWeightOf l.version (rows_width (take l.lower l.rows)) l.sum;
  sum : (seen : Files) → g.B.Bay.files l.fn.bay ≡ Some seen → l.sum ≡ rows_total l.settings l.version (seen FRAMES) 1 (take l.lower l.rows);
  reader : l.reader.settings ≡ l.settings;
  only_reads : OnlyReads (bays g) l.fn.bay l.bay ⊥;
}
