use Rattle.std.proofs.Common.{◌≡◌, ◌≤◌, ◌+◌, ◌*◌, ◌++◌, List, map, take}
use Rattle.lert_levels.specs.Sources.{Source, of_bin, placed, AreBegun}
use Rattle.lert_levels.proofs.reading.read_rows.Given as goal

-- the levels so far are begun
abbrev pub invariant-loop-lower : goal.invariant-loop-lower
invariant-loop-lower g l = record {
  begun : (before : List Source) → AreBegun l.settings l.fn.streams.version before l.fn.streams.bins →
      AreBegun l.settings l.fn.streams.version (before ++ map of_bin (placed 1 (take l.lower l.rows))) l.streams.bins;
  settings : l.streams.settings ≡ l.settings;
  version : l.streams.version ≡ l.fn.streams.version;
  spare : l.fn.streams.spare ≤ l.streams.spare + l.settings.bins * l.lower;
}
