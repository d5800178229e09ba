use Rattle.std.proofs.Common.{◌≡◌, ◌+◌, ◌++◌, List, map, take}
use Rattle.lert_levels.specs.Sources.{Source, of_bin, placed_at, AreBegun}
use Rattle.lert_levels.proofs.reading.read_row.Given as goal

-- the frames so far are begun
abbrev pub invariant-loop-bin : goal.invariant-loop-bin
invariant-loop-bin g l = record {
  begun : (before : List Source) → AreBegun l.fn.streams.settings l.fn.streams.version before l.fn.streams.bins →
      AreBegun l.fn.streams.settings l.fn.streams.version (before ++ map of_bin (map (placed_at l.level) (take l.bin-index l.row))) l.streams.bins;
  settings : l.streams.settings ≡ l.fn.streams.settings;
  version : l.streams.version ≡ l.fn.streams.version;
  spare : l.streams.spare + l.bin-index ≡ l.fn.streams.spare;
}
