use Rattle.lert_bay.specs.Kept.{seen_by}
use Rattle.std.proofs.Common.{◌≡◌, ◌-◌, ◌++◌, ◌↔◌, ℕ, List, Some}
use Rattle.lert_bay.{specs.Files.Files, specs.Kept.OnlyReads, specs.declared.bay.TheConstants.FRAMES}
use Rattle.lert_spec.specs.{Table.{costs, total}, declared.piece.Piece.Piece}
use Rattle.lert_frames.{specs.ToCome.{told_of, Breaks, IsWithin}}
use Rattle.lert_frames.proofs.reader.FrameReader.check.Given as goal

-- the frame is the same, it leaves its text where it did, and nothing was changed; the sum is that of the pieces given, and
-- these and those to come are all
abbrev pub invariant-loop-piece : goal.invariant-loop-piece
invariant-loop-piece g l = record {
  settings : l.self.settings ≡ l.initial.self.settings;
  version : l.self.version ≡ l.initial.self.version;
  level : l.self.level ≡ l.initial.self.level;
  place : l.self.place ≡ l.initial.self.place;
  wide : l.self.wide ≡ l.initial.self.wide;
  breaks : (at : ℕ) → Breaks (g.B.Bay.files l.bay) l.self at ↔ Breaks (g.B.Bay.files l.fn.bay) l.initial.self at;
  within : (seen : Files) → g.B.Bay.files l.fn.bay ≡ Some seen → IsWithin l.self (seen FRAMES);
  sum : l.sum ≡ total l.self.gave;
  coming : (all : List Piece) → told_of (g.B.Bay.files l.fn.bay) l.initial.self ≡ Some all →
      (rest : List Piece) × (all ≡ l.self.gave ++ rest) × (told_of (g.B.Bay.files l.bay) l.self ≡ Some rest);
  only_reads : OnlyReads (seen_by g.B.Faulty g.B.Bay) l.fn.bay l.bay ⊥;
}

-- each piece raises what those that were given cost
abbrev pub decreases-loop-piece : goal.decreases-loop-piece
decreases-loop-piece g l = l.self.wide - costs l.self.version l.self.gave
