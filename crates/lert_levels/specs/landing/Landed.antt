-- What a landing took, and what of it stands in the file.
use Rattle.std.specs.Prelude.{ℕ, ◌≡◌, ◌+◌, ◌<◌, ◌≤◌, List}
use Rattle.lert_bay.specs.{declared.bay.TheConstants.FRAMES, Files.IfTold, Kept.{Bays, KeepsBay}}
use Rattle.lert_frames.specs.{Place.tail_limit, Writing.IsWriting}
use Rattle.lert_levels.specs.{rows.Landing.{IsApart, KeepsRest}, declared.landing.landing.Landing.Landing, landing.Whole.{whole, AreUpTo}}
use Rattle.lert_spec.specs.{declared.numbers.Numbers.Numbers, declared.piece.Piece.Piece, Edges.span, Table.{cost, costs}}

-- the table of the sums of its pieces
abbrev pub taken : Landing → List Piece
taken l = whole l.writer.put l.sum

-- what was put of it stands in this file of frames, or in the writer
abbrev pub IsLanding : Landing → List ℕ → Type 0
IsLanding l file = IsWriting l.writer file

-- a landing of a level, and one that is of a version too
pub record IsOfLevel (s : Numbers) (level : ℕ) (l : Landing) : Type 0 where
  pub settings : l.writer.settings ≡ s
  pub level_is : l.writer.level ≡ level

pub record IsLandingOf (s : Numbers) (version level : ℕ) (l : Landing) : Type 0 where
  pub settings : l.writer.settings ≡ s
  pub version_is : l.writer.version ≡ version
  pub level_is : l.writer.level ≡ level

-- a piece may come: no tail so far is greater, and the bin has room for what its count costs
pub record CanTake (l : Landing) (piece : Piece) : Type 0 where
  pub ascends : AreUpTo piece.tail (taken l)
  pub below : piece.tail < tail_limit l.writer.settings
  pub some : 1 ≤ piece.count
  pub fits : costs l.writer.version (taken l) + cost l.writer.version piece.count ≤ span l.writer.settings l.writer.level

-- the same frame lands
pub record SameLanding (old new : Landing) : Type 0 where
  pub settings : new.writer.settings ≡ old.writer.settings
  pub version : new.writer.version ≡ old.writer.version
  pub level : new.writer.level ≡ old.writer.level
  pub frame : new.frame ≡ old.frame

-- whatever a landing's calls answered: they wrote into its frame's place alone, and what it put stands in the file
pub record Lands {B : Type 0} (bays : Bays B) (old new : Landing) (before after : B) (Failed : Type 0) : Type 0 where
  pub same : SameLanding old new
  pub landing : IfTold (bays.files before) (λ seen. IsLanding old (seen FRAMES) → IfTold (bays.files after) (λ later. IsLanding new (later FRAMES)))
  pub rest : KeepsRest bays (IsApart old.writer.settings old.writer.version old.writer.level old.frame) before after
  pub kept : KeepsBay bays before after Failed
