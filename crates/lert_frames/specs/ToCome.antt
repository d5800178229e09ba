-- What is to come of a frame's reader, by the file.
use Rattle.std.specs.Prelude.{◌≡◌, ℕ, ◌+◌, ◌≤◌, List, [], ◌∷◌, ◌++◌, drop, Option, Some, None, MatchOption}
use Rattle.lert_bay.specs.declared.bay.TheConstants.{FRAMES}
use Rattle.lert_bay.specs.Files.{Files}
use Rattle.lert_blocks.specs.Frame.{blocks_len}
use Rattle.lert_blocks.specs.Walk.{nothing}
use Rattle.lert_frames.specs.Decoded.{decoder_found, decoder_end}
use Rattle.lert_frames.specs.Place.{block_count}
use Rattle.lert_frames.specs.Reading.{verdict, IsReached}
use Rattle.lert_frames.specs.Window.{IsRead, place_of}
use Rattle.lert_frames.specs.declared.reader.FrameReader.{FrameReader}
use Rattle.lert_spec.specs.declared.piece.Piece.{Piece}

-- where the frame leaves its text, from where the reader stands
abbrev pub known_or : Option ℕ → Option ℕ → Option ℕ
known_or (Some at) later = Some at
known_or None later = later

abbrev pub left_of : FrameReader → List ℕ → Option ℕ
left_of r file = known_or r.fault (verdict r.version r.sum r.place (decoder_found r.decoder file))

-- the pieces that are decoded and weren't given
abbrev pub ready_of : FrameReader → List Piece
ready_of r = drop r.given r.pieces.items

-- the pieces to come, where it leaves it nowhere
abbrev pub pieces_of : FrameReader → List ℕ → List Piece
pieces_of r file = ready_of r ++ (decoder_found r.decoder file).pieces

abbrev pub if_whole : Option ℕ → List Piece → Option (List Piece)
if_whole None pieces = Some pieces
if_whole (Some at) pieces = None

-- and where the bay tells its files
abbrev pub told_of : Option Files → FrameReader → Option (List Piece)
told_of None r = None
told_of (Some seen) r = if_whole (left_of r (seen FRAMES)) (pieces_of r (seen FRAMES))

-- where it leaves its text, where the bay tells its files
abbrev pub Breaks : Option Files → FrameReader → ℕ → Type 0
Breaks told r at = (seen : Files) → told ≡ Some seen → left_of r (seen FRAMES) ≡ Some at

-- ---- what calls keep

-- the frame is the same, and nothing was given
pub record IsSameFrame (before after : FrameReader) : Type 0 where
  pub settings : after.settings ≡ before.settings
  pub version : after.version ≡ before.version
  pub level : after.level ≡ before.level
  pub place : after.place ≡ before.place
  pub wide : after.wide ≡ before.wide
  pub gave : after.gave ≡ before.gave

-- what is to come of a reader is to come of it later
pub record IsSameToCome (before after : FrameReader) (file : List ℕ) : Type 0 where
  pub left : left_of after file ≡ left_of before file
  pub pieces : left_of before file ≡ None → pieces_of after file ≡ pieces_of before file

-- the first piece that was ready is given, if one was
pub record HandsOut (before after : FrameReader) (piece : Option Piece) : Type 0 where
  pub settings : after.settings ≡ before.settings
  pub version : after.version ≡ before.version
  pub level : after.level ≡ before.level
  pub place : after.place ≡ before.place
  pub wide : after.wide ≡ before.wide
  pub sum : after.sum ≡ before.sum
  pub decoder : after.decoder ≡ before.decoder
  pub fault : after.fault ≡ before.fault
  pub given : MatchOption piece
      ((ready_of before ≡ []) × (ready_of after ≡ []) × (after.gave ≡ before.gave))
      (λ p. (ready_of before ≡ p ∷ ready_of after) × (after.gave ≡ before.gave ++ p ∷ []))

-- the frame is at its end, whatever the file says there
pub record IsOver (r : FrameReader) : Type 0 where
  pub fault : r.fault ≡ None
  pub sum : IsReached r.sum
  pub found : (file : List ℕ) → decoder_found r.decoder file ≡ nothing
  pub end : (file : List ℕ) → decoder_end r.decoder file ≤ r.decoder.window.at

-- all that was read from the frame's place on are bytes, and the frame's end is where it was
pub record IsWithin (r : FrameReader) (file : List ℕ) : Type 0 where
  pub read : IsRead r.decoder.window r.place file
  pub from : r.place ≤ place_of r.decoder.window
  pub end : decoder_end r.decoder file ≡ r.place + blocks_len (block_count r.settings r.level) (drop r.place file)
