-- What a writer of a frame was given, and where it stands.
use Rattle.std.specs.Prelude.{◌≡◌, ℕ, ◌+◌, ◌*◌, ◌/◌, ◌≤◌, ◌^◌, List, [], ◌∷◌, ◌++◌}
use Rattle.lert_bay.specs.declared.bay.TheConstants.{FRAMES}
use Rattle.lert_bay.specs.Files.{IfTold}
use Rattle.lert_bay.specs.Kept.{Bays}
use Rattle.lert_blocks.specs.Text.{quotient_of, pieces_in, blocks_text}
use Rattle.lert_frames.specs.declared.writer.FrameWriter.{FrameWriter}
use Rattle.lert_frames.specs.Calls.{Writes}
use Rattle.lert_frames.specs.Frame.{HoldsFrame}
use Rattle.lert_frames.specs.Place.{frame_len, tail_limit}
use Rattle.lert_frames.specs.Spilt.{IsBehind}
use Rattle.lert_spec.specs.declared.piece.Piece.{Piece}
use Rattle.lert_spec.specs.Table.{AscendsFrom}

-- the text of the blocks before the present one
abbrev pub text_before : FrameWriter → List ℕ
text_before w = blocks_text w.width 0 w.number w.put

-- the place behind that of the frame
abbrev pub end_of : FrameWriter → ℕ
end_of w = w.place + frame_len w.settings w.version w.level

-- what was put stands in the file and in the buffers: the blocks before the present one, and of that one the pieces so far
pub record IsAt (w : FrameWriter) (file : List ℕ) : Type 0 where
  pub passed : AscendsFrom 0 (64 * (w.number + 1) * 2 ^ w.width) w.put
  pub stands : IsBehind w.long w.place (text_before w) w.width w.number (pieces_in w.width w.number w.put) file w.ends w.outlet w.block

-- and no piece of an earlier block can come
pub record IsWriting (w : FrameWriter) (file : List ℕ) : Type 0 where
  pub ahead : (piece : Piece) → AscendsFrom 0 (tail_limit w.settings) (w.put ++ piece ∷ []) → w.number ≤ quotient_of w.width piece / 64
  pub at : IsAt w file

-- the same frame is written
pub record SameFrame (old new : FrameWriter) : Type 0 where
  pub settings : new.settings ≡ old.settings
  pub version : new.version ≡ old.version
  pub level : new.level ≡ old.level
  pub frame : new.frame ≡ old.frame
  pub width : new.width ≡ old.width
  pub place : new.place ≡ old.place
  pub put : new.put ≡ old.put
  pub left : new.left ≡ old.left

-- calls that put nothing wrote into the frame's place alone, and what was put stands there still, unless one failed
pub record Proceeds {B : Type 0} (bays : Bays B) (old new : FrameWriter) (before after : B) (Failed : Type 0) : Type 0 where
  pub same : SameFrame old new
  pub writes : Writes bays old.place (end_of old) before after Failed

abbrev pub Stays : {B : Type 0} → Bays B → FrameWriter → FrameWriter → B → B → Type 0
Stays bays old new before after = IfTold (bays.files before) (λ seen. IfTold (bays.files after) (λ later. IsAt old (seen FRAMES) → IsAt new (later FRAMES)))

-- all that was put stands in the file
abbrev pub EndsFrame : {B : Type 0} → Bays B → FrameWriter → B → B → Type 0
EndsFrame bays old before after =
    IfTold (bays.files before) (λ seen. IfTold (bays.files after) (λ later. IsAt old (seen FRAMES) → HoldsFrame old.settings old.version old.level old.frame (later FRAMES) old.put))
