-- A stream of a set that was asked, and a frame that was begun.
use Rattle.std.specs.Prelude.{ℕ, ◌≡◌, ◌≢◌, ◌+◌, ◌↔◌, Option, Some, None, MatchOption, Result, Ok, Err, IfOk, OnErr, List, [], ◌∷◌, ◌++◌, option_to_list, slice_index_or, slice_set}
use Rattle.lert_base.specs.{declared.pieces.PieceFault.PieceFault, declared.pieces.PieceFault.TheVariants.Malformed}
use Rattle.lert_bay.specs.{declared.bay.TheConstants.FRAMES, Files.Files}
use Rattle.lert_frames.specs.{Frame.{frame_left, frame_pieces}, Place.frame_place, ToCome.{left_of, pieces_of, if_whole}, declared.reader.FrameReader.FrameReader}
use Rattle.lert_spec.specs.{declared.numbers.Numbers.Numbers, declared.piece.Piece.Piece, Table.AreGiven}
use Rattle.lert_levels.specs.{streams.Bin.{Bin, of_frame, to_come_of, given_of, limit_of, LeavesAt, IsSameBin}, streams.BinSet.BinSet}

-- a stream before and after it was asked, in bays that tell these files
pub record Answers (before after : Option Files) (was becomes : Bin) (result : Result (Option Piece) PieceFault) : Type 0 where
  pub told : (ps : List Piece) → to_come_of before was ≡ Some ps → IfOk result (λ piece. MatchOption piece
      ((ps ≡ []) × (to_come_of after becomes ≡ Some []))
      (λ p. (rest : List Piece) × (ps ≡ p ∷ rest) × (to_come_of after becomes ≡ Some rest)))
  pub untold : to_come_of before was ≡ None → to_come_of after becomes ≡ None
  pub ended : before ≢ None → result ≡ Ok None → to_come_of before was ≡ Some []
  pub given : IfOk result (λ piece. given_of becomes ≡ given_of was ++ option_to_list piece)
  pub refused : OnErr result (given_of becomes ≡ given_of was)
  pub ascending : AreGiven (limit_of becomes) (given_of becomes)
  pub limit : limit_of becomes ≡ limit_of was
  pub malformed : (at : ℕ) → result ≡ Err (Malformed at) → (to_come_of before was ≡ None) × LeavesAt before was at
  pub leaves : (at : ℕ) → LeavesAt after becomes at ↔ LeavesAt before was at
  pub same : IsSameBin was becomes

-- one of the streams was asked, and the others are as they were
pub record Asked (before after : Option Files) (old new : BinSet) (stream : ℕ) (result : Result (Option Piece) PieceFault) : Type 0 where
  pub was : Bin
  pub becomes : Bin
  pub here : was ≡ slice_index_or old.bins stream was
  pub put : new.bins ≡ slice_set old.bins stream becomes
  pub settings : new.settings ≡ old.settings
  pub version : new.version ≡ old.version
  pub spare : new.spare ≡ old.spare
  pub answers : Answers before after was becomes result

-- a frame was begun behind the other streams, of which nothing was given yet
pub record Begins (old new : BinSet) (level frame width : ℕ) : Type 0 where
  pub reader : FrameReader
  pub bins : new.bins ≡ old.bins ++ of_frame reader ∷ []
  pub settings : new.settings ≡ old.settings
  pub version : new.version ≡ old.version
  pub spare : new.spare + 1 ≡ old.spare
  pub left : (file : List ℕ) → left_of reader file ≡ frame_left old.settings old.version level frame width file
  pub pieces : (file : List ℕ) → pieces_of reader file ≡ frame_pieces old.settings old.version level frame file
  pub gave : reader.gave ≡ []
  pub of_settings : reader.settings ≡ old.settings
  pub of_version : reader.version ≡ old.version
  pub of_level : reader.level ≡ level
  pub place : reader.place ≡ frame_place old.settings old.version level frame
  pub wide : reader.wide ≡ width

-- what a frame has to come before anything was read of it, and where it leaves its text
abbrev pub frame_to_come : Option Files → Numbers → ℕ → ℕ → ℕ → ℕ → Option (List Piece)
frame_to_come None s version level frame width = None
frame_to_come (Some seen) s version level frame width = if_whole (frame_left s version level frame width (seen FRAMES)) (frame_pieces s version level frame (seen FRAMES))

abbrev pub FrameLeavesAt : Option Files → Numbers → ℕ → ℕ → ℕ → ℕ → ℕ → Type 0
FrameLeavesAt told s version level frame width at = (seen : Files) → told ≡ Some seen → frame_left s version level frame width (seen FRAMES) ≡ Some at
