-- Pieces that were handed on, and the sum behind them that is open.
use Rattle.std.specs.Prelude.{ℕ, ◌≡◌, ◌<◌, ◌≤◌, ◌++◌, List, [], All, None, IfSome, option_to_list}
use Rattle.lert_frames.specs.{declared.writer.FrameWriter.FrameWriter}
use Rattle.lert_spec.specs.Items.{IsVersion}
use Rattle.lert_spec.specs.{declared.piece.Piece.Piece, Edges.span, Table.costs}
use Rattle.lert_levels.specs.declared.landing.sum.Sum.{Sum}

-- both, as one list
abbrev pub whole : List Piece → Sum → List Piece
whole front sum = front ++ option_to_list sum.last

-- no tail is greater than this one
abbrev pub AreUpTo : ℕ → List Piece → Type 0
AreUpTo tail pieces = All (λ piece. piece.tail ≤ tail) pieces

-- each tail is less
abbrev pub AreBelow : ℕ → List Piece → Type 0
AreBelow tail pieces = All (λ piece. piece.tail < tail) pieces

-- what was taken of a list so far, and the sum of its last tail, which is open: together they are the list
pub record Takes {T : Type 0} (took : T → List Piece → Type 0) (totals : T) (sum : Sum) (list : List Piece) : Type 0 where
  pub front : List Piece
  pub taken : took totals front
  pub is : list ≡ whole front sum
  pub below : IfSome sum.last (λ last. AreBelow last.tail front)
  pub begun : sum.last ≡ None → front ≡ []

-- a frame's writer and the open sum: nothing is put before the first piece came, and there is room for all
pub record IsTaking (writer : FrameWriter) (version frame : ℕ) (sum : Sum) : Type 0 where
  pub known : IsVersion version
  pub version_is : writer.version ≡ version
  pub frame_is : writer.frame ≡ frame
  pub begun : sum.last ≡ None → writer.put ≡ []
  pub fits : costs writer.version (whole writer.put sum) ≤ span writer.settings writer.level
