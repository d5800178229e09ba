-- What a block that is filled piece by piece has of its text.
use Rattle.std.specs.Prelude.{◌≡◌, ℕ, ◌+◌, ◌-◌, ◌/◌, ◌^◌, ◌<◌, ◌≤◌, ◌++◌, false, List, [], ◌∷◌, length, take, drop, replicate}
use Rattle.lert_slotbits.specs.Bits.{word_bits, row_of}
use Rattle.lert_spec.specs.{declared.piece.Piece.Piece, Table.AscendsFrom}
use Rattle.lert_blocks.specs.{declared.block.Block.Block, Text.{quotient_of, slots_of, ends_of, occupied_of}}

-- a block holds these pieces, but for the first slots, which were let go: what it has are the slots behind them, with
-- their run ends, the quotients that have a run, and the quotient of the last piece, or more than any where there is none
pub record IsFilled (width block skip : ℕ) (pieces : List Piece) (b : Block) : Type 0 where
  pub occupied : word_bits b.occupied ≡ occupied_of width block pieces
  pub slots : take b.len b.slots.items ≡ drop skip (slots_of width pieces)
  pub skipped : skip + b.len ≡ length (slots_of width pieces)
  pub some : 0 < skip → 0 < b.len
  pub ends : row_of b.ends.items ≡ drop skip (ends_of width pieces) ++ replicate (512 - b.len) false
  pub last : (before : List Piece) (p : Piece) → pieces ≡ before ++ p ∷ [] → b.last ≡ quotient_of width p
  pub none : pieces ≡ [] → 2 ^ 56 ≤ b.last

-- a piece of the block comes behind these pieces
pub record IsNext (width block limit : ℕ) (pieces : List Piece) (piece : Piece) : Type 0 where
  pub here : quotient_of width piece / 64 ≡ block
  pub table : AscendsFrom 0 limit (pieces ++ piece ∷ [])
