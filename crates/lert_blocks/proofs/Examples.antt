-- The definitions on worked texts.
use Rattle.std.proofs.Common.{◌≡◌, ℕ, List, [], ◌∷◌, refl, Some, None}
use Rattle.lert_counter.specs.Group.{group}
use Rattle.lert_slotbits.specs.Bits.{word_bits}
use Rattle.lert_spec.specs.declared.piece.Piece.{Piece}
use Rattle.lert_blocks.specs.{Text.blocks_text, Frame.blocks_found}

-- one piece of count 2, whose quotient is 45
one : List Piece
one = record { tail = 12994781566227106604; count = 2 } ∷ []

text : List ℕ
text =
    0 ∷ 0 ∷ 0 ∷ 0 ∷ 0 ∷ 32 ∷ 0 ∷ 0 ∷ 2 ∷ 0 ∷ 0 ∷ 0 ∷ 2 ∷ 0 ∷ 0 ∷ 0 ∷ 0 ∷ 0 ∷ 0 ∷ 0
    ∷ 44 ∷ 203 ∷ 194 ∷ 52 ∷ 252 ∷ 188 ∷ 86 ∷ 0 ∷ 44 ∷ 203 ∷ 194 ∷ 52 ∷ 252 ∷ 188 ∷ 86 ∷ 0 ∷ []

text_is : blocks_text 58 0 1 one ≡ text
unfolding group text one
text_is = refl

reads_back : blocks_found 1 58 0 16 592 628 text ≡ record { pieces = one; left = None }
unfolding group text word_bits one
reads_back = refl

-- a run-end bit one slot early is left at the word
early : blocks_found 1 58 0 16 0 36 (0 ∷ 0 ∷ 0 ∷ 0 ∷ 0 ∷ 32 ∷ 0 ∷ 0 ∷ 2 ∷ 0 ∷ 0 ∷ 0 ∷ 1 ∷ 0 ∷ 0 ∷ 0 ∷ 0 ∷ 0 ∷ 0 ∷ 0 ∷ []) ≡ record { pieces = []; left = Some 12 }
unfolding word_bits
early = refl
