-- How long the slots of pieces and the text of blocks are.
use Rattle.std.proofs.{Common.{◌≡◌, ℕ, zero, suc, ◌+◌, ◌-◌, ◌*◌, ◌/◌, ◌%◌, ◌^◌, ◌≤◌, List, [], ◌∷◌, ◌++◌, length, ap, ◌∙◌, arith, length-append}, lemmas.Bool.Decides.nat_tests}
use Rattle.std.specs.{Prelude.flat_map, List.range_with_len}
use Rattle.byteorder.specs.Endian.{little_bytes}
use Rattle.lert_counter.specs.Group.{digit_base, group}
use Rattle.lert_counter.proofs.{GroupLemmas.{shape_of, length_middle}, GroupLemmas.Shape.{one, two, three, zeros, bare, guarded}, GrowthLemmas.length_digits-number, Widths.width_least}
use Rattle.lert_spec.specs.{declared.piece.Piece.Piece, Table.{AscendsFrom, total}}
use Rattle.lert_blocks.specs.Text.{group_of, slots_of, ends_of, word_count, words_of, numbers_text, occupied_of, number_of_bits, head_text, block_text, blocks_text, pieces_in}
use Rattle.lert_blocks.proofs.{BitLaws.length-words_of, FieldLaws.{length-little_bytes, length-numbers_text}, BlockLaws.length_ends, PieceLaws.{pieces_in-ascend, slots_by_block}}

-- ---- slots

base_least : (width x : ℕ) → 8 ≤ width → 2 ≤ digit_base width x
base_least width x wide = let least = width_least width wide in grind (arith, nat_tests)

-- a group is shorter than twice its count
pub group_short : (width x c : ℕ) → 8 ≤ width → 1 ≤ c → length (group width x c) + 1 ≤ 2 * c
group_short width x c wide positive =
    let few = length_digits-number 5 (digit_base width x) (c - 3) (base_least width x wide) in
    let few_zero = length_digits-number 5 (digit_base width 0) (c - 4) (base_least width 0 wide) in
    elim (shape_of width x c positive) [
      | one e is ↦ omega (arith, ap (λ (t : List ℕ). length t) is)
      | two e is ↦ omega (arith, ap (λ (t : List ℕ). length t) is)
      | three z e is ↦ omega (arith, ap (λ (t : List ℕ). length t) is)
      | zeros z l is ↦ omega (arith, ap (λ (t : List ℕ). length t) is, length_middle 0 (c - 4) (digit_base width 0) (0 ∷ 0 ∷ []))
      | bare p l w is ↦ omega (arith, ap (λ (t : List ℕ). length t) is, length_middle x (c - 3) (digit_base width x) (x ∷ []))
      | guarded p l w is ↦ omega (arith, ap (λ (t : List ℕ). length t) is, length_middle x (c - 3) (digit_base width x) (x ∷ []))
    ]

pub slots_few : (width least limit : ℕ) (pieces : List Piece) → 8 ≤ width → AscendsFrom least limit pieces → length (slots_of width pieces) + length pieces ≤ 2 * total pieces
slots_few width least limit [] wide up = omega arith
slots_few width least limit (p ∷ pieces) wide up =
    let more = slots_few width (p.tail + 1) limit pieces wide up.3 in
    let here = group_short width (p.tail % 2 ^ width) p.count wide up.2 in
    omega (arith, length-append (group_of width p) (slots_of width pieces))

-- ---- texts

-- a block of so many slots
pub block_text_len : (width block least limit : ℕ) (pieces : List Piece) → AscendsFrom least limit pieces →
    length (block_text width block pieces) ≡ 12 + 8 * word_count (length (slots_of width pieces)) + 8 * length (slots_of width pieces)
block_text_len width block least limit pieces up =
    let slots = slots_of width pieces in
    let words = words_of (ends_of width pieces) in
    let occupied = little_bytes 8 (number_of_bits (occupied_of width block pieces)) in
    let count = little_bytes 4 (length slots) in
    let words_are : length words ≡ word_count (length slots) = length-words_of (ends_of width pieces) ∙ ap word_count (length_ends width least limit pieces up) in
    omega (
      arith,
      length-append (head_text width block pieces) (numbers_text slots),
      length-append occupied (count ++ numbers_text words),
      length-append count (numbers_text words),
      length-little_bytes 8 (number_of_bits (occupied_of width block pieces)),
      length-little_bytes 4 (length slots),
      length-numbers_text words,
      length-numbers_text slots,
      words_are,
    )

-- texts of so many slots each, one behind the other
texts_fit : (text slots : ℕ → List ℕ) → ((k : ℕ) → length (text k) ≡ 12 + 8 * word_count (length (slots k)) + 8 * length (slots k)) → (first count : ℕ) →
    let n = length (flat_map slots (range_with_len first count)) in length (flat_map text (range_with_len first count)) ≤ 20 * count + 8 * (n / 64) + 8 * n
texts_fit text slots long first zero = omega arith
texts_fit text slots long first (suc count) =
    let rest = texts_fit text slots long (first + 1) count in
    omega (
      arith,
      long first,
      length-append (text first) (flat_map text (range_with_len (first + 1) count)),
      length-append (slots first) (flat_map slots (range_with_len (first + 1) count)),
    )

pub text_fits : (width first count most : ℕ) (pieces : List Piece) → AscendsFrom (64 * first * 2 ^ width) (64 * (first + count) * 2 ^ width) pieces →
    length (slots_of width pieces) ≤ most → length (blocks_text width first count pieces) ≤ 20 * count + 8 * most + 8 * (most / 64)
text_fits width first count most pieces up few =
    let slots : ℕ → List ℕ = λ block. slots_of width (pieces_in width block pieces) in
    let fits = texts_fit (λ block. block_text width block (pieces_in width block pieces)) slots
    (λ block. block_text_len width block _ _ (pieces_in width block pieces) (pieces_in-ascend width block _ _ pieces up)) first count in
    omega (arith, fits, ap (λ (t : List ℕ). length t) (slots_by_block width first count pieces up))
