-- The text of a block is read back.
use Rattle.std.proofs.Common.{◌≡◌, ℕ, suc, ◌+◌, ◌-◌, ◌*◌, ◌/◌, ◌%◌, ◌^◌, ◌<◌, ◌≤◌, ◌==◌, ◌||◌, ◌&&◌, nat_lt, not, min, Bool, true, false, cond, List, [], ◌∷◌, ◌++◌}
use Rattle.std.proofs.Common.{All, length, take, drop, get_or, replicate, Some, None, refl, sym, ap, ap₂, ◌∙◌}
use Rattle.std.proofs.Common.{inl, inr, arith, append-nil, append_assoc, subst, le_of_eq, length-append, eq-eqb, ne_eqb, le-ltb, pow_pos, pow_mono}
use Rattle.std.proofs.lemmas.Bool.{cases_eq}
use Rattle.std.proofs.lemmas.List.{drop_at, take_at, drop-drop, get_or_append_left}
use Rattle.std.proofs.lemmas.List.Elements.{All-weaker}
use Rattle.std.proofs.lemmas.Nat.{div-mul-add}
use Rattle.byteorder.specs.Endian.{little_bytes, little_number}
use Rattle.byteorder.specs.Numbers.{little_number-reads_back}
use Rattle.lert_counter.proofs.GroupLemmas.{length_group-positive}
use Rattle.lert_slotbits.specs.Bits.{word_bits, row_of, trues}
use Rattle.lert_slotbits.proofs.CountLemmas.{trues-append}
use Rattle.lert_spec.specs.declared.piece.Piece.{Piece}
use Rattle.lert_spec.specs.Table.{AscendsFrom}
use Rattle.lert_blocks.specs.Text.{group_of, slots_of, ends_of, occupied_of, number_of_bits, word_count, words_of, numbers_text, block_text}
use Rattle.lert_blocks.specs.Walk.{behind_at, walk, places}
use Rattle.lert_blocks.specs.Frame.{occupied_in, count_in, words_in, head_len, block_len, slots_in, ends_agree, head_left, placed, slots_found, block_found, numbers_in}
use Rattle.lert_blocks.proofs.BitLaws.{word_bits-number_of_bits, number_of_bits-below, length-words_of, row_of-words_of, words_of-fit, trues-clear}
use Rattle.lert_blocks.proofs.BlockLaws.{length_ends, length_occupied}
use Rattle.lert_blocks.proofs.FieldLaws.{length-little_bytes, length-numbers_text, number_back, numbers_back}
use Rattle.lert_blocks.proofs.RunLaws.{runs, Rises, runs_rise, trues-ends_of, places-occupied, length-places}
use Rattle.lert_blocks.proofs.WalkText.{AreSorted, sorted_from, begins_zero, slots_fit, walk_text}
use Rattle.lert_blocks.proofs.WalkBack.{last_of-is, last_of-ends_of}

-- what was read of a block, and what stands behind it
pub record IsWhole (width block most at end : ℕ) (bytes : List ℕ) (ps : List Piece) (rest : List ℕ) : Type 0 where
  pub found : block_found width block most at end bytes ≡ record { pieces = ps; left = None }
  pub count : count_in bytes ≡ length (slots_of width ps)
  pub behind : drop (block_len bytes) bytes ≡ rest
  pub len : block_len bytes + length rest ≡ length bytes

-- ---- the fields of a block, read back

module _ (occupied count : ℕ) (words slots rest : List ℕ) (fits : occupied < 2 ^ 64) (few : count < 2 ^ 32) (words_small : All (λ n. n < 2 ^ 64) words)
    (slots_small : All (λ n. n < 2 ^ 64) slots) (words_long : length words ≡ word_count count) (slots_long : length slots ≡ count) where
  -- what stands behind the number of slots, and the whole
  abbrev body : List ℕ
  body = numbers_text words ++ (numbers_text slots ++ rest)

  abbrev fields : List ℕ
  fields = little_bytes 8 occupied ++ (little_bytes 4 count ++ body)

  occupied_is : occupied_in fields ≡ occupied
  occupied_is = number_back occupied (little_bytes 4 count ++ body) fits

  behind_occupied : drop 8 fields ≡ little_bytes 4 count ++ body
  behind_occupied = drop_at (little_bytes 8 occupied) (little_bytes 4 count ++ body) 8 (length-little_bytes 8 occupied)

  count_is : count_in fields ≡ count
  count_is = ap (little_number 4) behind_occupied ∙ little_number-reads_back 4 count body few

  behind_count : drop 12 fields ≡ body
  behind_count = sym (drop-drop 4 8 fields) ∙ (ap (drop 4) behind_occupied ∙ drop_at (little_bytes 4 count) body 4 (length-little_bytes 4 count))

  words_is : words_in fields ≡ words
  words_is = ap₂ (λ n bytes. numbers_in (word_count n) bytes) count_is behind_count ∙ numbers_back (word_count count) words (numbers_text slots ++ rest) words_long words_small

  head_is : head_len fields ≡ 12 + 8 * word_count count
  head_is = ap (λ n. 12 + 8 * word_count n) count_is

  length_words : length (numbers_text words) ≡ 8 * word_count count
  length_words = length-numbers_text words ∙ ap (λ n. 8 * n) words_long

  length_slots : length (numbers_text slots) ≡ 8 * count
  length_slots = length-numbers_text slots ∙ ap (λ n. 8 * n) slots_long

  behind_head : drop (head_len fields) fields ≡ numbers_text slots ++ rest
  behind_head =
      ap (λ n. drop n fields) head_is
      ∙ (sym (drop-drop (8 * word_count count) 12 fields)
      ∙ (ap (drop (8 * word_count count)) behind_count ∙ drop_at (numbers_text words) (numbers_text slots ++ rest) (8 * word_count count) length_words))

  slots_is : slots_in fields ≡ slots
  slots_is =
      let all : min count (length (numbers_text slots ++ rest) / 8) ≡ count = omega (arith, length-append (numbers_text slots) rest, length_slots) in
      ap₂ (λ n (bytes : List ℕ). numbers_in (min n (length bytes / 8)) bytes) count_is behind_head
      ∙ (ap (λ n. numbers_in n (numbers_text slots ++ rest)) all ∙ numbers_back count slots rest slots_long slots_small)

  behind_block : drop (block_len fields) fields ≡ rest
  behind_block =
      ap (λ n. drop (head_len fields + 8 * n) fields) count_is
      ∙ (sym (drop-drop (8 * count) (head_len fields) fields) ∙ (ap (drop (8 * count)) behind_head ∙ drop_at (numbers_text slots) rest (8 * count) length_slots))

  length_fields : length fields ≡ 12 + 8 * word_count count + 8 * count + length rest
  length_fields =
      omega (
        arith,
        length-append (little_bytes 8 occupied) (little_bytes 4 count ++ body),
        length-append (little_bytes 4 count) body,
        length-append (numbers_text words) (numbers_text slots ++ rest),
        length-append (numbers_text slots) rest,
        length-little_bytes 8 occupied,
        length-little_bytes 4 count,
        length_words,
        length_slots,
      )

  -- where the fields agree
  module _ (width block most at end : ℕ) (room : count ≤ most) (empty : count ≡ 0 → occupied ≡ 0) (agree : ends_agree occupied count words ≡ true) where
    head_whole : head_left most at end fields ≡ None
    head_whole =
        let long : nat_lt (length fields) 12 ≡ false = le-ltb (length fields) 12 (omega (arith, length_fields)) in
        let fitting : (nat_lt most (count_in fields) || ((count_in fields == 0) && not (occupied_in fields == 0))) ≡ false =
        ap₂ (λ n k. nat_lt most n || ((n == 0) && not (k == 0))) count_is occupied_is ∙ fits_room in
        let all : nat_lt (length fields) (head_len fields) ≡ false = le-ltb (length fields) (head_len fields) (omega (arith, length_fields, head_is)) in
        let same : ends_agree (occupied_in fields) (count_in fields) (words_in fields) ≡ true = (λ i. ends_agree (occupied_is i) (count_is i) (words_is i)) ∙ agree in
        λ i. cond (long i) (Some end) (cond (fitting i) (Some (at + 8)) (cond (all i) (Some end) (cond (same i) None (Some (at + head_len fields - 8)))))
      where
        fits_room : (nat_lt most count || ((count == 0) && not (occupied == 0))) ≡ false
        fits_room = ap₂ (λ a b. a || b) (le-ltb most count room) (elim (cases_eq count 0) [
          | inl none ↦ ap₂ (λ a b. a && not b) (eq-eqb count 0 none) (eq-eqb occupied 0 (empty none))
          | inr some ↦ ap (λ a. a && not (occupied == 0)) (ne_eqb count 0 some)
        ])

    fields_found : (pieces : List Piece)
        → walk count width (places (64 * block) (word_bits occupied)) 0 (take count (row_of words)) slots ≡ record { pieces = pieces; left = None }
        → block_found width block most at end fields ≡ record { pieces = pieces; left = None }
    fields_found pieces found =
        let all : slots_found width block at end fields ≡ record { pieces = pieces; left = None } =
        (λ i. placed (at + head_len fields) end (slots_in fields)
        (walk (count_is i) width (places (64 * block) (word_bits (occupied_is i))) 0 (take (count_is i) (row_of (words_is i))) (slots_is i)))
        ∙ ap (placed (at + head_len fields) end (slots_in fields)) found in
        λ i. behind_at (head_whole i) (record { pieces = []; left = head_whole i }) (all i)

    fields_whole : (pieces : List Piece) → count ≡ length (slots_of width pieces)
        → walk count width (places (64 * block) (word_bits occupied)) 0 (take count (row_of words)) slots ≡ record { pieces = pieces; left = None }
        → IsWhole width block most at end ((little_bytes 8 occupied ++ (little_bytes 4 count ++ numbers_text words)) ++ numbers_text slots ++ rest) pieces rest
    fields_whole pieces same found =
        let text : (little_bytes 8 occupied ++ (little_bytes 4 count ++ numbers_text words)) ++ numbers_text slots ++ rest ≡ fields =
        append_assoc (little_bytes 8 occupied ++ (little_bytes 4 count ++ numbers_text words)) (numbers_text slots) rest
        ∙ (append_assoc (little_bytes 8 occupied) (little_bytes 4 count ++ numbers_text words) (numbers_text slots ++ rest)
        ∙ ap (λ (bytes : List ℕ). little_bytes 8 occupied ++ bytes) (append_assoc (little_bytes 4 count) (numbers_text words) (numbers_text slots ++ rest))) in
        subst (λ (bytes : List ℕ). IsWhole width block most at end bytes pieces rest) (sym text)
        (record { found = fields_found pieces found; count = count_is ∙ same; behind = behind_block; len = omega (arith, length_fields, head_is, count_is) })

-- ---- the text of a block of pieces

no_pieces : (width low : ℕ) (ps : List Piece) → AreSorted low ps → length (slots_of width ps) ≡ 0 → ps ≡ []
no_pieces width low [] are none = refl
no_pieces width low (p ∷ ps) are none =
    absurd (omega (arith, none, length-append (group_of width p) (slots_of width ps), length_group-positive width (p.tail % 2 ^ width) p.count are.1.0))

-- bits that are followed by clear ones
module _ (bits : List Bool) (k : ℕ) where
  trues_behind : trues (bits ++ replicate k false) ≡ trues bits
  trues_behind = trues-append bits (replicate k false) ∙ (let none = trues-clear k in omega (arith, none))

  trues_left : trues (drop (length bits) (bits ++ replicate k false)) ≡ 0
  trues_left = ap trues (drop_at bits (replicate k false) (length bits) refl) ∙ trues-clear k

  last_kept : (length bits ≡ 0 → k ≡ 0) → get_or (bits ++ replicate k false) (length bits - 1) true ≡ get_or bits (length bits - 1) true
  last_kept none = elim (cases_eq (length bits) 0) [
    | inl empty ↦ ap (λ n. get_or (bits ++ replicate n false) (length bits - 1) true) (none empty) ∙ ap (λ (bs : List Bool). get_or bs (length bits - 1) true) (append-nil bits)
    | inr some ↦ get_or_append_left bits (replicate k false) true (length bits - 1) (omega (arith, some))
  ]

module _ (width block : ℕ) (ps : List Piece) (narrow : 8 ≤ width) (wide : width ≤ 58)
    (up : AscendsFrom (64 * block * 2 ^ width) (64 * suc block * 2 ^ width) ps) (counts : All (λ p. p.count ≤ 2 ^ 47) ps) (few : length (slots_of width ps) < 2 ^ 32) where
  sorted : AreSorted (64 * block * 2 ^ width) ps
  sorted = sorted_from (64 * block * 2 ^ width) (64 * suc block * 2 ^ width) ps up counts

  rise : Rises (64 * block) (64 * block + 64) (runs width ps)
  rise =
      subst (λ n. Rises n (64 * block + 64) (runs width ps)) (div-mul-add (64 * block) (2 ^ width) 0 (pow_pos width))
      (subst (λ n. Rises (n / 2 ^ width) (64 * block + 64) (runs width ps)) (let e : 64 * block * 2 ^ width ≡ 64 * block * 2 ^ width + 0 = omega arith in e)
      (runs_rise width (64 * block * 2 ^ width) (64 * suc block * 2 ^ width) (64 * block + 64) ps
      (let e : 64 * suc block ≡ 64 * block + 64 = omega arith in le_of_eq (ap (λ n. n * 2 ^ width) e)) up))

  bits_long : length (occupied_of width block ps) ≡ 64
  bits_long = length_occupied width block ps

  same_long : length (ends_of width ps) ≡ length (slots_of width ps)
  same_long = length_ends width (64 * block * 2 ^ width) (64 * suc block * 2 ^ width) ps up

  -- how many bits its last word has behind them
  abbrev spare : ℕ
  spare = 64 * word_count (length (ends_of width ps)) - length (ends_of width ps)

  row : row_of (words_of (ends_of width ps)) ≡ ends_of width ps ++ replicate spare false
  row = row_of-words_of (ends_of width ps)

  bits_back : word_bits (number_of_bits (occupied_of width block ps)) ≡ occupied_of width block ps
  bits_back = word_bits-number_of_bits (occupied_of width block ps) bits_long

  places_back : places (64 * block) (word_bits (number_of_bits (occupied_of width block ps))) ≡ runs width ps
  places_back = ap (places (64 * block)) bits_back ∙ places-occupied width block ps rise

  agree : ends_agree (number_of_bits (occupied_of width block ps)) (length (slots_of width ps)) (words_of (ends_of width ps)) ≡ true
  agree =
      let ends = ends_of width ps in
      let bits = word_bits (number_of_bits (occupied_of width block ps)) in
      let marked : trues bits ≡ length (runs width ps) = sym (length-places (64 * block) bits) ∙ ap (λ (qs : List ℕ). length qs) places_back in
      let first : (trues (row_of (words_of ends)) == trues bits) ≡ true =
      eq-eqb (trues (row_of (words_of ends))) (trues bits) (ap trues row ∙ (trues_behind ends spare ∙ (trues-ends_of width ps ∙ sym marked))) in
      let second : (trues (drop (length (slots_of width ps)) (row_of (words_of ends))) == 0) ≡ true =
      eq-eqb (trues (drop (length (slots_of width ps)) (row_of (words_of ends)))) 0 (ap₂ (λ n (bs : List Bool). trues (drop n bs)) (sym same_long) row ∙ trues_left ends spare) in
      let third : get_or (row_of (words_of ends)) (length (slots_of width ps) - 1) true ≡ true =
      ap₂ (λ n (bs : List Bool). get_or bs (n - 1) true) (sym same_long) row
      ∙ (last_kept ends spare (λ none. omega (arith, none)) ∙ (last_of-is ends ∙ last_of-ends_of width ps)) in
      λ i. first i && (second i && third i)

  empty : length (slots_of width ps) ≡ 0 → number_of_bits (occupied_of width block ps) ≡ 0
  empty none = ap (λ (qs : List Piece). number_of_bits (occupied_of width block qs)) (no_pieces width (64 * block * 2 ^ width) ps sorted none)

  small : All (λ n. n < 2 ^ 64) (slots_of width ps)
  small =
      let bound : 2 ^ width ≤ 2 ^ 64 = (let h : width ≤ 64 = omega arith in pow_mono h) in
      All-weaker (λ n. n < 2 ^ width) (λ n. n < 2 ^ 64) (λ n h. omega (arith, h, bound)) (slots_of width ps) (slots_fit width (64 * block * 2 ^ width) ps narrow sorted)

  walked : walk (length (slots_of width ps)) width (places (64 * block) (word_bits (number_of_bits (occupied_of width block ps)))) 0
      (take (length (slots_of width ps)) (row_of (words_of (ends_of width ps)))) (slots_of width ps) ≡ record { pieces = ps; left = None }
  walked =
      let kept : take (length (slots_of width ps)) (row_of (words_of (ends_of width ps))) ≡ ends_of width ps =
      ap (take (length (slots_of width ps))) row ∙ take_at (ends_of width ps) (replicate spare false) (length (slots_of width ps)) same_long in
      ap₂ (λ (qs : List ℕ) (ends : List Bool). walk (length (slots_of width ps)) width qs 0 ends (slots_of width ps)) places_back kept
      ∙ walk_text width narrow (length (slots_of width ps)) 0 (64 * block * 2 ^ width) ps (omega (arith, same_long)) (begins_zero width ps) sorted

  pub block_whole : (most at end : ℕ) (rest : List ℕ) → length (slots_of width ps) ≤ most → IsWhole width block most at end (block_text width block ps ++ rest) ps rest
  block_whole most at end rest room =
      fields_whole (number_of_bits (occupied_of width block ps)) (length (slots_of width ps)) (words_of (ends_of width ps)) (slots_of width ps) rest
      (number_of_bits-below (occupied_of width block ps) bits_long) few (words_of-fit (ends_of width ps)) small
      (length-words_of (ends_of width ps) ∙ ap word_count same_long) refl width block most at end room empty agree ps refl walked
