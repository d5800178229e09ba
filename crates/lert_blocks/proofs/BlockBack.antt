-- Bytes that are read as a block, with no rule broken, begin with its text.
use Rattle.std.proofs.Common.{◌≡◌, ℕ, suc, ◌+◌, ◌-◌, ◌*◌, ◌/◌, ◌≤◌, ◌==◌, ◌||◌, ◌&&◌, nat_lt, not, min, Bool, true, false, cond, List, [], ◌++◌, length, take, drop, get_or}
use Rattle.std.proofs.Common.{Option, Some, None, refl, sym, ap, ap₂, ◌∙◌, subst, inl, inr, arith, length-drop, eqb-true, ltb-false}
use Rattle.std.proofs.Math.Seq.{take-add}
use Rattle.std.proofs.lemmas.Bool.{cases_eq, and_parts, or_parts}
use Rattle.std.proofs.lemmas.List.{drop-drop, take_all, length-take-le, take-append-drop, get_or-take}
use Rattle.byteorder.specs.Endian.{little_bytes}
use Rattle.lert_slotbits.specs.Bits.{word_bits, row_of, trues}
use Rattle.lert_slotbits.proofs.RowLemmas.{length_row, length_word_bits}
use Rattle.lert_slotbits.proofs.CountLemmas.{trues-append}
use Rattle.lert_spec.specs.declared.piece.Piece.{Piece}
use Rattle.lert_blocks.specs.Text.{slots_of, ends_of, occupied_of, number_of_bits, word_count, words_of, numbers_text, block_text}
use Rattle.lert_blocks.specs.Walk.{Found, behind, behind_at, walk, places}
use Rattle.lert_blocks.specs.Frame.{occupied_in, count_in, words_in, head_len, block_len, slots_in, ends_in, ends_agree, head_left, slot_place, slots_found, block_found}
use Rattle.lert_blocks.proofs.BitLaws.{number_of_bits-word_bits, words_of-row}
use Rattle.lert_blocks.proofs.FieldLaws.{AreBytes, fewer_bytes, bytes_behind, text_of_number, number_fits, text_of_numbers, numbers_fit, length-numbers_in}
use Rattle.lert_blocks.proofs.RunLaws.{runs, Rises, places_rise, length-places, occupied-places}
use Rattle.lert_blocks.proofs.SplitLaws.{InBlocks, in_blocks_of_runs}
use Rattle.lert_blocks.proofs.WalkBack.{AreOf, last_of, last_of-is, walk_back, map_none, some_none}

-- ---- what is said of a block whose fields break no rule

record HeadFits (most : ℕ) (bytes : List ℕ) : Type 0 where
  room : count_in bytes ≤ most
  long : head_len bytes ≤ length bytes
  agree : ends_agree (occupied_in bytes) (count_in bytes) (words_in bytes) ≡ true

-- the tests before the slots, one after the other
tests_pass : (a b c d : Bool) (first second third fourth : ℕ)
    → cond a (Some first) (cond b (Some second) (cond c (Some third) (cond d None (Some fourth)))) ≡ None → (a ≡ false) × (b ≡ false) × (c ≡ false) × (d ≡ true)
tests_pass true b c d first second third fourth e = absurd (some_none first e)
tests_pass false true c d first second third fourth e = absurd (some_none second e)
tests_pass false false true d first second third fourth e = absurd (some_none third e)
tests_pass false false false true first second third fourth e = (refl, refl, refl, refl)
tests_pass false false false false first second third fourth e = absurd (some_none fourth e)

head_fits : (most at end : ℕ) (bytes : List ℕ) → head_left most at end bytes ≡ None → HeadFits most bytes
head_fits most at end bytes whole =
    let tests = tests_pass (nat_lt (length bytes) 12) (nat_lt most (count_in bytes) || ((count_in bytes == 0) && not (occupied_in bytes == 0))) (nat_lt (length bytes) (head_len bytes))
    (ends_agree (occupied_in bytes) (count_in bytes) (words_in bytes)) end (at + 8) end (at + head_len bytes - 8) whole in
    let parts = or_parts (nat_lt most (count_in bytes)) ((count_in bytes == 0) && not (occupied_in bytes == 0)) tests.1 in
    record {
      room = ltb-false most (count_in bytes) parts.0;
      long = ltb-false (length bytes) (head_len bytes) tests.2;
      agree = tests.3;
    }

-- what two answers leave, one behind the other
pub behind_none : (first second : Found) → (behind first second).left ≡ None → (first.left ≡ None) × (second.left ≡ None) × ((behind first second).pieces ≡ first.pieces ++ second.pieces)
behind_none first second whole = from first.left refl whole
  where
    from : (o : Option ℕ) → first.left ≡ o → (behind_at o first second).left ≡ None
        → (first.left ≡ None) × (second.left ≡ None) × ((behind_at first.left first second).pieces ≡ first.pieces ++ second.pieces)
    from None is none = (is, none, ap (λ o. (behind_at o first second).pieces) is)
    from (Some place) is none = absurd (some_none place (sym is ∙ none))

module _ (width block most at end : ℕ) (bytes : List ℕ) (small : AreBytes (block_len bytes) bytes) (whole : (block_found width block most at end bytes).left ≡ None) where
  parts : (head_left most at end bytes ≡ None) × ((slots_found width block at end bytes).left ≡ None)
      × ((block_found width block most at end bytes).pieces ≡ (slots_found width block at end bytes).pieces)
  parts = behind_none (record { pieces = []; left = head_left most at end bytes }) (slots_found width block at end bytes) whole

  fits : HeadFits most bytes
  fits = head_fits most at end bytes parts.0

  -- its pieces, as the walk finds them
  abbrev quotients : List ℕ
  quotients = places (64 * block) (word_bits (occupied_in bytes))

  abbrev row : List Bool
  row = row_of (words_in bytes)

  abbrev ps : List Piece
  ps = (walk (count_in bytes) width quotients 0 (ends_in bytes) (slots_in bytes)).pieces

  agree_parts : (trues row ≡ trues (word_bits (occupied_in bytes))) × (trues (drop (count_in bytes) row) ≡ 0) × (get_or row (count_in bytes - 1) true ≡ true)
  agree_parts =
      let first = and_parts (trues row == trues (word_bits (occupied_in bytes))) ((trues (drop (count_in bytes) row) == 0) && get_or row (count_in bytes - 1) true) fits.agree in
      let second = and_parts (trues (drop (count_in bytes) row) == 0) (get_or row (count_in bytes - 1) true) first.1 in
      (eqb-true (trues row) (trues (word_bits (occupied_in bytes))) first.0, eqb-true (trues (drop (count_in bytes) row)) 0 second.0, second.1)

  length_words_in : length (words_in bytes) ≡ word_count (count_in bytes)
  length_words_in = length-numbers_in (word_count (count_in bytes)) (drop 12 bytes)

  ends_long : length (ends_in bytes) ≡ count_in bytes
  ends_long = length-take-le (count_in bytes) row (omega (arith, length_row (words_in bytes), length_words_in))

  closed : last_of true (ends_in bytes) ≡ true
  closed =
      let n = count_in bytes in
      sym (last_of-is (take n row)) ∙ (ap (λ k. get_or (take n row) (k - 1) true) ends_long ∙ elim (cases_eq n 0) [
        | inl none ↦ ap (λ k. get_or (take k row) (n - 1) true) none
        | inr some ↦ get_or-take n row (n - 1) true (omega (arith, some)) ∙ agree_parts.2
      ])

  are : AreOf width quotients (ends_in bytes) (slots_in bytes) ps
  are =
      walk_back (count_in bytes) width 0 (64 * block) (64 * block + length (word_bits (occupied_in bytes))) quotients (ends_in bytes) (slots_in bytes)
      (omega (arith, ends_long)) (places_rise (64 * block) (word_bits (occupied_in bytes))) closed
      (map_none (slot_place (at + head_len bytes) end (slots_in bytes)) (walk (count_in bytes) width quotients 0 (ends_in bytes) (slots_in bytes)).left parts.1)

  -- how many slots are there
  slots_there : min (count_in bytes) (length (drop (head_len bytes) bytes) / 8) ≡ count_in bytes
  slots_there =
      let there = are.there in
      let long = length-numbers_in (min (count_in bytes) (length (drop (head_len bytes) bytes) / 8)) (drop (head_len bytes) bytes) in omega (arith, ends_long, there, long)

  slots_long : length (slots_in bytes) ≡ count_in bytes
  slots_long = length-numbers_in (min (count_in bytes) (length (drop (head_len bytes) bytes) / 8)) (drop (head_len bytes) bytes) ∙ slots_there

  slots_are : slots_in bytes ≡ slots_of width ps
  slots_are = sym (take_all (length (ends_in bytes)) (slots_in bytes) (omega (arith, slots_long, ends_long))) ∙ are.slots_are

  runs_are : runs width ps ≡ quotients
  runs_are =
      let sum : trues row ≡ trues (ends_in bytes) + trues (drop (count_in bytes) row) =
      ap trues (sym (take-append-drop (count_in bytes) row)) ∙ trues-append (ends_in bytes) (drop (count_in bytes) row) in
      let marked = length-places (64 * block) (word_bits (occupied_in bytes)) in
      are.runs_are ∙ take_all (trues (ends_in bytes)) quotients (omega (arith, sum, marked, agree_parts.0, agree_parts.1))

  occupied_is : number_of_bits (occupied_of width block ps) ≡ occupied_in bytes
  occupied_is =
      ap number_of_bits (occupied-places width block (word_bits (occupied_in bytes)) ps (length_word_bits (occupied_in bytes)) runs_are)
      ∙ number_of_bits-word_bits (occupied_in bytes) (number_fits bytes (fewer_bytes (block_len bytes) 8 bytes (omega arith) small))

  word_bytes : AreBytes (8 * word_count (count_in bytes)) (drop 12 bytes)
  word_bytes = bytes_behind 12 (8 * word_count (count_in bytes)) bytes (fewer_bytes (block_len bytes) (head_len bytes) bytes (omega arith) small)

  words_are : words_of (ends_of width ps) ≡ words_in bytes
  words_are =
      ap words_of (sym are.ends_are)
      ∙ words_of-row (count_in bytes) (words_in bytes) (numbers_fit (word_count (count_in bytes)) (drop 12 bytes) word_bytes) length_words_in agree_parts.1

  count_is : length (slots_of width ps) ≡ count_in bytes
  count_is = ap (λ (slots : List ℕ). length slots) (sym slots_are) ∙ slots_long

  block_long : block_len bytes ≤ length bytes
  block_long = let there = slots_there in let head = fits.long in omega (arith, there, head, length-drop (head_len bytes) bytes)

  -- the bytes of its fields
  head_bytes : little_bytes 8 (occupied_in bytes) ++ (little_bytes 4 (count_in bytes) ++ numbers_text (words_in bytes)) ≡ take (head_len bytes) bytes
  head_bytes =
      let head = fits.long in
      let n = word_count (count_in bytes) in
      let first : little_bytes 8 (occupied_in bytes) ≡ take 8 bytes = text_of_number 8 bytes (fewer_bytes (block_len bytes) 8 bytes (omega arith) small) (omega (arith, head)) in
      let second : little_bytes 4 (count_in bytes) ≡ take 4 (drop 8 bytes) =
      text_of_number 4 (drop 8 bytes) (bytes_behind 8 4 bytes (fewer_bytes (block_len bytes) 12 bytes (omega arith) small)) (omega (arith, head, length-drop 8 bytes)) in
      let third : numbers_text (words_in bytes) ≡ take (8 * n) (drop 4 (drop 8 bytes)) =
      text_of_numbers n (drop 12 bytes) word_bytes (omega (arith, head, length-drop 12 bytes)) ∙ ap (take (8 * n)) (sym (drop-drop 4 8 bytes)) in
      (λ i. first i ++ (second i ++ third i))
      ∙ (ap (λ (xs : List ℕ). take 8 bytes ++ xs) (sym (take-add 4 (8 * n) (drop 8 bytes)))
      ∙ (sym (take-add 8 (4 + 8 * n) bytes) ∙ ap (λ k. take k bytes) (let e : 8 + (4 + 8 * n) ≡ 12 + 8 * n = omega arith in e)))

  slot_bytes : numbers_text (slots_in bytes) ≡ take (8 * count_in bytes) (drop (head_len bytes) bytes)
  slot_bytes =
      let n = min (count_in bytes) (length (drop (head_len bytes) bytes) / 8) in
      text_of_numbers n (drop (head_len bytes) bytes)
      (bytes_behind (head_len bytes) (8 * n) bytes (fewer_bytes (block_len bytes) (head_len bytes + 8 * n) bytes (omega arith) small)) (omega arith)
      ∙ ap (λ k. take (8 * k) (drop (head_len bytes) bytes)) slots_there

  text_is : block_text width block ps ≡ take (block_len bytes) bytes
  text_is =
      (λ i. (little_bytes 8 (occupied_is i) ++ (little_bytes 4 (count_is i) ++ numbers_text (words_are i))) ++ numbers_text (sym slots_are i))
      ∙ (ap₂ (λ (xs ys : List ℕ). xs ++ ys) head_bytes slot_bytes ∙ sym (take-add (head_len bytes) (8 * count_in bytes) bytes))

  within : InBlocks width block (suc block) ps
  within =
      in_blocks_of_runs width block (suc block) ps
      (subst (λ (qs : List ℕ). Rises (64 * block) (64 * suc block) qs) (sym runs_are)
      (subst (λ n. Rises (64 * block) n quotients) (let e : 64 * block + length (word_bits (occupied_in bytes)) ≡ 64 * suc block = omega (arith, length_word_bits (occupied_in bytes)) in e)
      (places_rise (64 * block) (word_bits (occupied_in bytes)))))

-- bytes begin with the text of a block of these pieces
pub record BeginsWithBlock (width block most : ℕ) (bytes : List ℕ) (ps : List Piece) : Type 0 where
  pub text : block_text width block ps ≡ take (block_len bytes) bytes
  pub long : block_len bytes ≤ length bytes
  pub count : length (slots_of width ps) ≡ count_in bytes
  pub room : count_in bytes ≤ most
  pub within : InBlocks width block (suc block) ps

pub block_back : (width block most at end : ℕ) (bytes : List ℕ) → AreBytes (block_len bytes) bytes → (block_found width block most at end bytes).left ≡ None
    → BeginsWithBlock width block most bytes (block_found width block most at end bytes).pieces
block_back width block most at end bytes small whole =
    subst (BeginsWithBlock width block most bytes) (sym (parts width block most at end bytes small whole).2) (record {
      text = text_is width block most at end bytes small whole;
      long = block_long width block most at end bytes small whole;
      count = count_is width block most at end bytes small whole;
      room = (fits width block most at end bytes small whole).room;
      within = within width block most at end bytes small whole;
    })
