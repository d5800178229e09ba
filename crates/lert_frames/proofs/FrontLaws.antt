-- What bytes say as blocks rests on their front alone: where it has all that the blocks may have, or where it leaves their
-- text nowhere, more bytes behind it, and another end of the file, change nothing.
use Rattle.std.proofs.Common.{◌≡◌, ℕ, zero, suc, ◌+◌, ◌-◌, ◌*◌, ◌/◌, ◌<◌, ◌≤◌, ◌⊎◌, ◌==◌, ◌||◌, ◌&&◌, nat_lt, not, min, cond, Bool, true, false, List, [], ◌++◌, length, take, drop, Option}
use Rattle.std.proofs.Common.{Some, None, option_map, refl, sym, ap, ap₂, ◌∙◌, inl, inr, arith, length-append, length-drop, lt-ltb, le-ltb, ltb-false}
use Rattle.std.{proofs.lemmas.Bool.{cases_Bool, cond-true, cond-false, or_parts}, proofs.lemmas.List.{drop-append-le, length-take-le}}
use Rattle.byteorder.specs.Endian.{little_number}
use Rattle.lert_slotbits.{specs.Bits.{word_bits, row_of}, proofs.RowLemmas.length_row}
use Rattle.lert_blocks.specs.Frame.{numbers_in, occupied_in, count_in, words_in, head_len, block_len, slots_in, ends_in, ends_agree, head_left, slot_place, placed, slots_found, block_found}
use Rattle.lert_blocks.{specs.Frame.blocks_found, specs.Text.word_count, specs.Walk.{Found, behind, walk, places}, proofs.BlockBack.behind_none, proofs.WalkBack.{map_none, some_none}}
use Rattle.lert_frames.{specs.Place.blocks_bytes, proofs.NumberLaws.{length-numbers, little_number-append, numbers-append}, proofs.ThereLaws.{walk_left, walk_whole}}

-- the number of slots is none that a block may have
abbrev IsUnfit : ℕ → List ℕ → Bool
IsUnfit most bytes = nat_lt most (count_in bytes) || (count_in bytes == 0) && not (occupied_in bytes == 0)

-- ---- the tests of a block's fields

tests_pass : (a b c d : Bool) (first second third fourth : ℕ) → cond a (Some first) (cond b (Some second) (cond c (Some third) (cond d None (Some fourth)))) ≡ None → (a ≡ false) × (c ≡ false)
tests_pass true b c d first second third fourth is = absurd (some_none first is)
tests_pass false true c d first second third fourth is = absurd (some_none second is)
tests_pass false false true d first second third fourth is = absurd (some_none third is)
tests_pass false false false d first second third fourth is = (refl, refl)

head_there : (most at end : ℕ) (bytes : List ℕ) → head_left most at end bytes ≡ None → (12 ≤ length bytes) × (head_len bytes ≤ length bytes)
head_there most at end bytes whole =
    let tests = tests_pass (nat_lt (length bytes) 12) (IsUnfit most bytes) (nat_lt (length bytes) (head_len bytes)) (ends_agree (occupied_in bytes) (count_in bytes) (words_in bytes))
    end (at + 8) end (at + head_len bytes - 8) whole in
    (ltb-false (length bytes) 12 tests.0, ltb-false (length bytes) (head_len bytes) tests.1)

head_unfit : (most at end : ℕ) (bytes : List ℕ) → 12 ≤ length bytes → IsUnfit most bytes ≡ true → head_left most at end bytes ≡ Some (at + 8)
head_unfit most at end bytes long unfit =
    cond-false (nat_lt (length bytes) 12) (Some end) _ (le-ltb (length bytes) 12 long) ∙ cond-true (IsUnfit most bytes) (Some (at + 8)) _ unfit

head_fit : (most at end : ℕ) (bytes : List ℕ) → 12 ≤ length bytes → IsUnfit most bytes ≡ false → head_len bytes ≤ length bytes →
    head_left most at end bytes ≡ cond (ends_agree (occupied_in bytes) (count_in bytes) (words_in bytes)) None (Some (at + head_len bytes - 8))
head_fit most at end bytes long fit there =
    cond-false (nat_lt (length bytes) 12) (Some end) _ (le-ltb (length bytes) 12 long)
    ∙ (cond-false (IsUnfit most bytes) (Some (at + 8)) _ fit ∙ cond-false (nat_lt (length bytes) (head_len bytes)) (Some end) _ (le-ltb (length bytes) (head_len bytes) there))

few_of : (most : ℕ) (bytes : List ℕ) → IsUnfit most bytes ≡ false → count_in bytes ≤ most
few_of most bytes fit = ltb-false most (count_in bytes) (or_parts (nat_lt most (count_in bytes)) ((count_in bytes == 0) && not (occupied_in bytes == 0)) fit).0

-- a place among the slots that are there doesn't rest on the file's end
pub placed_same : (at end other : ℕ) (slots : List ℕ) (found : Found) → ((k : ℕ) → found.left ≡ Some k → k < length slots) → placed at other slots found ≡ placed at end slots found
placed_same at end other slots found within = ap (λ (left : Option ℕ). record { pieces = found.pieces; left = left }) (by_left found.left within)
  where
    by_left : (left : Option ℕ) → ((k : ℕ) → left ≡ Some k → k < length slots) → option_map (slot_place at other slots) left ≡ option_map (slot_place at end slots) left
    by_left None within = refl
    by_left (Some k) within =
        let there = lt-ltb k (length slots) (within k refl) in
        ap Some (cond-true (nat_lt k (length slots)) (at + 8 * k) other there ∙ sym (cond-true (nat_lt k (length slots)) (at + 8 * k) end there))

-- what broke a rule before leaves nothing to be found
behind_broken : (at : ℕ) (left : Option ℕ) (first second : Found) → left ≡ Some at →
    behind (behind (record { pieces = []; left = left }) first) second ≡ record { pieces = []; left = Some at }
behind_broken at left first second is = ap (λ (left : Option ℕ). behind (behind (record { pieces = []; left = left }) first) second) is

found_unfit : (n width block most at end : ℕ) (bytes : List ℕ) → 12 ≤ length bytes → IsUnfit most bytes ≡ true →
    blocks_found (suc n) width block most at end bytes ≡ record { pieces = []; left = Some (at + 8) }
found_unfit n width block most at end bytes long unfit =
    behind_broken (at + 8) (head_left most at end bytes) (slots_found width block at end bytes)
    (blocks_found n width (suc block) (most - count_in bytes) (at + block_len bytes) end (drop (block_len bytes) bytes)) (head_unfit most at end bytes long unfit)

-- ---- one block, with more bytes behind it

length_ends_in : (bytes : List ℕ) → length (ends_in bytes) ≡ count_in bytes
length_ends_in bytes =
    length-take-le (count_in bytes) (row_of (words_in bytes)) (omega (arith, length_row (words_in bytes), length-numbers (word_count (count_in bytes)) (drop 12 bytes)))

module _ (front more : List ℕ) (long : 12 ≤ length front) where
  occupied_front : occupied_in (front ++ more) ≡ occupied_in front
  occupied_front = little_number-append 8 front more (omega (arith, long))

  count_front : count_in (front ++ more) ≡ count_in front
  count_front =
      ap (little_number 4) (drop-append-le 8 front more (omega (arith, long))) ∙ little_number-append 4 (drop 8 front) more (omega (arith, long, length-drop 8 front))

  head_len_front : head_len (front ++ more) ≡ head_len front
  head_len_front = ap (λ n. 12 + 8 * word_count n) count_front

  unfit_front : (most : ℕ) → IsUnfit most (front ++ more) ≡ IsUnfit most front
  unfit_front most = ap₂ (λ n o. nat_lt most n || (n == 0) && not (o == 0)) count_front occupied_front

  module _ (there : head_len front ≤ length front) where
    words_front : words_in (front ++ more) ≡ words_in front
    words_front =
        ap₂ (λ n (xs : List ℕ). numbers_in (word_count n) xs) count_front (drop-append-le 12 front more long)
        ∙ numbers-append (word_count (count_in front)) (drop 12 front) more (omega (arith, there, length-drop 12 front))

    ends_front : ends_in (front ++ more) ≡ ends_in front
    ends_front = ap₂ (λ n (words : List ℕ). take n (row_of words)) count_front words_front

    head_front : (most at end other : ℕ) → IsUnfit most front ≡ false → head_left most at other (front ++ more) ≡ head_left most at end front
    head_front most at end other fit =
        head_fit most at other (front ++ more) (omega (arith, long, length-append front more)) (unfit_front most ∙ fit) (omega (arith, there, head_len_front, length-append front more))
        ∙ ((λ i. cond (ends_agree (occupied_front i) (count_front i) (words_front i)) None (Some (at + head_len_front i - 8))) ∙ sym (head_fit most at end front long fit there))

    module _ (all : block_len front ≤ length front) where
      behind_head : drop (head_len (front ++ more)) (front ++ more) ≡ drop (head_len front) front ++ more
      behind_head = ap (λ n. drop n (front ++ more)) head_len_front ∙ drop-append-le (head_len front) front more there

      slots_all : min (count_in front) (length (drop (head_len front) front) / 8) ≡ count_in front
      slots_all = omega (arith, all, length-drop (head_len front) front)

      slots_front : slots_in (front ++ more) ≡ slots_in front
      slots_front =
          let slots = drop (head_len front) front in
          let enough : min (count_in front) (length (slots ++ more) / 8) ≡ count_in front = omega (arith, all, length-drop (head_len front) front, length-append slots more) in
          ap₂ (λ n (xs : List ℕ). numbers_in (min n (length xs / 8)) xs) count_front behind_head
          ∙ (ap (λ n. numbers_in n (slots ++ more)) enough
          ∙ (numbers-append (count_in front) slots more (omega (arith, all, length-drop (head_len front) front)) ∙ ap (λ n. numbers_in n slots) (sym slots_all)))

      walk_front : (width block at end other : ℕ) → slots_found width block at other (front ++ more) ≡ slots_found width block at end front
      walk_front width block at end other =
          let quotients = places (64 * block) (word_bits (occupied_in front)) in
          let found = walk (count_in front) width quotients 0 (ends_in front) (slots_in front) in
          (λ i. placed (at + head_len_front i) other (slots_front i)
          (walk (count_front i) width (places (64 * block) (word_bits (occupied_front i))) 0 (ends_front i) (slots_front i)))
          ∙ placed_same (at + head_len front) end other (slots_in front) found (λ k is.
          let h = walk_left (count_in front) width 0 quotients (ends_in front) (slots_in front) k is in
          omega (arith, h, length_ends_in front, length-numbers (min (count_in front) (length (drop (head_len front) front) / 8)) (drop (head_len front) front), slots_all))

-- ---- all of them

-- enough is there of so many blocks, or they leave their text nowhere
abbrev pub AreEnough : ℕ → ℕ → ℕ → ℕ → ℕ → ℕ → List ℕ → Type 0
AreEnough n width block most at end bytes = (blocks_bytes n most ≤ length bytes) ⊎ ((blocks_found n width block most at end bytes).left ≡ None)

module _ (n width block most at end : ℕ) (front : List ℕ) where
  abbrev rest : Found
  rest = blocks_found n width (suc block) (most - count_in front) (at + block_len front) end (drop (block_len front) front)

  -- what breaks no rule
  parts : (blocks_found (suc n) width block most at end front).left ≡ None → (head_left most at end front ≡ None) × ((slots_found width block at end front).left ≡ None) × (rest.left ≡ None)
  parts whole =
      let both = behind_none (block_found width block most at end front) rest whole in
      let one = behind_none (record { pieces = []; left = head_left most at end front }) (slots_found width block at end front) both.0 in
      (one.0, one.1, both.1)

  enough_head : AreEnough (suc n) width block most at end front → 12 ≤ length front
  enough_head (inl long) = omega (arith, long)
  enough_head (inr whole) = (head_there most at end front (parts whole).0).0

  enough_fields : count_in front ≤ most → AreEnough (suc n) width block most at end front → head_len front ≤ length front
  enough_fields few (inl long) = omega (arith, few, long)
  enough_fields few (inr whole) = (head_there most at end front (parts whole).0).1

  enough_slots : count_in front ≤ most → AreEnough (suc n) width block most at end front → block_len front ≤ length front
  enough_slots few (inl long) = omega (arith, few, long)
  enough_slots few (inr whole) =
      let head = (head_there most at end front (parts whole).0).1 in
      let quotients = places (64 * block) (word_bits (occupied_in front)) in
      let walked = walk (count_in front) width quotients 0 (ends_in front) (slots_in front) in
      let there = walk_whole (count_in front) width 0 quotients (ends_in front) (slots_in front) (omega (arith, length_ends_in front))
      (map_none (slot_place (at + head_len front) end (slots_in front)) walked.left (parts whole).1) in
      omega (
        arith,
        head,
        there,
        length_ends_in front,
        length-numbers (min (count_in front) (length (drop (head_len front) front) / 8)) (drop (head_len front) front),
        length-drop (head_len front) front,
      )

  enough_rest : count_in front ≤ most → AreEnough (suc n) width block most at end front →
      AreEnough n width (suc block) (most - count_in front) (at + block_len front) end (drop (block_len front) front)
  enough_rest few (inl long) = inl (omega (arith, few, long, length-drop (block_len front) front))
  enough_rest few (inr whole) = inr (parts whole).2

-- more bytes behind them change nothing
pub found_front : (n width block most at end other : ℕ) (front more : List ℕ) → AreEnough n width block most at end front →
    blocks_found n width block most at other (front ++ more) ≡ blocks_found n width block most at end front
found_front zero width block most at end other front more enough = refl
found_front (suc n) width block most at end other front more enough =
    let long = enough_head n width block most at end front enough in
    let longer : 12 ≤ length (front ++ more) = omega (arith, long, length-append front more) in
    elim (cases_Bool (IsUnfit most front)) [
      | inl unfit ↦ found_unfit n width block most at other (front ++ more) longer (unfit_front front more long most ∙ unfit) ∙ sym (found_unfit n width block most at end front long unfit)
      | inr fit ↦
          (let few = few_of most front fit in
          let fields = enough_fields n width block most at end front few enough in
          let all = enough_slots n width block most at end front few enough in
          let count = count_front front more long in
          let len : block_len (front ++ more) ≡ block_len front = ap (λ n. 12 + 8 * word_count n + 8 * n) count in
          let later : drop (block_len (front ++ more)) (front ++ more) ≡ drop (block_len front) front ++ more =
          ap (λ n. drop n (front ++ more)) len ∙ drop-append-le (block_len front) front more all in
          let first : block_found width block most at other (front ++ more) ≡ block_found width block most at end front =
          ap₂ (λ (left : Option ℕ) (found : Found). behind (record { pieces = []; left = left }) found) (head_front front more long fields most at end other fit)
          (walk_front front more long fields all width block at end other) in
          ap₂ (λ (first second : Found). behind first second) first
          ((λ i. blocks_found n width (suc block) (most - count i) (at + len i) other (later i))
          ∙ found_front n width (suc block) (most - count_in front) (at + block_len front) end other (drop (block_len front) front) more
          (enough_rest n width block most at end front few enough)))
    ]
