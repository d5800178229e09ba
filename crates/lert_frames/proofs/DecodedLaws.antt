-- What is to come of a frame, behind the steps of a decoder.
use Rattle.std.proofs.Common.{◌≡◌, ℕ, suc, ◌+◌, ◌-◌, ◌*◌, ◌/◌, ◌≤◌, nat_lt, min, Bool, false, replicate, List, [], ◌++◌, length, take, drop, Option, Some, None, option_map, refl, sym, ap, ap₂}
use Rattle.std.{proofs.Common.{◌∙◌, inl, inr, arith, append_assoc, length-drop, lt-ltb, le-ltb}, specs.Prelude.if◌then◌else◌, proofs.lemmas.Bool.{cases_lt, cond-true, cond-false}}
use Rattle.std.proofs.lemmas.List.{drop-drop, nil_from_length, take-append-le}
use Rattle.lert_spec.specs.declared.piece.Piece.{Piece}
use Rattle.lert_blocks.{specs.declared.decoder.Walk.Walk, specs.Decoding.{rest_found, with_front}}
use Rattle.lert_blocks.specs.Frame.{numbers_in, head_len, slots_in, ends_in, count_in, words_in, block_len, blocks_len, head_left, slots_found, block_found, blocks_found, placed, slot_place}
use Rattle.lert_blocks.{specs.Text.word_count, specs.Walk.{Found, behind, behind_at, nothing, walk, places}}
use Rattle.lert_frames.{specs.declared.decoder.Ahead.Ahead, specs.declared.decoder.Present.Present, specs.declared.fields.Head.Head, specs.Steps.{AreFields, AreWords, fields_len}}
use Rattle.lert_frames.{proofs.FieldLaws.fields_are, proofs.NumberLaws.length-numbers, specs.Decoded.{words_there, ends_there, slots_there, block_rest, blocks_rest, found_by, end_by}}
use Rattle.lert_frames.{proofs.EndLaws.{length-ends_there, ends_there-rest}, proofs.SlotLaws.{slots_len, length-slots_there, slots_passed}}
use Rattle.lert_slotbits.{specs.Bits.{word_bits, row_of}, proofs.RowLemmas.length_row}

-- pieces that are found, and nothing that breaks a rule
abbrev pub given : List Piece → Found
given put = record { pieces = put; left = None }

pub behind-given : (put : List Piece) (first second : Found) → behind (behind (given put) first) second ≡ behind (given put) (behind first second)
behind-given put first second = by_left first.left first second
  where
    by_left : (left : Option ℕ) (first second : Found) →
        behind_at left (record { pieces = put ++ first.pieces; left = left }) second ≡ behind (given put) (behind_at left (record { pieces = first.pieces; left = left }) second)
    by_left None first second = ap (λ (ps : List Piece). record { pieces = ps; left = second.left }) (append_assoc put first.pieces second.pieces)
    by_left (Some place) first second = refl

-- the first place that breaks a rule is that of all
pub left_first : (at : ℕ) (first second : Found) → first.left ≡ Some at → (behind first second).left ≡ Some at
left_first at first second is = ap (λ (left : Option ℕ). (behind_at left first second).left) is ∙ is

-- ---- slots of a block that are decoded

place_behind : (place end from upto k : ℕ) (slots : List ℕ) → from ≤ upto → upto ≤ length slots →
    slot_place (place + 8 * from) end (drop from slots) (upto - from + k) ≡ slot_place (place + 8 * upto) end (drop upto slots) k
place_behind place end from upto k slots low high = elim (cases_lt k (length (drop upto slots))) [
  | inl there ↦
      cond-true (nat_lt (upto - from + k) (length (drop from slots))) (place + 8 * from + 8 * (upto - from + k)) end
      (lt-ltb _ _ (omega (arith, there, low, high, length-drop from slots, length-drop upto slots)))
      ∙ ((let e : place + 8 * from + 8 * (upto - from + k) ≡ place + 8 * upto + 8 * k = omega (arith, low) in e)
      ∙ sym (cond-true (nat_lt k (length (drop upto slots))) (place + 8 * upto + 8 * k) end (lt-ltb _ _ there)))
  | inr past ↦
      cond-false (nat_lt (upto - from + k) (length (drop from slots))) (place + 8 * from + 8 * (upto - from + k)) end
      (le-ltb _ _ (omega (arith, past, low, high, length-drop from slots, length-drop upto slots)))
      ∙ sym (cond-false (nat_lt k (length (drop upto slots))) (place + 8 * upto + 8 * k) end (le-ltb _ _ past))
]

placed_behind : (place end from upto : ℕ) (slots : List ℕ) (put : List Piece) (found : Found) → from ≤ upto → upto ≤ length slots →
    placed (place + 8 * from) end (drop from slots) (with_front put (upto - from) found) ≡ behind (given put) (placed (place + 8 * upto) end (drop upto slots) found)
placed_behind place end from upto slots put found low high = ap (λ (left : Option ℕ). record { pieces = put ++ found.pieces; left = left }) (by_left found.left)
  where
    by_left : (left : Option ℕ) →
        option_map (slot_place (place + 8 * from) end (drop from slots)) (option_map (λ k. upto - from + k) left) ≡ option_map (slot_place (place + 8 * upto) end (drop upto slots)) left
    by_left None = refl
    by_left (Some k) = ap Some (place_behind place end from upto k slots low high)

-- where a slot stands, of so many that are there
abbrev pub slot_spot : ℕ → ℕ → ℕ → ℕ → ℕ
slot_spot place end count at = if nat_lt at count then place + 8 * at else end

slot_at : (place end from at count : ℕ) (slots : List ℕ) → length slots ≡ count → from ≤ at → from ≤ count →
    slot_place (place + 8 * from) end (drop from slots) (at - from) ≡ slot_spot place end count at
slot_at place end from at count slots long low within = elim (cases_lt at count) [
  | inl there ↦
      cond-true (nat_lt (at - from) (length (drop from slots))) (place + 8 * from + 8 * (at - from)) end (lt-ltb _ _ (omega (arith, there, low, long, length-drop from slots)))
      ∙ ((let e : place + 8 * from + 8 * (at - from) ≡ place + 8 * at = omega (arith, low) in e) ∙ sym (cond-true (nat_lt at count) (place + 8 * at) end (lt-ltb _ _ there)))
  | inr past ↦
      cond-false (nat_lt (at - from) (length (drop from slots))) (place + 8 * from + 8 * (at - from)) end (le-ltb _ _ (omega (arith, past, low, long, length-drop from slots)))
      ∙ sym (cond-false (nat_lt at count) (place + 8 * at) end (le-ltb _ _ past))
]

-- a word's run ends
ends_passed : (some passed : ℕ) (ends : List ℕ) → passed ≡ min some 64 → ends_there (some - passed) (drop 8 ends) ≡ drop passed (ends_there some ends)
ends_passed some passed ends is = elim (cases_lt 64 some) [
  | inl more ↦
      let all : passed ≡ 64 = omega (arith, is, more) in
      ap (λ n. ends_there (some - n) (drop 8 ends)) all ∙ (ends_there-rest some ends more ∙ ap (λ n. drop n (ends_there some ends)) (sym all))
  | inr last ↦
      nil_from_length (ends_there (some - passed) (drop 8 ends)) (length-ends_there (some - passed) (drop 8 ends) ∙ omega (arith, is, last))
      ∙ sym (nil_from_length (drop passed (ends_there some ends)) (length-drop passed (ends_there some ends) ∙ (let long = length-ends_there some ends in omega (arith, long, is, last))))
]

module _ (width place end : ℕ) (block : Present) (ends slots : List ℕ) (walk : Walk) (upto passed : ℕ) (put : List Piece) (passed_is : passed ≡ min block.some 64)
    (low : block.from ≤ upto) (high : passed ≤ upto) (within : upto ≤ slots_len block.some ends slots)
    (decoded : rest_found width block.first block.walk (drop block.from (ends_there block.some ends)) (drop block.from (slots_there block.some ends slots))
    ≡ with_front put (upto - block.from) (rest_found width block.first walk (drop upto (ends_there block.some ends)) (drop upto (slots_there block.some ends slots)))) where
  -- the block behind the word
  abbrev pub passed_block : Present
  passed_block = record { first = block.first; some = block.some - passed; from = upto - passed; walk = walk }

  all_ends : drop (upto - passed) (ends_there (block.some - passed) (drop 8 ends)) ≡ drop upto (ends_there block.some ends)
  all_ends =
      ap (drop (upto - passed)) (ends_passed block.some passed ends passed_is)
      ∙ (drop-drop (upto - passed) passed (ends_there block.some ends) ∙ ap (λ n. drop n (ends_there block.some ends)) (let e : passed + (upto - passed) ≡ upto = omega (arith, high) in e))

  all_slots : drop (upto - passed) (slots_there (block.some - passed) (drop 8 ends) (drop (8 * passed) slots)) ≡ drop upto (slots_there block.some ends slots)
  all_slots =
      ap (drop (upto - passed)) (slots_passed block.some passed ends slots passed_is (omega (arith, high, within)))
      ∙ (drop-drop (upto - passed) passed (slots_there block.some ends slots) ∙ ap (λ n. drop n (slots_there block.some ends slots))
      (let e : passed + (upto - passed) ≡ upto = omega (arith, high) in e))

  block_gives : block_rest width block place end ends slots ≡ behind (given put) (block_rest width passed_block (place + 8 * passed) end (drop 8 ends) (drop (8 * passed) slots))
  unfolding block_rest
  block_gives =
      let spot : place + 8 * upto ≡ place + 8 * passed + 8 * (upto - passed) = omega (arith, high) in
      let es = sym all_ends in
      let ss = sym all_slots in
      ap (placed (place + 8 * block.from) end (drop block.from (slots_there block.some ends slots))) decoded
      ∙ (placed_behind place end block.from upto (slots_there block.some ends slots) put
      (rest_found width block.first walk (drop upto (ends_there block.some ends)) (drop upto (slots_there block.some ends slots))) low
      (omega (arith, within, length-slots_there block.some ends slots))
      ∙ (λ i. behind (given put) (placed (spot i) end (ss i) (rest_found width block.first walk (es i) (ss i)))))

  rest_same : (ahead : Ahead) → passed ≤ block.some →
      blocks_rest width block ahead place end slots ≡ blocks_rest width passed_block ahead (place + 8 * passed) end (drop (8 * passed) slots)
  rest_same ahead few =
      let spot : place + 8 * block.some ≡ place + 8 * passed + 8 * (block.some - passed) = omega (arith, few) in
      let behind_is : drop (8 * block.some) slots ≡ drop (8 * (block.some - passed)) (drop (8 * passed) slots) =
      sym (drop-drop (8 * (block.some - passed)) (8 * passed) slots ∙ ap (λ n. drop n slots) (let e : 8 * passed + 8 * (block.some - passed) ≡ 8 * block.some = omega (arith, few) in e)) in
      λ i. blocks_found ahead.blocks width ahead.next ahead.most (spot i) end (behind_is i)

  -- what is found is the new pieces and what is found then
  pub word_gives : (ahead : Ahead) → found_by width block ahead place end ends slots
      ≡ behind (given put) (found_by width passed_block ahead (place + 8 * passed) end (drop 8 ends) (drop (8 * passed) slots))
  unfolding found_by
  word_gives ahead =
      let later = block_rest width passed_block (place + 8 * passed) end (drop 8 ends) (drop (8 * passed) slots) in
      ap₂ (λ (first second : Found). behind first second) block_gives (rest_same ahead (omega (arith, passed_is)))
      ∙ behind-given put later (blocks_rest width passed_block ahead (place + 8 * passed) end (drop (8 * passed) slots))

  pub word_end : (ahead : Ahead) → end_by passed_block ahead (place + 8 * passed) (drop (8 * passed) slots) ≡ end_by block ahead place slots
  word_end ahead =
      let few : passed ≤ block.some = omega (arith, passed_is) in
      let spot : place + 8 * passed + 8 * (block.some - passed) ≡ place + 8 * block.some = omega (arith, few) in
      let behind_is : drop (8 * (block.some - passed)) (drop (8 * passed) slots) ≡ drop (8 * block.some) slots =
      drop-drop (8 * (block.some - passed)) (8 * passed) slots ∙ ap (λ n. drop n slots) (let e : 8 * passed + 8 * (block.some - passed) ≡ 8 * block.some = omega (arith, few) in e) in
      λ i. spot i + blocks_len ahead.blocks (behind_is i)

-- a slot that breaks a rule
pub word_left : (width place end at spot : ℕ) (block : Present) (ahead : Ahead) (ends slots : List ℕ) → block.from ≤ at → block.from ≤ slots_len block.some ends slots →
    slot_spot place end (slots_len block.some ends slots) at ≡ spot →
    (rest_found width block.first block.walk (drop block.from (ends_there block.some ends)) (drop block.from (slots_there block.some ends slots))).left ≡ Some (at - block.from) →
    (found_by width block ahead place end ends slots).left ≡ Some spot
unfolding found_by block_rest
word_left width place end at spot block ahead ends slots low within spot_is left =
    left_first spot _ (blocks_rest width block ahead place end slots)
    (ap (option_map (slot_place (place + 8 * block.from) end (drop block.from (slots_there block.some ends slots)))) left
    ∙ ap Some (slot_at place end block.from at (slots_len block.some ends slots) (slots_there block.some ends slots) (length-slots_there block.some ends slots) low within ∙ spot_is))

-- ---- a block that is begun

-- where all of a block is decoded, the blocks behind it are to come
pub rest_decoded : (width place end : ℕ) (block : Present) (ends slots : List ℕ) → block.from ≡ block.some → block_rest width block place end ends slots ≡ nothing
unfolding block_rest
rest_decoded width place end block ends slots all =
    let no_ends : drop block.from (ends_there block.some ends) ≡ [] =
    nil_from_length (drop block.from (ends_there block.some ends))
    (length-drop block.from (ends_there block.some ends) ∙ (let long = length-ends_there block.some ends in omega (arith, long, all))) in
    ap (λ (es : List Bool). placed (place + 8 * block.from) end (drop block.from (slots_there block.some ends slots))
    (rest_found width block.first block.walk es (drop block.from (slots_there block.some ends slots)))) no_ends

pub found_ahead : (width place end : ℕ) (block : Present) (ahead : Ahead) (ends slots : List ℕ) → block.some ≡ 0 → block.from ≡ 0 →
    found_by width block ahead place end ends slots ≡ blocks_found ahead.blocks width ahead.next ahead.most place end slots
unfolding found_by
found_ahead width place end block ahead ends slots none from =
    let spot : place + 8 * block.some ≡ place = omega (arith, none) in
    let behind_is : drop (8 * block.some) slots ≡ slots = ap (λ n. drop (8 * n) slots) none in
    ap (λ (first : Found). behind first (blocks_rest width block ahead place end slots)) (rest_decoded width place end block ends slots (from ∙ sym none))
    ∙ (λ i. blocks_found ahead.blocks width ahead.next ahead.most (spot i) end (behind_is i))

module _ (width place end : ℕ) (block : Present) (ahead : Ahead) (ends slots : List ℕ) (none : block.some ≡ 0) (from : block.from ≡ 0) (some : 1 ≤ ahead.blocks) where
  more_blocks : ahead.blocks ≡ suc (ahead.blocks - 1)
  more_blocks = omega (arith, some)

  found_first : found_by width block ahead place end ends slots
      ≡ behind (block_found width ahead.next ahead.most place end slots)
      (blocks_found (ahead.blocks - 1) width (suc ahead.next) (ahead.most - count_in slots) (place + block_len slots) end (drop (block_len slots) slots))
  found_first = found_ahead width place end block ahead ends slots none from ∙ ap (λ n. blocks_found n width ahead.next ahead.most place end slots) more_blocks

  -- its fields leave the text
  pub fields_left : (at : ℕ) → head_left ahead.most place end slots ≡ Some at → (found_by width block ahead place end ends slots).left ≡ Some at
  fields_left at is =
      ap (λ (found : Found). found.left) found_first
      ∙ left_first at (block_found width ahead.next ahead.most place end slots)
      (blocks_found (ahead.blocks - 1) width (suc ahead.next) (ahead.most - count_in slots) (place + block_len slots) end (drop (block_len slots) slots))
      (left_first at (record { pieces = []; left = head_left ahead.most place end slots }) (slots_found width ahead.next place end slots) is)

  -- or it is begun
  module _ (head : Head) (words : List ℕ) (are : AreFields head slots) (fine : head_left ahead.most place end slots ≡ None)
      (there : AreWords (words_in slots) (word_count head.count) words) where
    abbrev pub begun_block : Present
    begun_block = record { first = 64 * ahead.next; some = head.count; from = 0; walk = record { occupied = head.occupied; least = 0 } }

    abbrev pub begun_ahead : Ahead
    begun_ahead = record { next = ahead.next + 1; blocks = ahead.blocks - 1; most = ahead.most - head.count }

    begun_slots : slots_there head.count words (drop (fields_len head) slots) ≡ slots_in slots
    begun_slots =
        let few : min (min head.count (64 * words_there head.count words)) (length (drop (fields_len head) slots) / 8) ≡ min head.count (length (drop (fields_len head) slots) / 8) =
        omega (arith, there.long) in
        ap (λ n. numbers_in n (drop (fields_len head) slots)) few
        ∙ ap₂ (λ n m. numbers_in (min n (length (drop m slots) / 8)) (drop m slots)) are.count (sym (fields_are head slots are))

    begun_ends : ends_there head.count words ≡ ends_in slots
    begun_ends =
        let all : words_there head.count words ≡ word_count head.count = omega (arith, there.long) in
        let row = row_of (words_in slots) in
        let long : length row ≡ 64 * word_count (count_in slots) = length_row (words_in slots) ∙ ap (λ n. 64 * n) (length-numbers (word_count (count_in slots)) (drop 12 slots)) in
        ap (λ (ws : List ℕ). take head.count (row_of ws ++ replicate head.count false)) (ap (λ n. numbers_in n words) all ∙ there.are)
        ∙ (take-append-le head.count row (replicate head.count false) (omega (arith, long, are.count)) ∙ ap (λ n. take n row) are.count)

    block_is : block_rest width begun_block (place + fields_len head) end words (drop (fields_len head) slots) ≡ slots_found width ahead.next place end slots
    unfolding block_rest
    block_is =
        let spot : place + fields_len head + 8 * 0 ≡ place + head_len slots = omega (arith, fields_are head slots are) in
        let count : length (ends_there head.count words) ≡ count_in slots = length-ends_there head.count words ∙ are.count in
        λ i. placed (spot i) end (begun_slots i) (walk (count i) width (places (64 * ahead.next) (word_bits (are.occupied i))) 0 (begun_ends i) (begun_slots i))

    later_is : blocks_rest width begun_block begun_ahead (place + fields_len head) end (drop (fields_len head) slots)
        ≡ blocks_found (ahead.blocks - 1) width (suc ahead.next) (ahead.most - count_in slots) (place + block_len slots) end (drop (block_len slots) slots)
    later_is =
        let len : fields_len head + 8 * head.count ≡ block_len slots = omega (arith, fields_are head slots are, are.count) in
        let next : ahead.next + 1 ≡ suc ahead.next = omega arith in
        let spot : place + fields_len head + 8 * head.count ≡ place + block_len slots = omega (arith, len) in
        let behind_is : drop (8 * head.count) (drop (fields_len head) slots) ≡ drop (block_len slots) slots =
        drop-drop (8 * head.count) (fields_len head) slots ∙ ap (λ n. drop n slots) len in
        λ i. blocks_found (ahead.blocks - 1) width (next i) (ahead.most - are.count i) (spot i) end (behind_is i)

    pub begin_gives : found_by width block ahead place end ends slots ≡ behind (given []) (found_by width begun_block begun_ahead (place + fields_len head) end words (drop (fields_len head) slots))
    unfolding found_by
    begin_gives =
        let rest = blocks_found (ahead.blocks - 1) width (suc ahead.next) (ahead.most - count_in slots) (place + block_len slots) end (drop (block_len slots) slots) in
        let found = slots_found width ahead.next place end slots in
        found_first
        ∙ (ap (λ (left : Option ℕ). behind (behind (record { pieces = []; left = left }) found) rest) fine
        ∙ ap₂ (λ (first second : Found). behind first second) (sym block_is) (sym later_is))

    pub begin_end : end_by begun_block begun_ahead (place + fields_len head) (drop (fields_len head) slots) ≡ end_by block ahead place slots
    begin_end =
        let len : fields_len head + 8 * head.count ≡ block_len slots = omega (arith, fields_are head slots are, are.count) in
        let behind_is : drop (8 * head.count) (drop (fields_len head) slots) ≡ drop (block_len slots) slots =
        drop-drop (8 * head.count) (fields_len head) slots ∙ ap (λ n. drop n slots) len in
        let before : end_by block ahead place slots ≡ place + blocks_len ahead.blocks slots =
        ap₂ (λ n m. place + n + blocks_len ahead.blocks (drop m slots)) (let e : 8 * block.some ≡ 0 = omega (arith, none) in e) (let e : 8 * block.some ≡ 0 = omega (arith, none) in e)
        ∙ ap (λ n. n + blocks_len ahead.blocks slots) (let e : place + 0 ≡ place = omega arith in e) in
        let first : blocks_len ahead.blocks slots ≡ block_len slots + blocks_len (ahead.blocks - 1) (drop (block_len slots) slots) = ap (λ n. blocks_len n slots) more_blocks in
        let rest = ap (blocks_len (ahead.blocks - 1)) behind_is in
        let sum : place + fields_len head + 8 * head.count + blocks_len (ahead.blocks - 1) (drop (8 * head.count) (drop (fields_len head) slots)) ≡ place + blocks_len ahead.blocks slots =
        omega (arith, len, first, rest) in
        sum ∙ sym before
