-- What is to come of a decoder rests on the front of its bytes alone, as what bytes say as blocks does.
use Rattle.std.proofs.Common.{◌≡◌, ℕ, ◌+◌, ◌*◌, ◌≤◌, ◌⊎◌, Bool, false, replicate, List, ◌++◌, length, take, drop, None, sym, ap, ap₂, ◌∙◌, inl, inr, arith, length-append, length-drop}
use Rattle.std.{proofs.lemmas.Bool.cases_eq, proofs.lemmas.List.drop-append-le}
use Rattle.lert_slotbits.specs.Bits.{word_bits, row_of}
use Rattle.lert_blocks.{specs.Decoding.rest_found, specs.Frame.{numbers_in, blocks_found, placed, slot_place}, specs.Text.word_count, specs.Walk.{Found, behind, places}}
use Rattle.lert_blocks.{proofs.BlockBack.behind_none, proofs.WalkBack.map_none}
use Rattle.lert_frames.{specs.declared.decoder.Ahead.Ahead, specs.declared.decoder.Present.Present, specs.Decoded.{words_there, ends_there, slots_there, block_rest, blocks_rest, found_by}}
use Rattle.lert_frames.{specs.Place.blocks_bytes, proofs.DecodedLaws.rest_decoded, proofs.EndLaws.length-ends_there, proofs.FrontLaws.{AreEnough, found_front, placed_same}}
use Rattle.lert_frames.{proofs.NumberLaws.numbers-append, proofs.SlotLaws.{slots_len, length-slots_there}, proofs.ThereLaws.{walk_left, walk_whole}}

-- all slots of a block are there, with the words of their run ends
pub record AreThere (some : ℕ) (ends slots : List ℕ) : Type 0 where
  pub words : 8 * word_count some ≤ length ends
  pub slots_long : 8 * some ≤ length slots

-- ---- the present block, with more bytes behind it

module _ (some : ℕ) (ends slots : List ℕ) (there : AreThere some ends slots) where
  words_all : words_there some ends ≡ word_count some
  words_all = omega (arith, there.words)

  slots_all : slots_len some ends slots ≡ some
  slots_all = omega (arith, there.words, there.slots_long)

  module _ (more_ends more : List ℕ) where
    ends_front : ends_there some (ends ++ more_ends) ≡ ends_there some ends
    ends_front =
        let all : words_there some (ends ++ more_ends) ≡ word_count some = omega (arith, there.words, length-append ends more_ends) in
        ap (λ (words : List ℕ). take some (row_of words ++ replicate some false))
        (ap (λ n. numbers_in n (ends ++ more_ends)) all ∙ (numbers-append (word_count some) ends more_ends there.words ∙ ap (λ n. numbers_in n ends) (sym words_all)))

    slots_front : slots_there some (ends ++ more_ends) (slots ++ more) ≡ slots_there some ends slots
    slots_front =
        let all : slots_len some (ends ++ more_ends) (slots ++ more) ≡ some = omega (arith, there.words, there.slots_long, length-append ends more_ends, length-append slots more) in
        ap (λ n. numbers_in n (slots ++ more)) all ∙ (numbers-append some slots more there.slots_long ∙ ap (λ n. numbers_in n slots) (sym slots_all))

module _ (width place end : ℕ) (block : Present) (ends slots : List ℕ) where
  abbrev ends_left : List Bool
  ends_left = drop block.from (ends_there block.some ends)

  abbrev slots_left : List ℕ
  slots_left = drop block.from (slots_there block.some ends slots)

  block_front : (other : ℕ) (more_ends more : List ℕ) → AreThere block.some ends slots →
      block_rest width block place other (ends ++ more_ends) (slots ++ more) ≡ block_rest width block place end ends slots
  unfolding block_rest
  block_front other more_ends more there =
      let es = ends_front block.some ends slots there more_ends more in
      let ss = slots_front block.some ends slots there more_ends more in
      (λ i. placed (place + 8 * block.from) other (drop block.from (ss i)) (rest_found width block.first block.walk (drop block.from (es i)) (drop block.from (ss i))))
      ∙ placed_same (place + 8 * block.from) end other slots_left (rest_found width block.first block.walk ends_left slots_left) (λ k is.
      let h = walk_left (length ends_left) width block.walk.least (places block.first (word_bits block.walk.occupied)) ends_left slots_left k is in
      omega (
        arith,
        h,
        length-drop block.from (ends_there block.some ends),
        length-ends_there block.some ends,
        length-drop block.from (slots_there block.some ends slots),
        length-slots_there block.some ends slots,
        slots_all block.some ends slots there,
      ))

  -- where it breaks no rule, all of it is decoded, or there
  rest_there : block.from ≤ block.some → (block_rest width block place end ends slots).left ≡ None → (block.from ≡ block.some) ⊎ AreThere block.some ends slots
  unfolding block_rest
  rest_there few whole = elim (cases_eq block.from block.some) [
    | inl same ↦ inl same
    | inr other ↦
        (let h = walk_whole (length ends_left) width block.walk.least (places block.first (word_bits block.walk.occupied)) ends_left slots_left (omega arith)
        (map_none (slot_place (place + 8 * block.from) end slots_left) (rest_found width block.first block.walk ends_left slots_left).left whole) in
        let all : block.some ≤ slots_len block.some ends slots = omega (
          arith,
          h,
          few,
          other,
          length-drop block.from (ends_there block.some ends),
          length-ends_there block.some ends,
          length-drop block.from (slots_there block.some ends slots),
          length-slots_there block.some ends slots,
        ) in
        inr (record { words = omega (arith, all); slots_long = omega (arith, all) }))
  ]

-- ---- and the blocks behind it

-- enough is there, or it leaves its text nowhere
abbrev pub IsEnough : ℕ → Present → Ahead → ℕ → ℕ → List ℕ → List ℕ → Type 0
IsEnough width block ahead place end ends slots =
    (AreThere block.some ends slots × (8 * block.some + blocks_bytes ahead.blocks ahead.most ≤ length slots)) ⊎ ((found_by width block ahead place end ends slots).left ≡ None)

module _ (width place end : ℕ) (block : Present) (ahead : Ahead) (ends slots : List ℕ) (few : block.from ≤ block.some) (hand : 8 * block.from ≤ length slots) where
  slots_of : (block.from ≡ block.some) ⊎ AreThere block.some ends slots → 8 * block.some ≤ length slots
  slots_of (inl same) = omega (arith, same, hand)
  slots_of (inr there) = there.slots_long

  enough_parts : IsEnough width block ahead place end ends slots → ((block.from ≡ block.some) ⊎ AreThere block.some ends slots)
      × AreEnough ahead.blocks width ahead.next ahead.most (place + 8 * block.some) end (drop (8 * block.some) slots)
  unfolding found_by
  enough_parts (inl enough) = (inr enough.0, inl (omega (arith, enough.1, length-drop (8 * block.some) slots)))
  enough_parts (inr whole) =
      let parts = behind_none (block_rest width block place end ends slots) (blocks_rest width block ahead place end slots) whole in
      (rest_there width place end block ends slots few parts.0, inr parts.1)

  first_front : (other : ℕ) (more_ends more : List ℕ) → (block.from ≡ block.some) ⊎ AreThere block.some ends slots →
      block_rest width block place other (ends ++ more_ends) (slots ++ more) ≡ block_rest width block place end ends slots
  first_front other more_ends more (inl same) =
      rest_decoded width place other block (ends ++ more_ends) (slots ++ more) same ∙ sym (rest_decoded width place end block ends slots same)
  first_front other more_ends more (inr there) = block_front width place end block ends slots other more_ends more there

  -- more bytes behind them change nothing
  pub by_front : (other : ℕ) (more_ends more : List ℕ) → IsEnough width block ahead place end ends slots →
      found_by width block ahead place other (ends ++ more_ends) (slots ++ more) ≡ found_by width block ahead place end ends slots
  unfolding found_by
  by_front other more_ends more enough =
      let parts = enough_parts enough in
      let later : blocks_rest width block ahead place other (slots ++ more) ≡ blocks_rest width block ahead place end slots =
      ap (blocks_found ahead.blocks width ahead.next ahead.most (place + 8 * block.some) other) (drop-append-le (8 * block.some) slots more (slots_of parts.0))
      ∙ found_front ahead.blocks width ahead.next ahead.most (place + 8 * block.some) end other (drop (8 * block.some) slots) more parts.1 in
      ap₂ (λ (first second : Found). behind first second) (first_front other more_ends more parts.0) later
