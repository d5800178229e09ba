-- The slots at hand of a word of run ends, among all that are to come.
use Rattle.std.{proofs.Common.{◌≡◌, ℕ, ◌-◌, ◌*◌, ◌/◌, ◌<◌, ◌≤◌, min, List, [], ◌++◌, length, take, drop, sym, ap, ◌∙◌, inl, inr, arith, length-append, length-drop}, proofs.lemmas.Bool.cases_lt}
use Rattle.std.proofs.lemmas.List.{drop_all, take-append-drop}
use Rattle.lert_slotbits.specs.Bits.{word_bits}
use Rattle.lert_blocks.{specs.declared.decoder.Slots.Slots, specs.Decoding.AreSlots, specs.Frame.numbers_in}
use Rattle.lert_frames.{specs.Decoded.{words_there, ends_there, slots_there}, specs.declared.slots.WordEnds.WordEnds, specs.declared.window.Window.Window, specs.Steps.{AreAtHand, AreEnds}}
use Rattle.lert_frames.{specs.Window.{at_hand, count_of, to_come}, proofs.FieldLaws.length_hand, proofs.EndLaws.{length-ends_there, ends_near}}
use Rattle.lert_frames.proofs.NumberLaws.{length-numbers, numbers-append, take-numbers, drop-numbers}

-- how many there are
abbrev pub slots_len : ℕ → List ℕ → List ℕ → ℕ
slots_len some ends slots = min (min some (64 * words_there some ends)) (length slots / 8)

pub length-slots_there : (some : ℕ) (ends slots : List ℕ) → length (slots_there some ends slots) ≡ slots_len some ends slots
length-slots_there some ends slots = length-numbers (slots_len some ends slots) slots

module _ (some : ℕ) (ends slots : List ℕ) (word : WordEnds) (count : ℕ) (hand : List ℕ) (are : AreAtHand some ends slots word count hand) where
  pub hand_within : count ≤ slots_len some ends slots
  hand_within = omega (arith, are.few, are.there, are.words.words)

  -- the rest of them behind those at hand
  pub hand_there : hand ++ drop count (slots_there some ends slots) ≡ slots_there some ends slots
  hand_there =
      ap (λ xs. xs ++ drop count (slots_there some ends slots)) (are.are ∙ sym (take-numbers count (slots_len some ends slots) slots hand_within))
      ∙ take-append-drop count (slots_there some ends slots)

  -- where fewer are at hand than groups may reach, there are no others
  pub hand_short : count < min some 72 → slots_len some ends slots ≤ count
  hand_short few = elim (cases_lt count (64 * word.words)) [
    | inl known ↦ (let short = are.all (omega (arith, few, known)) in omega (arith, short))
    | inr unknown ↦ omega (arith, few, unknown, are.words.words)
  ]

  pub none_behind : slots_len some ends slots ≤ count → drop count (slots_there some ends slots) ≡ []
  none_behind all = drop_all count (slots_there some ends slots) (omega (arith, all, length-slots_there some ends slots))

  -- a slot that isn't at hand isn't there
  pub hand_end : count < 72 → slots_len some ends slots ≤ count
  hand_end near = elim (cases_lt count some) [
    | inl more ↦ hand_short (omega (arith, near, more))
    | inr all ↦ omega (arith, all)
  ]

  pub hand_slots : (given : Slots) → given.slots.now ≡ hand → given.some ≡ some → given.ends ≡ word.first → given.next_ends ≡ word.next →
      AreSlots given (ends_there some ends) (drop count (slots_there some ends slots))
  hand_slots given hand_is some_is first_is next_is = record {
    some = length-ends_there some ends ∙ sym some_is;
    near =
        ends_near some ends word are.words
        ∙ (λ i. take (min (sym some_is i) 72) (word_bits (sym first_is i) ++ word_bits (sym next_is i)));
    missing = λ few.
        let long : length given.slots.now ≡ count = ap (λ (xs : List ℕ). length xs) (hand_is ∙ are.are) ∙ length-numbers count slots in
        none_behind (hand_short (omega (arith, few, long, some_is)));
  }

-- those behind the word that is passed
pub slots_passed : (some passed : ℕ) (ends slots : List ℕ) → passed ≡ min some 64 → passed ≤ slots_len some ends slots →
    slots_there (some - passed) (drop 8 ends) (drop (8 * passed) slots) ≡ drop passed (slots_there some ends slots)
slots_passed some passed ends slots is within =
    let rest : slots_len (some - passed) (drop 8 ends) (drop (8 * passed) slots) ≡ slots_len some ends slots - passed =
    omega (arith, is, within, length-drop 8 ends, length-drop (8 * passed) slots) in
    ap (λ n. numbers_in n (drop (8 * passed) slots)) rest ∙ sym (drop-numbers passed (slots_len some ends slots) slots within)

-- the slots that were read from all that is at hand
pub hand_read : (some : ℕ) (ends slots : List ℕ) (word : WordEnds) (count : ℕ) (hand : List ℕ) (w : Window) (file : List ℕ) → AreEnds some ends word → to_come w file ≡ slots →
    count ≡ min (min (min some 72) (64 * word.words)) (count_of w / 8) → hand ≡ numbers_in count (at_hand w) → (count < min (min some 72) (64 * word.words) → at_hand w ≡ slots) →
    AreAtHand some ends slots word count hand
hand_read some ends slots word count hand w file words come count_is hand_is all = record {
  words = words;
  are = hand_is ∙ (sym (numbers-append count (at_hand w) (drop w.at file) (omega (arith, count_is, length_hand w))) ∙ ap (numbers_in count) come);
  few = omega (arith, count_is);
  there = omega (arith, count_is, length_hand w, ap (λ (xs : List ℕ). length xs) come, length-append (at_hand w) (drop w.at file));
  all = λ few. omega (arith, count_is, few, length_hand w, ap (λ (xs : List ℕ). length xs) (all few));
}

-- what is decoded already is among them
pub hand_from : (from some words count hand ends before : ℕ) → from ≤ some → from ≤ 8 → 8 * from ≤ before → before ≤ hand → (0 < from → 8 ≤ ends) → (8 ≤ ends → 1 ≤ words) →
    count ≡ min (min (min some 72) (64 * words)) (hand / 8) → from ≤ count
hand_from from some words count hand ends before few near there grows known one is = elim (cases_lt 0 from) [
  | inl more ↦ (let word = one (known more) in omega (arith, few, near, there, grows, word, is))
  | inr none ↦ omega (arith, none)
]
