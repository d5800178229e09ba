-- The run ends of a word, and how far a group reaches.
use Rattle.std.proofs.Common.{◌≡◌, ℕ, zero, suc, ◌+◌, ◌-◌, ◌*◌, ◌/◌, ◌%◌, ◌^◌, ◌<◌, ◌≤◌, Bool, true, false, ◌==◌, min, max, bit_or, List, [], ◌∷◌}
use Rattle.std.proofs.Common.{◌++◌, length, get_or, drop, refl, sym, ap, ◌∙◌, inl, inr, arith}
use Rattle.std.specs.Int.{bit_at, w64, trailing_zeros}
use Rattle.std.specs.Int.Count.{trailing_of_zero}
use Rattle.std.proofs.lemmas.Bool.{cases_lt, true≢false}
use Rattle.std.proofs.lemmas.List.{get_or-take, get_or-drop, get_or_append_left, get_or-append_right, length-drop}
use Rattle.std.proofs.lemmas.Nat.{pow_pos}
use Rattle.std.proofs.lemmas.Nat.Bits.{bit_at_or, bit_at_above, bit_at_cat_low, bit_at_cat_high, bit_at-zero, bit_at-trailing_zeros}
use Rattle.lert_slotbits.specs.Bits.{word_bits}
use Rattle.lert_slotbits.proofs.RowLemmas.{bit_of_word, length_word_bits}
use Rattle.lert_slotbits.proofs.WordLemmas.{bit_at-div}
use Rattle.lert_blocks.specs.declared.decoder.Slots.{Slots}
use Rattle.lert_blocks.specs.Walk.{reach}
use Rattle.lert_blocks.specs.Decoding.{AreSlots, IsReach}

-- ---- a word that is shifted up

lowest_bits : (n i : ℕ) → i < 64 → bit_at (n % 2 ^ 64) i ≡ bit_at n i
lowest_bits n i h =
    let whole : (n / 18446744073709551616) * 2 ^ 64 + n % 18446744073709551616 ≡ n = omega arith in
    sym (bit_at_cat_low (n / 2 ^ 64) 64 (n % 2 ^ 64) i h) ∙ ap (λ m. bit_at m i) whole

bit_at_up : (n k i : ℕ) → bit_at (n * 2 ^ k + 0) i ≡ bit_at (n * 2 ^ k) i
bit_at_up n k i = ap (λ m. bit_at m i) (let e : n * 2 ^ k + 0 ≡ n * 2 ^ k = omega arith in e)

shifted_low : (n k i : ℕ) → i < k → i < 64 → bit_at (n * 2 ^ k % 2 ^ 64) i ≡ 0
shifted_low n k i low h = lowest_bits (n * 2 ^ k) i h ∙ sym (bit_at_up n k i) ∙ bit_at_cat_low n k 0 i low ∙ bit_at-zero i

shifted_high : (n k i : ℕ) → k ≤ i → i < 64 → bit_at (n * 2 ^ k % 2 ^ 64) i ≡ bit_at n (i - k)
shifted_high n k i high h = lowest_bits (n * 2 ^ k) i h ∙ sym (bit_at_up n k i) ∙ bit_at_cat_high n k 0 i (pow_pos k) high

-- ---- the bits from one of a word on

pub bits_of_word : (word next at i : ℕ) → at < 64 → at + i < 64 →
    bit_at (bit_or (word / 2 ^ at) (next * 2 % 18446744073709551616 * 2 ^ (63 - at) % 18446744073709551616)) i ≡ bit_at word (at + i)
bits_of_word word next at i within h =
    let up = next * 2 % 2 ^ 64 in
    let none : bit_at (up * 2 ^ (63 - at) % 2 ^ 64) i ≡ 0 = elim (cases_lt i (63 - at)) [
      | inl less ↦ shifted_low up (63 - at) i less (omega arith)
      | inr last ↦ shifted_high up (63 - at) i last (omega arith) ∙ ap (bit_at up) (let e : i - (63 - at) ≡ 0 = omega arith in e)
          ∙ shifted_low next 1 0 (omega arith) (omega arith)
    ] in
    bit_at_or (word / 2 ^ at) (up * 2 ^ (63 - at) % 2 ^ 64) i ∙ ap (λ b. max (bit_at (word / 2 ^ at) i) b) none
    ∙ (let e : max (bit_at (word / 2 ^ at) i) 0 ≡ bit_at (word / 2 ^ at) i = omega arith in e) ∙ bit_at-div word at i

pub bits_of_next : (word next at i : ℕ) → at < 64 → word < 2 ^ 64 → i < 64 → 64 ≤ at + i →
    bit_at (bit_or (word / 2 ^ at) (next * 2 % 18446744073709551616 * 2 ^ (63 - at) % 18446744073709551616)) i ≡ bit_at next (at + i - 64)
bits_of_next word next at i within fits h behind =
    let up = next * 2 % 2 ^ 64 in
    let none : bit_at (word / 2 ^ at) i ≡ 0 = bit_at-div word at i ∙ bit_at_above word 64 (at + i) fits behind in
    bit_at_or (word / 2 ^ at) (up * 2 ^ (63 - at) % 2 ^ 64) i ∙ ap (λ b. max b (bit_at (up * 2 ^ (63 - at) % 2 ^ 64) i)) none
    ∙ (let e : max 0 (bit_at (up * 2 ^ (63 - at) % 2 ^ 64) i) ≡ bit_at (up * 2 ^ (63 - at) % 2 ^ 64) i = omega arith in e)
    ∙ shifted_high up (63 - at) i (omega arith) h ∙ shifted_high next 1 (i - (63 - at)) (omega arith) (omega arith)
    ∙ ap (bit_at next) (let e : i - (63 - at) - 1 ≡ at + i - 64 = omega arith in e)

-- ---- the run ends by their bits

end_is : (slots : Slots) (ends : List Bool) (more : List ℕ) (j : ℕ) → AreSlots slots ends more → j < 72 → j < slots.some →
    get_or ends j false ≡ get_or (word_bits slots.ends ++ word_bits slots.next_ends) j false
end_is slots ends more j are near within =
    sym (get_or-take 72 ends j false near) ∙ ap (λ (bits : List Bool). get_or bits j false) are.near
    ∙ get_or-take (min slots.some 72) (word_bits slots.ends ++ word_bits slots.next_ends) j false (omega arith)

pub end_in_word : (slots : Slots) (ends : List Bool) (more : List ℕ) (j : ℕ) → AreSlots slots ends more → j < 64 → j < slots.some →
    get_or ends j false ≡ (bit_at slots.ends j == 1)
end_in_word slots ends more j are word within =
    end_is slots ends more j are (omega arith) within
    ∙ get_or_append_left (word_bits slots.ends) (word_bits slots.next_ends) false j (let long = length_word_bits slots.ends in omega arith)
    ∙ bit_of_word slots.ends j word

pub end_behind : (slots : Slots) (ends : List Bool) (more : List ℕ) (j : ℕ) → AreSlots slots ends more → 64 ≤ j → j < 72 → j < slots.some →
    get_or ends j false ≡ (bit_at slots.next_ends (j - 64) == 1)
end_behind slots ends more j are behind near within =
    end_is slots ends more j are near within
    ∙ get_or-append_right (word_bits slots.ends) (word_bits slots.next_ends) 64 j false (length_word_bits slots.ends) behind
    ∙ bit_of_word slots.next_ends (j - 64) (omega arith)

-- ---- how far a group reaches

pub reach_is : (most : ℕ) (ends : List Bool) (n : ℕ) → 1 ≤ n → n ≤ most → n ≤ length ends → ((k : ℕ) → k + 1 < n → get_or ends k false ≡ false) →
    (n < most → n < length ends → get_or ends (n - 1) false ≡ true) → reach most ends ≡ n
reach_is zero ends n some most within before last = absurd (omega arith)
reach_is (suc most) [] n some few within before last = absurd (omega arith)
reach_is (suc most) (end ∷ ends) zero some few within before last = absurd (omega arith)
reach_is (suc most) (true ∷ ends) (suc zero) some few within before last = refl
reach_is (suc zero) (false ∷ ends) (suc zero) some few within before last = refl
reach_is (suc (suc most)) (false ∷ []) (suc zero) some few within before last = refl
reach_is (suc (suc most)) (false ∷ end ∷ ends) (suc zero) some few within before last = absurd (true≢false (sym (last (omega arith) (omega arith))))
reach_is (suc most) (true ∷ ends) (suc (suc n)) some few within before last = absurd (true≢false (before 0 (omega arith)))
reach_is (suc most) (false ∷ ends) (suc (suc n)) some few within before last =
    ap suc (reach_is most ends (suc n) (omega arith) (omega arith) (omega arith) (λ k h. before (suc k) (omega arith))
    (λ more behind. ap (λ k. get_or (false ∷ ends) k false) (let e : suc (suc n - 1) ≡ suc (suc n) - 1 = omega arith in e) ∙ last (omega arith) (omega arith)))

-- below the number of trailing zeros every bit is 0, and that one is 1, where it is a bit of the word
lowest_set : (bits : ℕ) → bits < 2 ^ 64 → ((i : ℕ) → i < trailing_zeros w64 bits → bit_at bits i ≡ 0) × (trailing_zeros w64 bits < 64 → bit_at bits (trailing_zeros w64 bits) ≡ 1)
lowest_set zero fits = (λ i h. bit_at-zero i, λ h. absurd (let all : trailing_zeros w64 0 ≡ 64 = trailing_of_zero 64 in omega arith))
lowest_set (suc n) fits = let first = bit_at-trailing_zeros w64 (suc n) (omega arith) fits in (first.2, λ _. first.1)

-- the run ends from a slot on by the bits of a word
module _ (slots : Slots) (at bits : ℕ) (here : (i : ℕ) → at + i < 64 → bit_at bits i ≡ bit_at slots.ends (at + i))
    (next : (i : ℕ) → i < 64 → 64 ≤ at + i → bit_at bits i ≡ bit_at slots.next_ends (at + i - 64)) where
  end_from : (ends : List Bool) (more : List ℕ) → AreSlots slots ends more → (k : ℕ) → k < 9 → at < 64 → at + k < slots.some →
      get_or (drop at ends) k false ≡ (bit_at bits k == 1)
  end_from ends more are k few word within =
      get_or-drop at ends k false ∙ elim (cases_lt (at + k) 64) [
        | inl less ↦ end_in_word slots ends more (at + k) are less within ∙ ap (λ b. b == 1) (sym (here k less))
        | inr behind ↦ end_behind slots ends more (at + k) are behind (omega arith) within ∙ ap (λ b. b == 1) (sym (next k (omega arith) behind))
      ]

  pub reach_by_bits : (count : ℕ) → at < 64 → at < slots.some → bits < 2 ^ 64 → count ≡ min (min (trailing_zeros w64 bits + 1) 9) (slots.some - at) → IsReach at slots count
  reach_by_bits count word within fits is =
      let lowest = lowest_set bits fits in
      record {
        is = λ ends more are.
            let long : length (drop at ends) ≡ slots.some - at = length-drop at ends ∙ ap (λ n. n - at) are.some in
            reach_is 9 (drop at ends) count (omega arith) (omega arith) (omega arith)
            (λ k h. end_from ends more are k (omega arith) word (omega arith) ∙ ap (λ b. b == 1) (lowest.0 k (omega arith)))
            (λ few short. let place : count - 1 ≡ trailing_zeros w64 bits = omega arith in
            ap (λ k. get_or (drop at ends) k false) place ∙ end_from ends more are (trailing_zeros w64 bits) (omega arith) word (omega arith)
            ∙ ap (λ b. b == 1) (lowest.1 (omega arith)));
        some = omega arith;
        most = omega arith;
        within = omega arith;
      }
