-- A row of bits in words.
use Rattle.std.proofs.Common.{◌≡◌, ℕ, suc, zero, ◌-◌, ◌*◌, ◌/◌, ◌%◌, ◌<◌, ◌≢◌, Bool, true, false, cond, ◌==◌, List, [], ◌∷◌, length, get_or, set, refl, sym, ap, ◌∙◌, inl, inr, arith, length-append}
use Rattle.std.proofs.{lemmas.Bool.{cases_lt, cases_eq}, lemmas.List.{get_or_append_left, get_or-append_right, ext_get_or, get_or-set_same, get_or-set_other, length-set}}
use Rattle.std.proofs.lemmas.Nat.Bits.{bit_at_lowest, bit_at-suc}
use Rattle.std.specs.Int.{bit_at}
use Rattle.lert_slotbits.specs.Bits.{bits_in, word_bits, row_of}

length_bits_in : (d n : ℕ) → length (bits_in d n) ≡ d
length_bits_in zero n = refl
length_bits_in (suc d) n = ap suc (length_bits_in d (n / 2))

pub length_word_bits : (n : ℕ) → length (word_bits n) ≡ 64
unfolding word_bits
length_word_bits n = length_bits_in 64 n

pub length_row : (ws : List ℕ) → length (row_of ws) ≡ 64 * length ws
length_row [] = refl
length_row (w ∷ ws) = omega (arith, length-append (word_bits w) (row_of ws), length_word_bits w, length_row ws)

-- one bit
bit_of_bits : (d n i : ℕ) → i < d → get_or (bits_in d n) i false ≡ (bit_at n i == 1)
bit_of_bits zero n i h = absurd (omega arith)
bit_of_bits (suc d) n zero h = ap (λ k. k == 1) (sym (bit_at_lowest n))
bit_of_bits (suc d) n (suc i) h = bit_of_bits d (n / 2) i (omega arith) ∙ ap (λ k. k == 1) (sym (bit_at-suc n i))

pub bit_of_word : (n i : ℕ) → i < 64 → get_or (word_bits n) i false ≡ (bit_at n i == 1)
unfolding word_bits
bit_of_word n i h = bit_of_bits 64 n i h

pub bit_of_row : (ws : List ℕ) (i : ℕ) → i < 64 * length ws → get_or (row_of ws) i false ≡ (bit_at (get_or ws (i / 64) 0) (i % 64) == 1)
bit_of_row [] i h = absurd (omega arith)
bit_of_row (w ∷ ws) i h =
    elim (cases_lt i 64) [
      | inl less ↦ (let here : i / 64 ≡ 0 = omega arith in let at : i % 64 ≡ i = omega arith in
          get_or_append_left (word_bits w) (row_of ws) false i (rw (length_word_bits w) less) ∙ bit_of_word w i less
          ∙ rw (here, at) refl)
      | inr more ↦ (let behind : i / 64 ≡ suc ((i - 64) / 64) = omega arith in let at : i % 64 ≡ (i - 64) % 64 = omega arith in
          get_or-append_right (word_bits w) (row_of ws) 64 i false (length_word_bits w) more
          ∙ bit_of_row ws (i - 64) (omega arith) ∙ rw (behind, at) refl)
    ]

-- rows with the same bits
pub same_rows : (ws : List ℕ) (bits : List Bool) → length bits ≡ 64 * length ws
    → ((i : ℕ) → i < 64 * length ws → (bit_at (get_or ws (i / 64) 0) (i % 64) == 1) ≡ get_or bits i false) → row_of ws ≡ bits
same_rows ws bits long same =
    ext_get_or false (row_of ws) bits (length_row ws ∙ sym long)
    (λ i h. let within : i < 64 * length ws = rw (length_row ws) at h in bit_of_row ws i within ∙ same i within)

-- one bit changed in one word
pub row-set : (ws : List ℕ) (i word : ℕ) (on : Bool) → i < 64 * length ws
    → bit_at word (i % 64) ≡ cond on 1 0 → ((k : ℕ) → k < 64 → k ≢ i % 64 → bit_at word k ≡ bit_at (get_or ws (i / 64) 0) k)
    → row_of (set ws (i / 64) word) ≡ set (row_of ws) i on
row-set ws i word on within here others =
    same_rows (set ws (i / 64) word) (set (row_of ws) i on) (length-set (row_of ws) i on ∙ length_row ws ∙ ap (λ n. 64 * n) (sym (length-set ws (i / 64) word)))
    (λ k h. let inside : k < 64 * length ws = rw (length-set ws (i / 64) word) at h in
    elim (cases_eq k i) [
      | inl same ↦ (let row : i < length (row_of ws) = rw (length_row ws) within in
          let index : i / 64 < length ws = omega arith in
          rw (same, get_or-set_same ws (i / 64) word 0 index, get_or-set_same (row_of ws) i on false row, here) (bool_bit on))
      | inr apart ↦ elim (cases_eq (k / 64) (i / 64)) [
        | inl same_word ↦ (let index : i / 64 < length ws = omega arith in
            let elsewhere : k % 64 ≢ i % 64 = place_apart k i apart same_word in
            let at : k % 64 < 64 = omega arith in
            rw (same_word, get_or-set_same ws (i / 64) word 0 index, others (k % 64) at elsewhere, get_or-set_other (row_of ws) i k on false apart, ← same_word) (sym (bit_of_row ws k inside)))
        | inr other_word ↦ rw (get_or-set_other ws (i / 64) (k / 64) word 0 other_word, get_or-set_other (row_of ws) i k on false apart) (sym (bit_of_row ws k inside))
      ]
    ])
  where
    bool_bit : (on : Bool) → (cond on 1 0 == 1) ≡ on
    bool_bit true = refl
    bool_bit false = refl

    place_apart : (k i : ℕ) → k ≢ i → k / 64 ≡ i / 64 → k % 64 ≢ i % 64
    place_apart k i apart same e = apart (omega arith)
