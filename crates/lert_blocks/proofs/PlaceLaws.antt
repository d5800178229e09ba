-- The quotients that bits mark: the first one, those behind it, and the least tail of them.
use Rattle.std.proofs.Common.{◌≡◌, ℕ, zero, suc, ◌+◌, ◌-◌, ◌*◌, ◌/◌, ◌%◌, ◌^◌, ◌<◌, ◌≤◌, ◌≢◌, Bool, true, false, ◌==◌, min, bit_and, List, [], ◌∷◌}
use Rattle.std.proofs.Common.{length, get_or, set, refl, sym, ap, ◌∙◌, inl, inr, arith}
use Rattle.std.specs.Int.{bit_at, w64, trailing_zeros}
use Rattle.std.proofs.lemmas.Bool.{cases_lt, cases_eq, true≢false}
use Rattle.std.proofs.lemmas.List.{ext_get_or, get_or-set_same, get_or-set_other, length-set}
use Rattle.std.proofs.lemmas.Nat.{pow_pos, mod_below, div-add-mod'}
use Rattle.std.proofs.lemmas.Nat.Bits.{bit_at_and, bit_at_lowest, bit_at-suc, same_from_bits_below, bit_at_cat_low, bit_at_cat_high, bit_at-zero, bit_at-trailing_zeros}
use Rattle.std.proofs.Math.Nat.{mul-le-mul_right, mod-eq_of_lt}
use Rattle.lert_slotbits.specs.Bits.{word_bits}
use Rattle.lert_slotbits.proofs.RowLemmas.{bit_of_word, length_word_bits}
use Rattle.lert_blocks.specs.Walk.{places, floor_from}

-- the first of the bits that is set marks the first quotient, and without it they mark the others
pub places_first : (first : ℕ) (bits : List Bool) (k : ℕ) → k < length bits → ((i : ℕ) → i < k → get_or bits i false ≡ false) → get_or bits k false ≡ true →
    places first bits ≡ (first + k) ∷ places first (set bits k false)
places_first first [] k within before here = absurd (omega arith)
places_first first (true ∷ bits) zero within before here = ap (λ n. n ∷ places (first + 1) bits) (let e : first ≡ first + 0 = omega arith in e)
places_first first (false ∷ bits) zero within before here = absurd (true≢false (sym here))
places_first first (true ∷ bits) (suc k) within before here = absurd (true≢false (before 0 (omega arith)))
places_first first (false ∷ bits) (suc k) within before here =
    places_first (first + 1) bits k (omega arith) (λ i h. before (suc i) (omega arith)) here
    ∙ ap (λ n. n ∷ places (first + 1) (set bits k false)) (let e : first + 1 + k ≡ first + suc k = omega arith in e)

-- ---- the lowest bit of a number

module _ (n k : ℕ) (some : 0 < n) (here : bit_at n k ≡ 1) (before : (i : ℕ) → i < k → bit_at n i ≡ 0) where
  -- the number is an odd one, with k zeros below it
  none_below : n % 2 ^ k ≡ 0
  none_below =
      let positive = pow_pos k in
      same_from_bits_below k (n % 2 ^ k) 0 (mod_below n (2 ^ k) positive) positive
      (λ i h. sym (bit_at_cat_low (n / 2 ^ k) k (n % 2 ^ k) i h) ∙ ap (λ m. bit_at m i) (div-add-mod' n (2 ^ k)) ∙ before i h ∙ sym (bit_at-zero i))

  odd : n / 2 ^ k ≡ suc ((n / 2 ^ k - 1) / 2 * 2)
  odd = omega (arith, here)

  whole : n ≡ n / 2 ^ k * 2 ^ k + 0
  whole = sym (div-add-mod' n (2 ^ k)) ∙ ap (λ r. n / 2 ^ k * 2 ^ k + r) none_below

  less_one : n - 1 ≡ (n / 2 ^ k - 1) * 2 ^ k + (2 ^ k - 1)
  less_one =
      let positive = pow_pos k in
      let e : n / 2 ^ k ≡ n / 2 ^ k - 1 + 1 = omega (arith, odd) in
      let product : n / 2 ^ k * 2 ^ k ≡ (n / 2 ^ k - 1 + 1) * 2 ^ k = ap (λ m. m * 2 ^ k) e in
      omega (arith, whole, product)

  -- the bit at k is no bit of the number below it, and the bits above are the same
  lowest_gone : bit_at (bit_and n (n - 1)) k ≡ 0
  lowest_gone =
      let positive = pow_pos k in
      let high_bit : bit_at (n - 1) k ≡ bit_at (n / 2 ^ k - 1) (k - k) =
      ap (λ m. bit_at m k) less_one ∙ bit_at_cat_high (n / 2 ^ k - 1) k (2 ^ k - 1) k (omega arith) (omega arith) in
      let even : bit_at (n / 2 ^ k - 1) (k - k) ≡ 0 = ap (bit_at (n / 2 ^ k - 1)) (let e : k - k ≡ 0 = omega arith in e) ∙ bit_at_lowest (n / 2 ^ k - 1) ∙ omega (arith, odd) in
      bit_at_and n (n - 1) k ∙ ap (min (bit_at n k)) (high_bit ∙ even) ∙ omega arith

  others_above : (i : ℕ) → k < i → bit_at (n - 1) i ≡ bit_at n i
  others_above i h =
      let positive = pow_pos k in
      let m = n / 2 ^ k in
      let place : i - k ≡ suc (i - k - 1) = omega arith in
      ap (λ a. bit_at a i) less_one ∙ bit_at_cat_high (m - 1) k (2 ^ k - 1) i (omega arith) (omega arith) ∙ ap (bit_at (m - 1)) place
      ∙ bit_at-suc (m - 1) (i - k - 1) ∙ ap (λ a. bit_at a (i - k - 1)) (let e : (m - 1) / 2 ≡ m / 2 = omega (arith, odd) in e) ∙ sym (bit_at-suc m (i - k - 1))
      ∙ ap (bit_at m) (sym place) ∙ sym (ap (λ a. bit_at a i) whole ∙ bit_at_cat_high m k 0 i positive (omega arith))

  lowest_cleared : (i : ℕ) → i ≢ k → bit_at (bit_and n (n - 1)) i ≡ bit_at n i
  lowest_cleared i apart =
      elim (cases_lt i k) [
        | inl less ↦ bit_at_and n (n - 1) i ∙ ap (λ b. min b (bit_at (n - 1) i)) (before i less) ∙ (let e : min 0 (bit_at (n - 1) i) ≡ 0 = omega arith in e) ∙ sym (before i less)
        | inr more ↦ bit_at_and n (n - 1) i ∙ ap (min (bit_at n i)) (others_above i (omega arith)) ∙ (let e : min (bit_at n i) (bit_at n i) ≡ bit_at n i = omega arith in e)
      ]

-- the bits of a word without the lowest one
bits_behind : (n k : ℕ) → k < 64 → 0 < n → bit_at n k ≡ 1 → ((i : ℕ) → i < k → bit_at n i ≡ 0) → word_bits (bit_and n (n - 1)) ≡ set (word_bits n) k false
bits_behind n k word some here before =
    ext_get_or false (word_bits (bit_and n (n - 1))) (set (word_bits n) k false)
    (length_word_bits (bit_and n (n - 1)) ∙ sym (length-set (word_bits n) k false ∙ length_word_bits n))
    (λ i h. let long = length_word_bits (bit_and n (n - 1)) in let same = length_word_bits n in
    bit_of_word (bit_and n (n - 1)) i (omega arith) ∙ elim (cases_eq i k) [
      | inl at ↦ ap (λ j. bit_at (bit_and n (n - 1)) j == 1) at ∙ ap (λ b. b == 1) (lowest_gone n k some here before)
          ∙ sym (ap (λ j. get_or (set (word_bits n) k false) j false) at ∙ get_or-set_same (word_bits n) k false false (omega arith))
      | inr apart ↦ ap (λ b. b == 1) (lowest_cleared n k some here before i apart) ∙ sym (bit_of_word n i (omega arith)) ∙ sym (get_or-set_other (word_bits n) k i false false apart)
    ])

-- the quotients of a word: the first one, and those of the word without its lowest bit
pub places_of : (first n : ℕ) → 0 < n → n < 2 ^ 64 → places first (word_bits n) ≡ (first + trailing_zeros w64 n) ∷ places first (word_bits (bit_and n (n - 1)))
places_of first n some fits =
    let lowest = bit_at-trailing_zeros w64 n some fits in
    let k = trailing_zeros w64 n in
    let long = length_word_bits n in
    let word : k < 64 = lowest.0 in
    places_first first (word_bits n) k (omega arith) (λ i h. bit_of_word n i (omega arith) ∙ ap (λ b. b == 1) (lowest.2 i h))
    (bit_of_word n k word ∙ ap (λ b. b == 1) lowest.1)
    ∙ ap (λ (bits : List Bool). (first + k) ∷ places first bits) (sym (bits_behind n k word some lowest.1 lowest.2))

none_of : (first : ℕ) (bits : List Bool) → ((i : ℕ) → i < length bits → get_or bits i false ≡ false) → places first bits ≡ []
none_of first [] none = refl
none_of first (true ∷ bits) none = absurd (true≢false (none 0 (omega arith)))
none_of first (false ∷ bits) none = none_of (first + 1) bits (λ i h. none (suc i) (omega arith))

pub places_none : (first n : ℕ) → n ≡ 0 → places first (word_bits n) ≡ []
places_none first n zero_is =
    none_of first (word_bits n) (λ i h. let long = length_word_bits n in
    bit_of_word n i (omega arith) ∙ ap (λ m. bit_at m i == 1) zero_is ∙ ap (λ b. b == 1) (bit_at-zero i))

-- ---- the least tail of the quotients

floor_low : (width first : ℕ) (bits : List Bool) → first * 2 ^ width ≤ floor_from width (first + length bits) (places first bits) 0
floor_low width first [] = mul-le-mul_right (2 ^ width) (omega arith)
floor_low width first (true ∷ bits) = omega arith
floor_low width first (false ∷ bits) =
    let behind = floor_low width (first + 1) bits in
    let less : first * 2 ^ width ≤ (first + 1) * 2 ^ width = mul-le-mul_right (2 ^ width) (omega arith) in
    let same : first + 1 + length bits ≡ first + suc (length bits) = omega arith in
    rw (← same) (omega arith)

-- those behind a quotient have greater tails
pub floor_behind : (width first : ℕ) (bits : List Bool) (q : ℕ) (qs : List ℕ) → places first bits ≡ q ∷ qs → (q + 1) * 2 ^ width ≤ floor_from width (first + length bits) qs 0
floor_behind width first [] q qs is = absurd (cc)
floor_behind width first (true ∷ bits) q qs is =
    let same : first ≡ q = cc in
    let rest : places (first + 1) bits ≡ qs = cc in
    let behind = floor_low width (first + 1) bits in
    let end : first + 1 + length bits ≡ first + suc (length bits) = omega arith in
    rw (← same, ← rest, ← end) behind
floor_behind width first (false ∷ bits) q qs is =
    let end : first + 1 + length bits ≡ first + suc (length bits) = omega arith in
    rw (← end) (floor_behind width (first + 1) bits q qs is)

-- a quotient is one of the block's
pub place_within : (first : ℕ) (bits : List Bool) (q : ℕ) (qs : List ℕ) → places first bits ≡ q ∷ qs → q < first + length bits
place_within first [] q qs is = absurd (cc)
place_within first (true ∷ bits) q qs is = let same : first ≡ q = cc in omega arith
place_within first (false ∷ bits) q qs is = let behind = place_within (first + 1) bits q qs is in omega arith

-- the tail of a quotient of the block fits its type
pub tail_fits : (width first q x : ℕ) → q < first + 64 → x < 2 ^ width → (first + 64) * 2 ^ width ≤ 2 ^ 64 → q * 2 ^ width + x < 2 ^ 64
tail_fits width first q x within narrow room =
    let most : (q + 1) * 2 ^ width ≤ (first + 64) * 2 ^ width = mul-le-mul_right (2 ^ width) (omega arith) in omega arith

pub shifted_is : (width first q x : ℕ) → q < first + 64 → x < 2 ^ width → (first + 64) * 2 ^ width ≤ 2 ^ 64 → q * 2 ^ width % 18446744073709551616 ≡ q * 2 ^ width
shifted_is width first q x within narrow room = let fits = tail_fits width first q x within narrow room in mod-eq_of_lt (omega arith)
