-- Bits of one word.
use Rattle.std.proofs.Common.{◌≡◌, ℕ, ◌+◌, ◌-◌, ◌*◌, ◌/◌, ◌%◌, ◌^◌, ◌<◌, ◌≤◌, sym, ap, ◌∙◌, arith, bit_and, bit_or}
use Rattle.std.proofs.lemmas.Nat.{one_shl, and_mask, or_shifted, shl_whole, shr_below, shr_split, shr-shr, pow_pos, pow-add, mod_below}
use Rattle.std.proofs.{lemmas.Nat.Bits.{bit_at_cat_low, bit_at_cat_high, bit_at_lowest}, Math.Pow.pow_mono}
use Rattle.std.specs.Int.{bit_at}

-- `high << width | low`
pub joined_is : (high width low : ℕ) → width < 64 → low < 2 ^ width → high < 2 ^ (64 - width) → bit_or (high * 2 ^ width % 18446744073709551616) low ≡ high * 2 ^ width + low
joined_is high width low narrow less fits =
    ap (λ n. bit_or n low) (shl_whole high (64 - width) width 64 fits (omega arith)) ∙ or_shifted high width low less

-- `word & ((1 << width) - 1)`
pub lowest_is : (word width : ℕ) → width < 64 → bit_and word (1 * 2 ^ width % 18446744073709551616 - 1) ≡ word % 2 ^ width
lowest_is word width narrow = ap (λ n. bit_and word (n - 1)) (one_shl width 64 narrow) ∙ and_mask word width

-- two parts of a word fit beside each other
pub joined_below : (high low j k : ℕ) → high < 2 ^ j → low < 2 ^ k → high * 2 ^ k + low < 2 ^ (j + k)
joined_below high low j k fits less = rw (pow-add 2 j k) (whole high low (2 ^ j) (2 ^ k) fits less)
  where
    use_mul : (a b m : ℕ) → a + 1 ≤ m → (a + 1) * b ≤ m * b
    use_mul a b m h = grind arith

    whole : (a b m n : ℕ) → a < m → b < n → a * n + b < m * n
    whole a b m n h k = let room = use_mul a n m (omega arith) in let e : (a + 1) * n ≡ a * n + n = grind arith in omega arith

-- bits of parts of a word
pub bit_at-mod : (n k i : ℕ) → i < k → bit_at (n % 2 ^ k) i ≡ bit_at n i
bit_at-mod n k i less = sym (bit_at_cat_low (n / 2 ^ k) k (n % 2 ^ k) i less) ∙ ap (λ m. bit_at m i) (shr_split n k)

pub bit_at-div : (n k i : ℕ) → bit_at (n / 2 ^ k) i ≡ bit_at n (k + i)
bit_at-div n k i = ap (λ m. m % 2) (shr-shr n k i)

-- the word that `moved_up` makes
abbrev pub moved_word : ℕ → ℕ → ℕ → ℕ → ℕ
moved_word word low high carry =
    ((word / 2 ^ high / 2 ^ 1 * 2 ^ (high - low) + word / 2 ^ low % 2 ^ (high - low)) * 2 ^ 1 + carry) * 2 ^ low + word % 2 ^ low

module _ (word low high carry : ℕ) (order : low ≤ high) (small : carry < 2) where
  pub moved_below : (i : ℕ) → i < low → bit_at (moved_word word low high carry) i ≡ bit_at word i
  moved_below i less = bit_at_cat_low _ low (word % 2 ^ low) i less ∙ bit_at-mod word low i less

  upper_bit : (i : ℕ) → low ≤ i → bit_at (moved_word word low high carry) i ≡ bit_at ((word / 2 ^ high / 2 ^ 1 * 2 ^ (high - low) + word / 2 ^ low % 2 ^ (high - low)) * 2 ^ 1 + carry)
      (i - low)
  upper_bit i h = bit_at_cat_high _ low (word % 2 ^ low) i (mod_below word (2 ^ low) (pow_pos low)) h

  pub moved_first : bit_at (moved_word word low high carry) low ≡ carry
  moved_first =
      upper_bit low (omega arith)
      ∙ ap (bit_at ((word / 2 ^ high / 2 ^ 1 * 2 ^ (high - low) + word / 2 ^ low % 2 ^ (high - low)) * 2 ^ 1 + carry)) (let e : low - low ≡ 0 = omega arith in e)
      ∙ bit_at_cat_low (word / 2 ^ high / 2 ^ 1 * 2 ^ (high - low) + word / 2 ^ low % 2 ^ (high - low)) 1 carry 0 (omega arith)
      ∙ bit_at_lowest carry ∙ (let e : carry % 2 ≡ carry = omega arith in e)

  behind_first : (i : ℕ) → low < i → bit_at (moved_word word low high carry) i ≡ bit_at (word / 2 ^ high / 2 ^ 1 * 2 ^ (high - low) + word / 2 ^ low % 2 ^ (high - low)) (i - low - 1)
  behind_first i h =
      upper_bit i (omega arith)
      ∙ bit_at_cat_high (word / 2 ^ high / 2 ^ 1 * 2 ^ (high - low) + word / 2 ^ low % 2 ^ (high - low)) 1 carry (i - low) small (omega arith)

  pub moved_inside : (i : ℕ) → low < i → i ≤ high → bit_at (moved_word word low high carry) i ≡ bit_at word (i - 1)
  moved_inside i h k =
      behind_first i h
      ∙ bit_at_cat_low (word / 2 ^ high / 2 ^ 1) (high - low) (word / 2 ^ low % 2 ^ (high - low)) (i - low - 1) (omega arith)
      ∙ bit_at-mod (word / 2 ^ low) (high - low) (i - low - 1) (omega arith)
      ∙ bit_at-div word low (i - low - 1)
      ∙ ap (bit_at word) (let e : low + (i - low - 1) ≡ i - 1 = omega arith in e)

  pub moved_above : (i : ℕ) → high < i → bit_at (moved_word word low high carry) i ≡ bit_at word i
  moved_above i h =
      behind_first i (omega arith)
      ∙ bit_at_cat_high (word / 2 ^ high / 2 ^ 1) (high - low) (word / 2 ^ low % 2 ^ (high - low)) (i - low - 1) (mod_below (word / 2 ^ low) (2 ^ (high - low)) (pow_pos (high - low)))
      (omega arith)
      ∙ bit_at-div (word / 2 ^ high) 1 (i - low - 1 - (high - low))
      ∙ bit_at-div word high (1 + (i - low - 1 - (high - low)))
      ∙ ap (bit_at word) (let e : high + (1 + (i - low - 1 - (high - low))) ≡ i = omega arith in e)

-- the parts of a word are as short as they are joined
module _ (word low high carry : ℕ) (order : low ≤ high) (narrow : high < 64) (small : carry < 2) (fits : word < 2 ^ 64) where
  part_above : word / 2 ^ high / 2 ^ 1 < 2 ^ (63 - high)
  part_above =
      let halved = shr_below word (64 - high) high (let e : 64 - high + high ≡ 64 = omega arith in rw e fits) in
      let more = shr_below (word / 2 ^ high) (63 - high) 1 (let e : 63 - high + 1 ≡ 64 - high = omega arith in rw e halved) in more

  pub above_fits : word / 2 ^ high / 2 ^ 1 < 2 ^ (64 - (high - low))
  above_fits = let h : 63 - high ≤ 64 - (high - low) = omega arith in let wider = pow_mono h in let p = part_above in omega arith

  middle_below : word / 2 ^ high / 2 ^ 1 * 2 ^ (high - low) + word / 2 ^ low % 2 ^ (high - low) < 2 ^ (63 - low)
  middle_below =
      let e : 63 - high + (high - low) ≡ 63 - low = omega arith in
      rw (← e) (joined_below (word / 2 ^ high / 2 ^ 1) (word / 2 ^ low % 2 ^ (high - low)) (63 - high) (high - low) part_above
      (mod_below (word / 2 ^ low) (2 ^ (high - low)) (pow_pos (high - low))))

  pub middle_fits : word / 2 ^ high / 2 ^ 1 * 2 ^ (high - low) + word / 2 ^ low % 2 ^ (high - low) < 2 ^ (64 - 1)
  middle_fits = let h : 63 - low ≤ 64 - 1 = omega arith in let wider = pow_mono h in let p = middle_below in omega arith

  pub upper_fits : (word / 2 ^ high / 2 ^ 1 * 2 ^ (high - low) + word / 2 ^ low % 2 ^ (high - low)) * 2 ^ 1 + carry < 2 ^ (64 - low)
  upper_fits =
      let e : 63 - low + 1 ≡ 64 - low = omega arith in
      rw (← e) (joined_below (word / 2 ^ high / 2 ^ 1 * 2 ^ (high - low) + word / 2 ^ low % 2 ^ (high - low)) carry (63 - low) 1 middle_below small)
