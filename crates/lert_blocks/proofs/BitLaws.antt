-- Bits as numbers and words, and back.
use Rattle.std.proofs.Common.{◌≡◌, ℕ, suc, zero, ◌+◌, ◌-◌, ◌*◌, ◌/◌, ◌%◌, ◌^◌, ◌<◌, ◌≤◌, ◌==◌, Bool, true, false, cond, List, [], ◌∷◌, ◌++◌, All, length, take, drop, map}
use Rattle.std.proofs.Common.{replicate, refl, sym, ap, ap₂, ◌∙◌, inl, inr, arith, length-append, length-drop, length-take, pow_mono, subst}
use Rattle.std.specs.List.{range_with_len}
use Rattle.std.proofs.Math.Nat.{pow-suc}
use Rattle.std.proofs.Math.Seq.{drop-append-add}
use Rattle.std.proofs.lemmas.Bool.{cases_lt}
use Rattle.std.proofs.lemmas.List.{drop_all, take_at, drop_at, drop-drop, drop-append-le, take-append-drop, length-take-le, nil_from_length, length-replicate}
use Rattle.std.proofs.lemmas.List.{drop-replicate}
use Rattle.std.proofs.lemmas.List.Elements.{All-cons}
use Rattle.lert_slotbits.specs.Bits.{bits_in, word_bits, row_of, trues}
use Rattle.lert_slotbits.proofs.RowLemmas.{length_word_bits, length_row}
use Rattle.std.proofs.lemmas.List.Sums.{sum_by-cons}
use Rattle.lert_blocks.specs.Text.{number_of_bits, word_count, words_of}

-- ---- one number

bit_number : (r : ℕ) → r < 2 → cond (r == 1) 1 0 ≡ r
bit_number zero h = refl
bit_number (suc zero) h = refl
bit_number (suc (suc r)) h = absurd (omega arith)

number_of_bits-bits_in : (d n : ℕ) → n < 2 ^ d → number_of_bits (bits_in d n) ≡ n
number_of_bits-bits_in zero n h = omega arith
number_of_bits-bits_in (suc d) n h =
    let twice : 2 ^ suc d ≡ 2 ^ d * 2 = pow-suc 2 d in
    let half : number_of_bits (bits_in d (n / 2)) ≡ n / 2 = number_of_bits-bits_in d (n / 2) (omega arith) in
    let low : cond (n % 2 == 1) 1 0 ≡ n % 2 = bit_number (n % 2) (omega arith) in
    omega arith

number_of_bits-lt : (bits : List Bool) → number_of_bits bits < 2 ^ length bits
number_of_bits-lt [] = omega arith
number_of_bits-lt (b ∷ bits) =
    let twice : 2 ^ suc (length bits) ≡ 2 ^ length bits * 2 = pow-suc 2 (length bits) in
    let less = number_of_bits-lt bits in
    let bit : cond b 1 0 ≤ 1 = at_most_one b in
    omega arith
  where
    at_most_one : (b : Bool) → cond b 1 0 ≤ 1
    at_most_one true = omega arith
    at_most_one false = omega arith

bits_in-cons : (d m : ℕ) (b : Bool) → bits_in (suc d) (cond b 1 0 + 2 * m) ≡ b ∷ bits_in d m
bits_in-cons d m true = ap₂ (λ r h. (r == 1) ∷ bits_in d h) (let e : (1 + 2 * m) % 2 ≡ 1 = omega arith in e) (let e : (1 + 2 * m) / 2 ≡ m = omega arith in e)
bits_in-cons d m false = ap₂ (λ r h. (r == 1) ∷ bits_in d h) (let e : (0 + 2 * m) % 2 ≡ 0 = omega arith in e) (let e : (0 + 2 * m) / 2 ≡ m = omega arith in e)

bits_in-number_of_bits : (bits : List Bool) → bits_in (length bits) (number_of_bits bits) ≡ bits
bits_in-number_of_bits [] = refl
bits_in-number_of_bits (b ∷ bits) = bits_in-cons (length bits) (number_of_bits bits) b ∙ ap (λ (bs : List Bool). b ∷ bs) (bits_in-number_of_bits bits)

-- 64 bits are those of their number, and a number of 64 bits is that of its bits
pub word_bits-number_of_bits : (bits : List Bool) → length bits ≡ 64 → word_bits (number_of_bits bits) ≡ bits
unfolding word_bits
word_bits-number_of_bits bits long = ap (λ d. bits_in d (number_of_bits bits)) (sym long) ∙ bits_in-number_of_bits bits

pub number_of_bits-word_bits : (n : ℕ) → n < 2 ^ 64 → number_of_bits (word_bits n) ≡ n
unfolding word_bits
number_of_bits-word_bits n h = number_of_bits-bits_in 64 n h

pub number_of_bits-below : (bits : List Bool) → length bits ≡ 64 → number_of_bits bits < 2 ^ 64
number_of_bits-below bits long = let less = number_of_bits-lt bits in let e : 2 ^ length bits ≡ 2 ^ 64 = ap (λ d. 2 ^ d) long in omega arith

-- bits that aren't set add nothing behind others
none_of : (k : ℕ) → number_of_bits (take k []) ≡ 0
none_of zero = refl
none_of (suc k) = refl

pub number_of_bits-zeros : (k z : ℕ) (bits : List Bool) → number_of_bits (take k (bits ++ replicate z false)) ≡ number_of_bits (take k bits)
number_of_bits-zeros zero z bits = refl
number_of_bits-zeros (suc k) zero [] = refl
number_of_bits-zeros (suc k) (suc z) [] = ap (λ n. 0 + 2 * n) (number_of_bits-zeros k z [] ∙ none_of k)
number_of_bits-zeros (suc k) z (b ∷ bits) = ap (λ n. cond {A = ℕ} b 1 0 + 2 * n) (number_of_bits-zeros k z bits)

pub trues-cons : (b : Bool) (bits : List Bool) → trues (b ∷ bits) ≡ cond b 1 0 + trues bits
trues-cons b bits = sum_by-cons (λ b. cond b 1 0) b bits

-- bits of which none is set
pub clear_from_trues : (bits : List Bool) → trues bits ≡ 0 → bits ≡ replicate (length bits) false
clear_from_trues [] h = refl
clear_from_trues (true ∷ bits) h = absurd (let e = trues-cons true bits in omega arith)
clear_from_trues (false ∷ bits) h = ap (λ (bs : List Bool). false ∷ bs) (clear_from_trues bits (let e = trues-cons false bits in omega arith))

-- ---- words

-- so many words of bits, one behind the other
abbrev words : ℕ → List Bool → List ℕ
words zero bits = []
words (suc n) bits = number_of_bits (take 64 bits) ∷ words n (drop 64 bits)

words_from : (n j : ℕ) (bits : List Bool) → map (λ r. number_of_bits (take 64 (drop (64 * r) bits))) (range_with_len j n) ≡ words n (drop (64 * j) bits)
words_from zero j bits = refl
words_from (suc n) j bits =
    let next : drop (64 * (j + 1)) bits ≡ drop 64 (drop (64 * j) bits) =
    ap (λ k. drop k bits) (let e : 64 * (j + 1) ≡ 64 * j + 64 = omega arith in e) ∙ sym (drop-drop 64 (64 * j) bits) in
    ap (λ (ws : List ℕ). number_of_bits (take 64 (drop (64 * j) bits)) ∷ ws) (words_from n (j + 1) bits ∙ ap (words n) next)

words_are : (bits : List Bool) → words_of bits ≡ words (word_count (length bits)) bits
words_are bits = words_from (word_count (length bits)) 0 bits

length_words : (n : ℕ) (bits : List Bool) → length (words n bits) ≡ n
length_words zero bits = refl
length_words (suc n) bits = ap suc (length_words n (drop 64 bits))

pub length-words_of : (bits : List Bool) → length (words_of bits) ≡ word_count (length bits)
length-words_of bits = ap (λ (ws : List ℕ). length ws) (words_are bits) ∙ length_words (word_count (length bits)) bits

row_of-words : (n : ℕ) (bits : List Bool) → length bits ≡ 64 * n → row_of (words n bits) ≡ bits
row_of-words zero bits long = sym (nil_from_length bits (omega arith))
row_of-words (suc n) bits long =
    ap₂ (λ (front back : List Bool). front ++ back)
    (word_bits-number_of_bits (take 64 bits) (length-take-le 64 bits (omega arith)))
    (row_of-words n (drop 64 bits) (length-drop 64 bits ∙ omega arith))
    ∙ take-append-drop 64 bits

words-row_of : (ws : List ℕ) → All (λ w. w < 2 ^ 64) ws → words (length ws) (row_of ws) ≡ ws
words-row_of [] small = refl
words-row_of (w ∷ ws) small =
    let long = length_word_bits w in
    ap₂ (λ n (rest : List ℕ). n ∷ rest)
    (ap number_of_bits (take_at (word_bits w) (row_of ws) 64 long) ∙ number_of_bits-word_bits w (small 0 0 (omega arith)))
    (ap (words (length ws)) (drop_at (word_bits w) (row_of ws) 64 long) ∙ words-row_of ws (λ k d below. small (suc k) d (omega (arith, below))))

-- what is behind some of bits that are followed by clear ones
drop_behind : (n k : ℕ) (bits : List Bool) → drop n (bits ++ replicate k false) ≡ drop n bits ++ replicate (k - (n - length bits)) false
drop_behind n k bits =
    elim (cases_lt n (length bits)) [
      | inl less ↦ drop-append-le n bits (replicate k false) (omega arith) ∙ ap (λ m. drop n bits ++ replicate m false) (let e : k ≡ k - (n - length bits) = omega arith in e)
      | inr more ↦ (let e : n ≡ length bits + (n - length bits) = omega arith in
          ap (λ m. drop m (bits ++ replicate k false)) e ∙ drop-append-add bits (replicate k false) (n - length bits)
          ∙ drop-replicate (n - length bits) k false
          ∙ ap (λ (bs : List Bool). bs ++ replicate (k - (n - length bits)) false) (sym (drop_all n bits more)))
    ]

words-behind : (n k : ℕ) (bits : List Bool) → words n (bits ++ replicate k false) ≡ words n bits
words-behind zero k bits = refl
words-behind (suc n) k bits =
    ap₂ (λ m (rest : List ℕ). m ∷ rest) (number_of_bits-zeros 64 k bits)
    (ap (words n) (drop_behind 64 k bits) ∙ words-behind n (k - (64 - length bits)) (drop 64 bits))

-- the row of the words of bits has these bits, and behind them clear ones
pub row_of-words_of : (bits : List Bool) → row_of (words_of bits) ≡ bits ++ replicate (64 * word_count (length bits) - length bits) false
row_of-words_of bits =
    let n = word_count (length bits) in
    let k = 64 * word_count (length bits) - length bits in
    let long : length (bits ++ replicate k false) ≡ 64 * n = length-append bits (replicate k false) ∙ (let r : length (replicate k false) ≡ k = length-replicate k false in omega arith) in
    ap row_of (words_are bits ∙ sym (words-behind n k bits)) ∙ row_of-words n (bits ++ replicate k false) long

-- words are those of their first bits, where the others are clear
pub words_of-row : (n : ℕ) (ws : List ℕ) → All (λ w. w < 2 ^ 64) ws → length ws ≡ word_count n → trues (drop n (row_of ws)) ≡ 0 → words_of (take n (row_of ws)) ≡ ws
words_of-row n ws small long clear =
    let row = length_row ws in
    let first : length (take n (row_of ws)) ≡ n = length-take-le n (row_of ws) (omega (arith, row, long)) in
    let others = clear_from_trues (drop n (row_of ws)) clear in
    words_are (take n (row_of ws))
    ∙ (ap (λ m. words (word_count m) (take n (row_of ws))) first
    ∙ (sym (words-behind (word_count n) (length (drop n (row_of ws))) (take n (row_of ws)))
    ∙ (ap (words (word_count n)) (ap (λ (bs : List Bool). take n (row_of ws) ++ bs) (sym others) ∙ take-append-drop n (row_of ws))
    ∙ (ap (λ m. words m (row_of ws)) (sym long) ∙ words-row_of ws small))))

words_fit : (n : ℕ) (bits : List Bool) → All (λ w. w < 2 ^ 64) (words n bits)
words_fit zero bits = λ k d below. absurd (omega (arith, below))
words_fit (suc n) bits =
    let short : length (take 64 bits) ≤ 64 = omega (arith, length-take 64 bits) in
    let wide = pow_mono short in
    let less = number_of_bits-lt (take 64 bits) in
    All-cons (λ w. w < 2 ^ 64) (number_of_bits (take 64 bits)) (words n (drop 64 bits)) (omega arith) (words_fit n (drop 64 bits))

pub words_of-fit : (bits : List Bool) → All (λ w. w < 2 ^ 64) (words_of bits)
words_of-fit bits = subst (λ (ws : List ℕ). All (λ w. w < 2 ^ 64) ws) (sym (words_are bits)) (words_fit (word_count (length bits)) bits)

pub trues-clear : (k : ℕ) → trues (replicate k false) ≡ 0
trues-clear zero = refl
trues-clear (suc k) = let e = trues-clear k in trues-cons false (replicate k false) ∙ omega (arith, e)
