-- Counting the set bits of a row.
use Rattle.std.proofs.Common.{◌≡◌, ℕ, suc, zero, ◌+◌, ◌-◌, ◌*◌, ◌/◌, ◌%◌, ◌^◌, ◌<◌, ◌≤◌, Bool, true, false, cond, ◌==◌, List, [], ◌∷◌, ◌++◌, length, take, drop, get_or, refl, sym, ap, ◌∙◌, arith}
use Rattle.std.proofs.{lemmas.List.{drop_at, take-append-le, drop-drop, take_all, get_or-drop, length-drop}, lemmas.List.Sums.{sum_by-append, sum_by-cons, sum_by_more}, Math.Seq.take-add}
use Rattle.std.proofs.{Math.Nat.mod-eq_of_lt, lemmas.Nat.{ones_cat, mod-pow-add, mod_below}}
use Rattle.std.specs.{Prelude.count_ones, Int.bit_at}
use Rattle.lert_slotbits.specs.Bits.{bits_in, word_bits, row_of, trues}
use Rattle.lert_slotbits.proofs.RowLemmas.{length_row, length_word_bits, bit_of_word}

pub trues-append : (xs ys : List Bool) → trues (xs ++ ys) ≡ trues xs + trues ys
trues-append xs ys = sum_by-append (λ b. cond b 1 0) xs ys

trues-cons : (b : Bool) (xs : List Bool) → trues (b ∷ xs) ≡ cond b 1 0 + trues xs
trues-cons b xs = sum_by-cons (λ b. cond b 1 0) b xs

-- the first bits of a number
take_bits_in : (d k n : ℕ) → k ≤ d → take k (bits_in d n) ≡ bits_in k n
take_bits_in d zero n h = refl
take_bits_in zero (suc k) n h = absurd (omega arith)
take_bits_in (suc d) (suc k) n h = ap (λ (bs : List Bool). (n % 2 == 1) ∷ bs) (take_bits_in d k (n / 2) (omega arith))

one_bit : (r : ℕ) → r < 2 → cond (r == 1) 1 0 ≡ count_ones r
unfolding lib.Count.ones
one_bit zero h = refl
one_bit (suc zero) h = refl
one_bit (suc (suc r)) h = absurd (omega arith)

no_bit : 0 ≡ count_ones 0
unfolding lib.Count.ones
no_bit = refl

trues-bits_in : (d n : ℕ) → trues (bits_in d n) ≡ count_ones (n % 2 ^ d)
trues-bits_in zero n = no_bit ∙ ap count_ones (let e : 0 ≡ n % 1 = omega arith in e)
trues-bits_in (suc d) n =
    let split : n % 2 ^ (d + 1) ≡ (n / 2 ^ 1 % 2 ^ d) * 2 ^ 1 + n % 2 ^ 1 = mod-pow-add n d 1 in
    let e : suc d ≡ d + 1 = omega arith in
    trues-cons (n % 2 == 1) (bits_in d (n / 2))
    ∙ rw (trues-bits_in d (n / 2), one_bit (n % 2) (omega arith), e, split, ones_cat 1 (n / 2 ^ 1 % 2 ^ d) (n % 2 ^ 1) (mod_below n (2 ^ 1) (omega arith)))
    (let c : count_ones (n % 2) + count_ones (n / 2 % 2 ^ d) ≡ count_ones (n / 2 % 2 ^ d) + count_ones (n % 2) = omega arith in c)

pub trues-take_word : (n r : ℕ) → r ≤ 64 → trues (take r (word_bits n)) ≡ count_ones (n % 2 ^ r)
unfolding word_bits
trues-take_word n r h = ap trues (take_bits_in 64 r n h) ∙ trues-bits_in r n

pub trues-word : (n : ℕ) → n < 2 ^ 64 → trues (word_bits n) ≡ count_ones n
trues-word n fits =
    ap trues (sym (take_all 64 (word_bits n) (let long = length_word_bits n in omega arith))) ∙ trues-take_word n 64 (omega arith) ∙ ap count_ones (mod-eq_of_lt fits)

-- the row from a word on
drop_row : (ws : List ℕ) (j : ℕ) → j ≤ length ws → drop (64 * j) (row_of ws) ≡ row_of (drop j ws)
drop_row ws zero h = refl
drop_row [] (suc j) h = absurd (omega arith)
drop_row (w ∷ ws) (suc j) h =
    let e : 64 * suc j ≡ 64 + 64 * j = omega arith in
    rw e (sym (drop-drop (64 * j) 64 (word_bits w ++ row_of ws)) ∙ ap (drop (64 * j)) (drop_at (word_bits w) (row_of ws) 64 (length_word_bits w)) ∙ drop_row ws j (omega arith))

front_of_row : (ws : List ℕ) (r : ℕ) → 0 < length ws → r ≤ 64 → take r (row_of ws) ≡ take r (word_bits (get_or ws 0 0))
front_of_row [] r h k = absurd (omega arith)
front_of_row (w ∷ ws) r h k = take-append-le r (word_bits w) (row_of ws) (let long = length_word_bits w in omega arith)

-- the bits below a place in a word
pub trues_to : (ws : List ℕ) (j r : ℕ) → j < length ws → r ≤ 64 → trues (take (64 * j + r) (row_of ws)) ≡ trues (take (64 * j) (row_of ws))
    + trues (take r (word_bits (get_or ws j 0)))
trues_to ws j r inside short =
    let first : get_or (drop j ws) 0 0 ≡ get_or ws j 0 = get_or-drop j ws 0 0 ∙ ap (λ n. get_or ws n 0) (let e : j + 0 ≡ j = omega arith in e) in
    ap trues (take-add (64 * j) r (row_of ws)) ∙ trues-append (take (64 * j) (row_of ws)) (take r (drop (64 * j) (row_of ws)))
    ∙ ap (λ (bs : List Bool). trues (take (64 * j) (row_of ws)) + trues bs)
    (ap (take r) (drop_row ws j (omega arith)) ∙ front_of_row (drop j ws) r (simp length-drop (omega arith)) short ∙ ap (λ n. take r (word_bits n)) first)

pub trues_word_more : (ws : List ℕ) (j : ℕ) → j < length ws → get_or ws j 0 < 2 ^ 64
    → trues (take (64 * (j + 1)) (row_of ws)) ≡ trues (take (64 * j) (row_of ws)) + count_ones (get_or ws j 0)
trues_word_more ws j inside fits =
    let e : 64 * (j + 1) ≡ 64 * j + 64 = omega arith in
    rw e (trues_to ws j 64 inside (omega arith)) ∙ ap (λ n. trues (take (64 * j) (row_of ws)) + n)
    (ap trues (take_all 64 (word_bits (get_or ws j 0)) (let long = length_word_bits (get_or ws j 0) in omega arith)) ∙ trues-word (get_or ws j 0) fits)

-- one bit more of a word
pub trues_bit_more : (n at : ℕ) → at < 64 → trues (take (at + 1) (word_bits n)) ≡ trues (take at (word_bits n)) + cond (bit_at n at == 1) 1 0
trues_bit_more n at h =
    sum_by_more (λ b. cond b 1 0) (word_bits n) at false (rw (length_word_bits n) h) ∙ ap (λ b. trues (take at (word_bits n)) + cond b 1 0) (bit_of_word n at h)

pub trues_all : (n : ℕ) (bits : List Bool) → length bits ≤ n → trues (take n bits) ≡ trues bits
trues_all n bits h = ap trues (take_all n bits h)

-- a place in a word and its count
pub bit_yes : (n at : ℕ) → at < 64 → bit_at n at ≡ 1 → trues (take (at + 1) (word_bits n)) ≡ trues (take at (word_bits n)) + 1
bit_yes n at h one = trues_bit_more n at h ∙ ap (λ k. trues (take at (word_bits n)) + cond (k == 1) 1 0) one

pub bit_no : (n at : ℕ) → at < 64 → bit_at n at ≡ 0 → trues (take (at + 1) (word_bits n)) ≡ trues (take at (word_bits n))
bit_no n at h none = trues_bit_more n at h ∙ ap (λ k. trues (take at (word_bits n)) + cond (k == 1) 1 0) none
    ∙ (let e : trues (take at (word_bits n)) + 0 ≡ trues (take at (word_bits n)) = omega arith in e)

-- all words
pub trues_whole : (ws : List ℕ) (j : ℕ) → length ws ≤ j → trues (take (64 * j) (row_of ws)) ≡ trues (row_of ws)
trues_whole ws j h = trues_all (64 * j) (row_of ws) (let long = length_row ws in omega arith)

-- a longer part has no fewer
pub trues_take_grows : (bits : List Bool) (i j : ℕ) → i ≤ j → trues (take i bits) ≤ trues (take j bits)
trues_take_grows bits i j h =
    let e : j ≡ i + (j - i) = omega arith in
    let more = ap trues (take-add i (j - i) bits) ∙ trues-append (take i bits) (take (j - i) (drop i bits)) in
    let long : trues (take j bits) ≡ trues (take (i + (j - i)) bits) = ap (λ n. trues (take n bits)) e in omega arith

pub trues_set_more : (bits : List Bool) (i : ℕ) → i < length bits → get_or bits i false ≡ true → trues (take (i + 1) bits) ≡ trues (take i bits) + 1
trues_set_more bits i h set = sum_by_more (λ b. cond b 1 0) bits i false h ∙ ap (λ b. trues (take i bits) + cond b 1 0) set
