-- Rows of words, and their words.
use Rattle.std.proofs.Common.{◌≡◌, ℕ, suc, zero, ◌+◌, ◌*◌, ◌^◌, ◌<◌, ◌≤◌, Bool, false, List, [], ◌∷◌, ◌++◌, length, take, drop, get_or, replicate}
use Rattle.std.proofs.Common.{refl, sym, ap, ◌∙◌, arith}
use Rattle.std.proofs.lemmas.List.{append_assoc, drop-append-le, drop-drop, drop_at, ext_get_or, get_or-drop, get_or-take, take-append-le, take_all}
use Rattle.std.proofs.lemmas.List.{length-append, length-drop, length-replicate, length-take-le, replicate-append-replicate}
use Rattle.std.proofs.lemmas.List.FromFn.{length-map-range_with_len, get_or-map-range_with_len}
use Rattle.lert_slotbits.specs.Bits.{bits_in, word_bits, row_of}
use Rattle.lert_slotbits.proofs.RowLemmas.{length_word_bits, length_row}
use Rattle.lert_blocks.specs.Text.{number_of_bits, word_count, words_of}
use Rattle.lert_blocks.proofs.BitLaws.{number_of_bits-word_bits, number_of_bits-zeros}

-- ---- rows of words

pub row_of-append : (ws more : List ℕ) → row_of (ws ++ more) ≡ row_of ws ++ row_of more
row_of-append [] more = refl
row_of-append (w ∷ ws) more = ap (λ (bs : List Bool). word_bits w ++ bs) (row_of-append ws more) ∙ sym (append_assoc (word_bits w) (row_of ws) (row_of more))

zeros_in : (d : ℕ) → bits_in d 0 ≡ replicate d false
zeros_in zero = refl
zeros_in (suc d) = ap (λ (bs : List Bool). false ∷ bs) (zeros_in d)

pub word_bits-zero : word_bits 0 ≡ replicate 64 false
unfolding word_bits
word_bits-zero = zeros_in 64

pub row_of-zeros : (n : ℕ) → row_of (replicate n 0) ≡ replicate (64 * n) false
row_of-zeros zero = refl
row_of-zeros (suc n) =
    let e : 64 * suc n ≡ 64 + 64 * n = omega arith in
    rw (e, word_bits-zero, row_of-zeros n) (replicate-append-replicate 64 (64 * n) false)

pub drop-row : (ws : List ℕ) (j : ℕ) → j ≤ length ws → drop (64 * j) (row_of ws) ≡ row_of (drop j ws)
drop-row ws zero h = refl
drop-row [] (suc j) h = absurd (omega arith)
drop-row (w ∷ ws) (suc j) h =
    let e : 64 * suc j ≡ 64 + 64 * j = omega arith in
    rw e (sym (drop-drop (64 * j) 64 (word_bits w ++ row_of ws)) ∙ ap (drop (64 * j)) (drop_at (word_bits w) (row_of ws) 64 (length_word_bits w)) ∙ drop-row ws j (omega arith))

first_word : (ws : List ℕ) → 0 < length ws → take 64 (row_of ws) ≡ word_bits (get_or ws 0 0)
first_word [] h = absurd (omega arith)
first_word (w ∷ ws) h =
    let long = length_word_bits w in
    take-append-le 64 (word_bits w) (row_of ws) (omega arith) ∙ take_all 64 (word_bits w) (omega arith)

pub word_of-row : (ws : List ℕ) (r : ℕ) → r < length ws → take 64 (drop (64 * r) (row_of ws)) ≡ word_bits (get_or ws r 0)
word_of-row ws r h =
    let some : 0 < length (drop r ws) = simp length-drop (omega arith) in
    let e : r + 0 ≡ r = omega arith in
    ap (take 64) (drop-row ws r (omega arith)) ∙ first_word (drop r ws) some ∙ ap word_bits (get_or-drop r ws 0 0 ∙ ap (λ n. get_or ws n 0) e)

-- the words of bits that stand at the front of a row, with no bit set behind them
pub words_of-row : (bits : List Bool) (ws : List ℕ) (z : ℕ) → row_of ws ≡ bits ++ replicate z false → ((i : ℕ) → i < word_count (length bits) → get_or ws i 0 < 2 ^ 64)
    → words_of bits ≡ take (word_count (length bits)) ws
words_of-row bits ws z row fits =
    let long : length bits + z ≡ 64 * length ws = omega (arith, length-append bits (replicate z false), length-replicate z false, length_row ws, ap length row) in
    let count : word_count (length bits) ≤ length ws = omega arith in
    let made = length-map-range_with_len (λ r. number_of_bits (take 64 (drop (64 * r) bits))) 0 (word_count (length bits)) in
    ext_get_or 0 (words_of bits) (take (word_count (length bits)) ws) (made ∙ sym (length-take-le (word_count (length bits)) ws count))
    (λ r h. let within : r < word_count (length bits) = omega arith in
    get_or-map-range_with_len (λ r. number_of_bits (take 64 (drop (64 * r) bits))) 0 (word_count (length bits)) r r 0 within (omega arith)
    ∙ sym (number_of_bits-zeros 64 z (drop (64 * r) bits))
    ∙ ap (λ (bs : List Bool). number_of_bits (take 64 bs)) (sym (drop-append-le (64 * r) bits (replicate z false) (omega arith)) ∙ ap (drop (64 * r)) (sym row))
    ∙ ap number_of_bits (word_of-row ws r (omega arith)) ∙ number_of_bits-word_bits (get_or ws r 0) (fits r within)
    ∙ sym (get_or-take (word_count (length bits)) ws r 0 within))
