-- The test of run ends, word by word.
use Rattle.std.proofs.Common.{◌≡◌, ℕ, zero, suc, ◌+◌, ◌-◌, ◌*◌, ◌/◌, ◌%◌, ◌^◌, ◌<◌, ◌==◌, ◌&&◌, Bool, true, false, cond, List, [], ◌∷◌, ◌++◌, length, take, drop, get_or, refl, sym, ap, ap₂}
use Rattle.std.{proofs.Common.{◌∙◌, inl, inr, arith, length-append, eq-eqb, ne_eqb, append-nil, append_assoc}, specs.Prelude.{slice_index_or, count_ones}}
use Rattle.std.{proofs.Math.Nat.{pow-suc, div-div-eq-div-mul, pow-succ'}, proofs.Math.Seq.{get_or-append_seam, drop-append-add}, proofs.lemmas.Bool.cases_eq}
use Rattle.std.proofs.lemmas.List.{get_or-append-add, take_all, take_more, length-take-le, nil_from_length}
use Rattle.lert_slotbits.{specs.Bits.{bits_in, word_bits, row_of, trues}, proofs.CountLemmas.{trues-append, trues-word}, proofs.RowLemmas.length_row}
use Rattle.lert_blocks.{specs.Frame.ends_agree, specs.Text.word_count, proofs.BitLaws.trues-cons}
use Rattle.lert_frames.{specs.declared.run_ends.RunEnds.RunEnds, specs.Steps.AreCounted}

-- ---- counting

pub row_of-append : (ws more : List ℕ) → row_of (ws ++ more) ≡ row_of ws ++ row_of more
row_of-append [] more = refl
row_of-append (w ∷ ws) more = ap (λ (bits : List Bool). word_bits w ++ bits) (row_of-append ws more) ∙ sym (append_assoc (word_bits w) (row_of ws) (row_of more))

pub counted_more : (words : List ℕ) (found : RunEnds) (word ones : ℕ) → word < 2 ^ 64 → ones ≡ count_ones word → AreCounted words found →
    AreCounted (words ++ word ∷ []) (record { set = found.set + ones; last = word })
counted_more words found word ones fits are counted = record {
  set = ap₂ (λ a b. a + b) counted.set (are ∙ (sym (trues-word word fits) ∙ ap trues (sym (append-nil (word_bits word)))))
      ∙ (sym (trues-append (row_of words) (row_of (word ∷ []))) ∙ ap trues (sym (row_of-append words (word ∷ []))));
  last = sym (ap (λ n. get_or (words ++ word ∷ []) n 0) (let e : length (words ++ word ∷ []) - 1 ≡ length words = omega (arith, length-append words (word ∷ [])) in e)
      ∙ get_or-append_seam words word [] 0);
  fits = fits;
}

-- ---- one word

bits_of_none : (d n : ℕ) → n < 2 ^ d → trues (bits_in d n) ≡ 0 → n ≡ 0
bits_of_none zero n fits none = omega (arith, fits)
bits_of_none (suc d) n fits none =
    let parts = trues-cons (n % 2 == 1) (bits_in d (n / 2)) in
    let twice : 2 ^ suc d ≡ 2 ^ d * 2 = pow-suc 2 d in
    let half : n / 2 ≡ 0 = bits_of_none d (n / 2) (omega arith) (omega arith) in
    elim (cases_eq (n % 2) 1) [
      | inl odd ↦ absurd (let one : cond {A = ℕ} (n % 2 == 1) 1 0 ≡ 1 = ap (λ (b : Bool). cond {A = ℕ} b 1 0) (eq-eqb (n % 2) 1 odd) in omega arith)
      | inr even ↦ omega (arith, half, even)
    ]

none_of_zero : (d : ℕ) → trues (bits_in d 0) ≡ 0
none_of_zero zero = refl
none_of_zero (suc d) = trues-cons false (bits_in d 0) ∙ (let e = none_of_zero d in omega (arith, e))

-- of a number's bits the one at a place is set, and none above it
top_bit : (d n r : ℕ) → n < 2 ^ d → r < d → (trues (drop (r + 1) (bits_in d n)) == 0) && slice_index_or (bits_in d n) r true ≡ (n / 2 ^ r == 1)
top_bit zero n r fits within = absurd (omega (arith, within))
top_bit (suc d) n zero fits within =
    let twice : 2 ^ suc d ≡ 2 ^ d * 2 = pow-suc 2 d in
    elim (cases_eq (n / 2) 0) [
      | inl none ↦
          let clear : trues (bits_in d (n / 2)) ≡ 0 = ap (λ m. trues (bits_in d m)) none ∙ none_of_zero d in
          ap (λ b. b && (n % 2 == 1)) (eq-eqb (trues (bits_in d (n / 2))) 0 clear) ∙ ap (λ m. m == 1) (let e : n % 2 ≡ n / 1 = omega (arith, none) in e)
      | inr some ↦
          let set : trues (bits_in d (n / 2)) ≡ 0 → ⊥ = λ clear. some (bits_of_none d (n / 2) (omega arith) clear) in
          ap (λ b. b && (n % 2 == 1)) (ne_eqb (trues (bits_in d (n / 2))) 0 set) ∙ sym (ne_eqb (n / 1) 1 (λ one. omega (arith, one, some)))
    ]
top_bit (suc d) n (suc r) fits within =
    let twice : 2 ^ suc d ≡ 2 ^ d * 2 = pow-suc 2 d in
    let bits = bits_in d (n / 2) in
    let next : drop (suc r + 1) ((n % 2 == 1) ∷ bits) ≡ drop (r + 1) bits = ap (λ k. drop k ((n % 2 == 1) ∷ bits)) (let e : suc r + 1 ≡ suc (r + 1) = omega arith in e) in
    ap (λ (rest : List Bool). (trues rest == 0) && get_or bits r true) next
    ∙ (top_bit d (n / 2) r (omega arith) (omega (arith, within))
    ∙ ap (λ m. m == 1) (div-div-eq-div-mul n 2 (2 ^ r) ∙ ap (λ m. n / m) (sym (pow-succ' 2 r))))

-- ---- all words

-- a list's last item
last_of : (words : List ℕ) (m : ℕ) → length words ≡ m + 1 → words ≡ take m words ++ get_or words m 0 ∷ []
last_of words m long = sym (take_all (m + 1) words (omega (arith, long))) ∙ take_more words m 0 (omega (arith, long))

top_word : (n r : ℕ) → n < 2 ^ 64 → r < 64 → (trues (drop (r + 1) (word_bits n)) == 0) && slice_index_or (word_bits n) r true ≡ (n / 2 ^ r == 1)
unfolding word_bits
top_word n r fits within = top_bit 64 n r fits within

-- words behind others, of which the last bit is one of the last word
module _ (words front : List ℕ) (last m r count : ℕ) (all : words ≡ front ++ last ∷ []) (long : length front ≡ m) (count_is : count ≡ 64 * m + (r + 1)) where
  row : row_of words ≡ row_of front ++ word_bits last
  row = ap row_of all ∙ (row_of-append front (last ∷ []) ∙ ap (λ (bits : List Bool). row_of front ++ bits) (append-nil (word_bits last)))

  front_len : length (row_of front) ≡ 64 * m
  front_len = length_row front ∙ ap (λ n. 64 * n) long

  dropped : drop count (row_of words) ≡ drop (r + 1) (word_bits last)
  dropped =
      ap₂ (λ n (bits : List Bool). drop n bits) (count_is ∙ ap (λ n. n + (r + 1)) (sym front_len)) row
      ∙ drop-append-add (row_of front) (word_bits last) (r + 1)

  last_bit : get_or (row_of words) (count - 1) true ≡ get_or (word_bits last) r true
  last_bit =
      ap₂ (λ n (bits : List Bool). get_or bits n true) (let e : count - 1 ≡ 64 * m + r = omega (arith, count_is) in e ∙ ap (λ n. n + r) (sym front_len)) row
      ∙ get_or-append-add (row_of front) (word_bits last) r true

  last_agrees : last < 2 ^ 64 → r < 64 → (trues (drop count (row_of words)) == 0) && slice_index_or (row_of words) (count - 1) true ≡ (last / 2 ^ r == 1)
  last_agrees fits within = ap₂ (λ (rest : List Bool) b. (trues rest == 0) && b) dropped last_bit ∙ top_word last r fits within

-- what was counted decides whether run ends agree
pub agree_is : (occupied count set last : ℕ) (words : List ℕ) → occupied < 2 ^ 64 → last < 2 ^ 64 → (count ≡ 0 → ⊥) → length words ≡ word_count count →
    set ≡ trues (row_of words) → last ≡ get_or words (length words - 1) 0 →
    (set == count_ones occupied) && (last / 2 ^ ((count - 1) % 64) == 1) ≡ ends_agree occupied count words
agree_is occupied count set last words fits last_fits some long set_is last_is =
    let m = (count - 1) / 64 in
    let r = (count - 1) % 64 in
    let words_len : length words ≡ m + 1 = omega (arith, long, some) in
    let place : length words - 1 ≡ m = omega (arith, words_len) in
    let all : words ≡ take m words ++ last ∷ [] = last_of words m words_len ∙ ap (λ w. take m words ++ w ∷ []) (sym (last_is ∙ ap (λ k. get_or words k 0) place)) in
    ap₂ (λ a b. (a == b) && (last / 2 ^ r == 1)) set_is (sym (trues-word occupied fits))
    ∙ ap (λ b. (trues (row_of words) == trues (word_bits occupied)) && b)
    (sym (last_agrees words (take m words) last m r count all (length-take-le m words (omega (arith, words_len))) (omega (arith, some)) last_fits (omega arith)))

nothing_agrees : ends_agree 0 0 [] ≡ true
unfolding word_bits
nothing_agrees = refl

pub agree_same : (occupied count ones : ℕ) (words : List ℕ) (found : RunEnds) → occupied < 2 ^ 64 → (count ≡ 0 → ⊥) → length words ≡ word_count count → AreCounted words found →
    ones ≡ count_ones occupied → found.set ≡ ones → (found.last / 2 ^ ((count - 1) % 64) == 1) ≡ ends_agree occupied count words
agree_same occupied count ones words found fits some long are ones_are same =
    ap (λ b. b && (found.last / 2 ^ ((count - 1) % 64) == 1)) (sym (eq-eqb found.set (count_ones occupied) (same ∙ ones_are)))
    ∙ agree_is occupied count found.set found.last words fits are.fits some long are.set are.last

pub agree_other : (occupied count ones : ℕ) (words : List ℕ) (found : RunEnds) → occupied < 2 ^ 64 → (count ≡ 0 → ⊥) → length words ≡ word_count count → AreCounted words found →
    ones ≡ count_ones occupied → (found.set ≡ ones → ⊥) → (found.set == ones) ≡ ends_agree occupied count words
agree_other occupied count ones words found fits some long are ones_are other =
    ne_eqb found.set ones other
    ∙ (ap (λ b. b && (found.last / 2 ^ ((count - 1) % 64) == 1)) (sym (ne_eqb found.set (count_ones occupied) (λ same. other (same ∙ sym ones_are))))
    ∙ agree_is occupied count found.set found.last words fits are.fits some long are.set are.last)

-- where there are no slots and no runs, they do
pub none_agree : (occupied count : ℕ) (words : List ℕ) → count ≡ 0 → occupied ≡ 0 → length words ≡ word_count count → ends_agree occupied count words ≡ true
none_agree occupied count words no_slots no_runs long =
    let none : words ≡ [] = nil_from_length words (long ∙ ap word_count no_slots) in
    ap₂ (λ k (ws : List ℕ). ends_agree k count ws) no_runs none ∙ (ap (λ n. ends_agree 0 n []) no_slots ∙ nothing_agrees)
