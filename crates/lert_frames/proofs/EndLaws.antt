-- The words of run ends at the front of bytes, and which slots they say end a run.
use Rattle.std.proofs.Common.{◌≡◌, ℕ, zero, suc, ◌+◌, ◌-◌, ◌*◌, ◌<◌, ◌≤◌, min, Bool, false, List, [], ◌∷◌, ◌++◌, length, take, drop, get_or, replicate, refl, sym, ap, ap₂, ◌∙◌, inl, inr}
use Rattle.std.{proofs.Common.{arith, append_assoc, append-nil, length-append, length-drop, length-take}, proofs.lemmas.Bool.cases_lt}
use Rattle.std.proofs.lemmas.List.{drop-append-le, drop-take, drop_at, drop-replicate, length-take-le, length-replicate, take_all, take-append-le, take-take}
use Rattle.lert_slotbits.{specs.Bits.{word_bits, row_of}, proofs.RowLemmas.length_word_bits}
use Rattle.lert_blocks.{specs.Frame.numbers_in, specs.Text.word_count}
use Rattle.byteorder.specs.Endian.{little_number}
use Rattle.lert_frames.{specs.Decoded.{words_there, ends_there}, specs.declared.slots.WordEnds.WordEnds, specs.Steps.AreEnds}
use Rattle.lert_frames.proofs.NumberLaws.{little_number-append, numbers_first, numbers_second, numbers_in-cons}

-- both words are there
pub two_words : (some : ℕ) (bytes rest : List ℕ) (word : WordEnds) → 64 < some → 16 ≤ length bytes → word.words ≡ 2 → word.first ≡ little_number 8 bytes →
    word.next ≡ little_number 8 (drop 8 bytes) → AreEnds some (bytes ++ rest) word
two_words some bytes rest word more long words_is first next =
    let there : 2 ≤ words_there some (bytes ++ rest) = omega (arith, more, long, length-append bytes rest) in
    record {
      words = omega (arith, words_is, there);
      first = first ∙ sym (numbers_first (words_there some (bytes ++ rest)) (bytes ++ rest) (omega (arith, there)) ∙ little_number-append 8 bytes rest (omega (arith, long)));
      next = next ∙ sym (numbers_second (words_there some (bytes ++ rest)) (bytes ++ rest) there
          ∙ (ap (little_number 8) (drop-append-le 8 bytes rest (omega (arith, long))) ∙ little_number-append 8 (drop 8 bytes) rest (omega (arith, long, length-drop 8 bytes))));
    }

-- none is
pub no_words : (some : ℕ) (bytes rest : List ℕ) → 1 ≤ some → length bytes < 8 → (length bytes < 8 * min 2 (word_count some) → rest ≡ []) →
    AreEnds some (bytes ++ rest) (record { words = 0; first = 0; next = 0 })
no_words some bytes rest any short missing =
    let empty : length rest ≡ 0 = ap length (missing (omega (arith, any, short))) in
    let none : words_there some (bytes ++ rest) ≡ 0 = omega (arith, short, length-append bytes rest, empty) in
    record {
      words = omega (arith, none);
      first = sym (ap (λ n. get_or (numbers_in n (bytes ++ rest)) 0 0) none);
      next = sym (ap (λ n. get_or (numbers_in n (bytes ++ rest)) 1 0) none);
    }

-- one is there, of one or of two
module _ (some : ℕ) (bytes rest : List ℕ) (first : ℕ) (any : 1 ≤ some) (long : 8 ≤ length bytes) (is : first ≡ little_number 8 bytes) where
  first_there : words_there some (bytes ++ rest) ≡ 1 → AreEnds some (bytes ++ rest) (record { words = 1; first = first; next = 0 })
  first_there one = record {
    words = omega (arith, one);
    first = is ∙ sym (numbers_first (words_there some (bytes ++ rest)) (bytes ++ rest) (omega (arith, one)) ∙ little_number-append 8 bytes rest long);
    next = sym (ap (λ n. get_or (numbers_in n (bytes ++ rest)) 1 0) one);
  }

  pub only_word : some ≤ 64 → AreEnds some (bytes ++ rest) (record { words = 1; first = first; next = 0 })
  only_word few = first_there (omega (arith, any, few, long, length-append bytes rest))

  pub second_missing : 64 < some → length bytes < 16 → (length bytes < 8 * min 2 (word_count some) → rest ≡ []) →
      AreEnds some (bytes ++ rest) (record { words = 1; first = first; next = 0 })
  second_missing more short missing =
      let empty : length rest ≡ 0 = ap length (missing (omega (arith, more, short))) in
      first_there (omega (arith, more, long, short, length-append bytes rest, empty))

-- ---- which slots end a run

pub length-ends_there : (some : ℕ) (ends : List ℕ) → length (ends_there some ends) ≡ some
length-ends_there some ends =
    let row = row_of (numbers_in (words_there some ends) ends) in
    length-take-le some (row ++ replicate some false) (omega (arith, length-append row (replicate some false), length-replicate {A = Bool} some false))

-- bits that aren't set, behind others: how many doesn't matter, where there are enough
take_behind : (n a b : ℕ) (bits : List Bool) → n ≤ length bits + a → n ≤ length bits + b → take n (bits ++ replicate a false) ≡ take n (bits ++ replicate b false)
take_behind zero a b bits first second = refl
take_behind (suc n) a b (bit ∷ bits) first second = ap (λ (bs : List Bool). bit ∷ bs) (take_behind n a b bits (omega (arith, first)) (omega (arith, second)))
take_behind (suc n) zero b [] first second = absurd (omega (arith, first))
take_behind (suc n) (suc a) zero [] first second = absurd (omega (arith, second))
take_behind (suc n) (suc a) (suc b) [] first second = ap (λ (bs : List Bool). false ∷ bs) (take_behind n a b [] (omega (arith, first)) (omega (arith, second)))

-- the word at the front
first_word : (n : ℕ) (ends : List ℕ) (rest : List Bool) → 1 ≤ n →
    row_of (numbers_in n ends) ++ rest ≡ word_bits (little_number 8 ends) ++ (row_of (numbers_in (n - 1) (drop 8 ends)) ++ rest)
first_word zero ends rest some = absurd (omega (arith, some))
first_word (suc n) ends rest some =
    ap (λ (ws : List ℕ). row_of ws ++ rest) (numbers_in-cons n ends)
    ∙ (append_assoc (word_bits (little_number 8 ends)) (row_of (numbers_in n (drop 8 ends))) rest
    ∙ ap (λ m. word_bits (little_number 8 ends) ++ (row_of (numbers_in m (drop 8 ends)) ++ rest)) (let e : n ≡ suc n - 1 = omega arith in e))

-- those behind the first word
pub ends_there-rest : (some : ℕ) (ends : List ℕ) → 64 < some → ends_there (some - 64) (drop 8 ends) ≡ drop 64 (ends_there some ends)
ends_there-rest some ends more =
    let n = words_there some ends in
    let m = words_there (some - 64) (drop 8 ends) in
    let row = row_of (numbers_in n ends) in
    let parts : some ≡ 64 + (some - 64) = omega (arith, more) in
    let apart : drop 64 (ends_there some ends) ≡ take (some - 64) (drop 64 (row ++ replicate some false)) =
    ap (λ k. drop 64 (take k (row ++ replicate some false))) parts ∙ drop-take 64 (some - 64) (row ++ replicate some false) in
    elim (cases_lt (length ends) 8) [
      | inl short ↦
          let none : n ≡ 0 = omega (arith, short) in
          let none_then : m ≡ 0 = omega (arith, short, length-drop 8 ends) in
          ap (λ k. take (some - 64) (row_of (numbers_in k (drop 8 ends)) ++ replicate (some - 64) false)) none_then
          ∙ sym (apart ∙ (ap (λ k. take (some - 64) (drop 64 (row_of (numbers_in k ends) ++ replicate some false))) none ∙ ap (take (some - 64)) (drop-replicate 64 some false)))
      | inr long ↦
          let one : 1 ≤ n = omega (arith, long, more) in
          let less : n - 1 ≡ m = omega (arith, long, more, length-drop 8 ends) in
          take_behind (some - 64) (some - 64) some (row_of (numbers_in m (drop 8 ends))) (omega arith) (omega (arith, more))
          ∙ sym (apart
          ∙ ap (take (some - 64)) (ap (drop 64) (first_word n ends (replicate some false) one)
          ∙ (drop_at (word_bits (little_number 8 ends)) (row_of (numbers_in (n - 1) (drop 8 ends)) ++ replicate some false) 64 (length_word_bits (little_number 8 ends))
          ∙ ap (λ k. row_of (numbers_in k (drop 8 ends)) ++ replicate some false) less)))
    ]

zero_bits : word_bits 0 ≡ replicate 64 false
unfolding word_bits
zero_bits = refl

-- what is known of them by two words
near_of : (ws : List ℕ) (some k : ℕ) → k ≤ some → k ≤ 128 →
    take k (row_of ws ++ replicate some false) ≡ take k (word_bits (get_or ws 0 0) ++ word_bits (get_or ws 1 0))
near_of [] some k few within =
    take_behind k some 128 [] (omega (arith, few)) (omega (arith, within))
    ∙ sym (ap₂ (λ (xs ys : List Bool). take k (xs ++ ys)) zero_bits zero_bits)
near_of (w ∷ []) some k few within =
    let long = length_word_bits w in
    ap (λ (bits : List Bool). take k (bits ++ replicate some false)) (append-nil (word_bits w))
    ∙ (take_behind k some 64 (word_bits w) (omega (arith, few)) (omega (arith, within, long))
    ∙ ap (λ (bits : List Bool). take k (word_bits w ++ bits)) (sym zero_bits))
near_of (w ∷ v ∷ rest) some k few within =
    let both = word_bits w ++ word_bits v in
    let behind = row_of rest ++ replicate some false in
    ap (take k) (append_assoc (word_bits w) (word_bits v ++ row_of rest) (replicate some false)
    ∙ (ap (λ (bits : List Bool). word_bits w ++ bits) (append_assoc (word_bits v) (row_of rest) (replicate some false)) ∙ sym (append_assoc (word_bits w) (word_bits v) behind)))
    ∙ take-append-le k both behind (omega (arith, within, length-append (word_bits w) (word_bits v), length_word_bits w, length_word_bits v))

pub ends_near : (some : ℕ) (ends : List ℕ) (word : WordEnds) → AreEnds some ends word →
    take 72 (ends_there some ends) ≡ take (min some 72) (word_bits word.first ++ word_bits word.next)
ends_near some ends word are =
    let ws = numbers_in (words_there some ends) ends in
    let bits = row_of ws ++ replicate some false in
    let cut : take 72 (take some bits) ≡ take (min some 72) bits = elim (cases_lt some 72) [
      | inl few ↦ take_all 72 (take some bits) (omega (arith, few, length-take some bits)) ∙ ap (λ k. take k bits) (let e : some ≡ min some 72 = omega (arith, few) in e)
      | inr more ↦ take-take 72 some bits more ∙ ap (λ k. take k bits) (let e : 72 ≡ min some 72 = omega (arith, more) in e)
    ] in
    cut
    ∙ (near_of ws some (min some 72) (omega arith) (omega arith)
    ∙ ap₂ (λ m n. take (min some 72) (word_bits m ++ word_bits n)) (sym are.first) (sym are.next))
