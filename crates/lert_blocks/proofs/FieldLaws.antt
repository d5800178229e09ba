-- Numbers in eight bytes each, written and read back, and the bytes that numbers were read from.
use Rattle.std.proofs.Common.{◌≡◌, ℕ, suc, zero, ◌+◌, ◌*◌, ◌^◌, ◌<◌, ◌≤◌, List, [], ◌∷◌, ◌++◌, All, length, take, drop, map, refl, sym, ap, ap₂, ◌∙◌, subst}
use Rattle.std.proofs.Common.{inl, inr, arith, append_assoc, length-append, length-drop, length-take}
use Rattle.std.specs.Prelude.{slice_index}
use Rattle.std.specs.List.{range_with_len}
use Rattle.std.proofs.Math.Seq.{take-add}
use Rattle.std.proofs.lemmas.Bool.{cases_lt}
use Rattle.std.proofs.lemmas.List.{drop-drop, drop_at, get_or-drop, get_or-take, get_or_past, take_all}
use Rattle.std.proofs.lemmas.List.Elements.{All-cons}
use Rattle.byteorder.specs.Endian.{little_bytes, little_number}
use Rattle.byteorder.specs.Numbers.{little_number-reads_back, length-bytes_low_first, little_from-lt, little_from-take}
use Rattle.lert_spec.proofs.ByteLaws.{bytes_back}
use Rattle.lert_blocks.specs.Text.{numbers_text}
use Rattle.lert_blocks.specs.Frame.{numbers_in}

-- so many numbers, one behind the other
abbrev numbers : ℕ → List ℕ → List ℕ
numbers zero bytes = []
numbers (suc n) bytes = little_number 8 bytes ∷ numbers n (drop 8 bytes)

numbers_from : (n j : ℕ) (bytes : List ℕ) → map (λ i. little_number 8 (drop (8 * i) bytes)) (range_with_len j n) ≡ numbers n (drop (8 * j) bytes)
numbers_from zero j bytes = refl
numbers_from (suc n) j bytes =
    let next : drop (8 * (j + 1)) bytes ≡ drop 8 (drop (8 * j) bytes) =
    ap (λ k. drop k bytes) (let e : 8 * (j + 1) ≡ 8 * j + 8 = omega arith in e) ∙ sym (drop-drop 8 (8 * j) bytes) in
    ap (λ (ns : List ℕ). little_number 8 (drop (8 * j) bytes) ∷ ns) (numbers_from n (j + 1) bytes ∙ ap (numbers n) next)

numbers_are : (n : ℕ) (bytes : List ℕ) → numbers_in n bytes ≡ numbers n bytes
numbers_are n bytes = numbers_from n 0 bytes

length_numbers : (n : ℕ) (bytes : List ℕ) → length (numbers n bytes) ≡ n
length_numbers zero bytes = refl
length_numbers (suc n) bytes = ap suc (length_numbers n (drop 8 bytes))

pub length-numbers_in : (n : ℕ) (bytes : List ℕ) → length (numbers_in n bytes) ≡ n
length-numbers_in n bytes = ap (λ (ns : List ℕ). length ns) (numbers_are n bytes) ∙ length_numbers n bytes

pub length-little_bytes : (n x : ℕ) → length (little_bytes n x) ≡ n
length-little_bytes n x = length-bytes_low_first 0 n x

pub length-numbers_text : (ns : List ℕ) → length (numbers_text ns) ≡ 8 * length ns
length-numbers_text [] = refl
length-numbers_text (n ∷ ns) = omega (arith, length-append (little_bytes 8 n) (numbers_text ns), length-little_bytes 8 n, length-numbers_text ns)

-- ---- what was written is read back

pub number_back : (x : ℕ) (rest : List ℕ) → x < 2 ^ 64 → little_number 8 (little_bytes 8 x ++ rest) ≡ x
number_back x rest fits = little_number-reads_back 8 x rest fits

numbers_back_from : (ns rest : List ℕ) → All (λ n. n < 2 ^ 64) ns → numbers (length ns) (numbers_text ns ++ rest) ≡ ns
numbers_back_from [] rest fit = refl
numbers_back_from (n ∷ ns) rest fit =
    let split : (little_bytes 8 n ++ numbers_text ns) ++ rest ≡ little_bytes 8 n ++ (numbers_text ns ++ rest) = append_assoc (little_bytes 8 n) (numbers_text ns) rest in
    ap (numbers (suc (length ns))) split
    ∙ ap₂ (λ k (ks : List ℕ). k ∷ ks)
    (number_back n (numbers_text ns ++ rest) (fit 0 0 (omega arith)))
    (ap (numbers (length ns)) (drop_at (little_bytes 8 n) (numbers_text ns ++ rest) 8 (length-little_bytes 8 n))
    ∙ numbers_back_from ns rest (λ k d below. fit (suc k) d (omega (arith, below))))

pub numbers_back : (n : ℕ) (ns rest : List ℕ) → length ns ≡ n → All (λ n. n < 2 ^ 64) ns → numbers_in n (numbers_text ns ++ rest) ≡ ns
numbers_back n ns rest long fit = ap (λ m. numbers_in m (numbers_text ns ++ rest)) (sym long) ∙ (numbers_are (length ns) (numbers_text ns ++ rest) ∙ numbers_back_from ns rest fit)

-- ---- what was read is what was written

-- the first so many are bytes
abbrev pub AreBytes : ℕ → List ℕ → Type 0
AreBytes n bytes = (k : ℕ) → k < n → slice_index bytes k < 256

pub bytes_from : (n : ℕ) (bytes : List ℕ) → All (λ b. b < 256) (take n bytes) → AreBytes n bytes
bytes_from n bytes small k below = elim (cases_lt k (length bytes)) [
  | inl within ↦ subst (λ (b : ℕ). b < 256) (get_or-take n bytes k 0 below) (small k 0 (omega (arith, below, within, length-take n bytes)))
  | inr past ↦ subst (λ (b : ℕ). b < 256) (sym (get_or_past bytes k 0 past)) (omega arith)
]

pub fewer_bytes : (n m : ℕ) (bytes : List ℕ) → m ≤ n → AreBytes n bytes → AreBytes m bytes
fewer_bytes n m bytes fewer small k below = small k (omega (arith, below, fewer))

pub bytes_behind : (n m : ℕ) (bytes : List ℕ) → AreBytes (n + m) bytes → AreBytes m (drop n bytes)
bytes_behind n m bytes small k below = subst (λ (b : ℕ). b < 256) (sym (get_or-drop n bytes k 0)) (small (n + k) (omega (arith, below)))

-- a front of bytes alone
front_bytes : (n : ℕ) (bytes : List ℕ) → AreBytes n bytes → (k : ℕ) → slice_index (take n bytes) k < 256
front_bytes n bytes small k = elim (cases_lt k n) [
  | inl below ↦ subst (λ (b : ℕ). b < 256) (sym (get_or-take n bytes k 0 below)) (small k below)
  | inr past ↦ subst (λ (b : ℕ). b < 256) (sym (get_or_past (take n bytes) k 0 (omega (arith, past, length-take n bytes)))) (omega arith)
]

number_in_front : (n : ℕ) (bytes : List ℕ) → little_number n bytes ≡ little_number n (take n bytes)
number_in_front n bytes = sym (little_from-take 0 n n bytes (omega arith))

pub text_of_number : (n : ℕ) (bytes : List ℕ) → AreBytes n bytes → n ≤ length bytes → little_bytes n (little_number n bytes) ≡ take n bytes
text_of_number n bytes small long =
    ap (little_bytes n) (number_in_front n bytes)
    ∙ (bytes_back 0 n (take n bytes) (front_bytes n bytes small) (omega (arith, long, length-take n bytes)) ∙ take_all n (take n bytes) (omega (arith, length-take n bytes)))

pub number_fits : (bytes : List ℕ) → AreBytes 8 bytes → little_number 8 bytes < 2 ^ 64
number_fits bytes small = subst (λ (n : ℕ). n < 2 ^ 64) (sym (number_in_front 8 bytes)) (little_from-lt 0 8 (take 8 bytes) (front_bytes 8 bytes small))

text_of_numbers_from : (n : ℕ) (bytes : List ℕ) → AreBytes (8 * n) bytes → 8 * n ≤ length bytes → numbers_text (numbers n bytes) ≡ take (8 * n) bytes
text_of_numbers_from zero bytes small long = refl
text_of_numbers_from (suc n) bytes small long =
    ap₂ (λ (xs ys : List ℕ). xs ++ ys)
    (text_of_number 8 bytes (fewer_bytes (8 * suc n) 8 bytes (omega arith) small) (omega (arith, long)))
    (text_of_numbers_from n (drop 8 bytes) (bytes_behind 8 (8 * n) bytes (fewer_bytes (8 * suc n) (8 + 8 * n) bytes (omega arith) small)) (omega (arith, long, length-drop 8 bytes)))
    ∙ (sym (take-add 8 (8 * n) bytes) ∙ ap (λ m. take m bytes) (let e : 8 + 8 * n ≡ 8 * suc n = omega arith in e))

pub text_of_numbers : (n : ℕ) (bytes : List ℕ) → AreBytes (8 * n) bytes → 8 * n ≤ length bytes → numbers_text (numbers_in n bytes) ≡ take (8 * n) bytes
text_of_numbers n bytes small long = ap numbers_text (numbers_are n bytes) ∙ text_of_numbers_from n bytes small long

numbers_fit_from : (n : ℕ) (bytes : List ℕ) → AreBytes (8 * n) bytes → All (λ n. n < 2 ^ 64) (numbers n bytes)
numbers_fit_from zero bytes small = λ k d below. absurd (omega (arith, below))
numbers_fit_from (suc n) bytes small =
    All-cons (λ n. n < 2 ^ 64) (little_number 8 bytes) (numbers n (drop 8 bytes)) (number_fits bytes (fewer_bytes (8 * suc n) 8 bytes (omega arith) small))
    (numbers_fit_from n (drop 8 bytes) (bytes_behind 8 (8 * n) bytes (fewer_bytes (8 * suc n) (8 + 8 * n) bytes (omega arith) small)))

pub numbers_fit : (n : ℕ) (bytes : List ℕ) → AreBytes (8 * n) bytes → All (λ n. n < 2 ^ 64) (numbers_in n bytes)
numbers_fit n bytes small = subst (λ (ns : List ℕ). All (λ n. n < 2 ^ 64) ns) (sym (numbers_are n bytes)) (numbers_fit_from n bytes small)
