-- Numbers in eight bytes each, at the front of bytes.
use Rattle.std.proofs.Common.{◌≡◌, ℕ, zero, suc, ◌+◌, ◌-◌, ◌*◌, ◌≤◌, List, [], ◌∷◌, ◌++◌, length, take, drop, get_or, map, refl, sym, ap, ap₂, ◌∙◌, arith, length-drop, length-take}
use Rattle.std.{specs.List.range_with_len, proofs.Math.ListN.get_or-append, proofs.lemmas.List.{drop-drop, drop-append-le, take_at, take-append-drop}}
use Rattle.std.proofs.lemmas.List.FromFn.{get_or-map-range_with_len, length-map-range_with_len, take-map-range_with_len, map-range_with_len_more, fill_by_all}
use Rattle.byteorder.specs.Endian.{little_from, little_number, IsRead}
use Rattle.lert_blocks.specs.Frame.{numbers_in}

-- ---- one number

little_from-append : (i n : ℕ) (xs ys : List ℕ) → i + n ≤ length xs → little_from i n (xs ++ ys) ≡ little_from i n xs
little_from-append i zero xs ys long = refl
little_from-append i (suc n) xs ys long =
    ap₂ (λ b m. b + 256 * m) (get_or-append xs ys 0 i (omega (arith, long))) (little_from-append (suc i) n xs ys (omega (arith, long)))

-- it is that of the bytes alone, whatever stands behind them
pub little_number-append : (n : ℕ) (xs ys : List ℕ) → n ≤ length xs → little_number n (xs ++ ys) ≡ little_number n xs
little_number-append n xs ys long = little_from-append 0 n xs ys (omega (arith, long))

-- ---- several

abbrev number_at : List ℕ → ℕ → ℕ
number_at bytes i = little_number 8 (drop (8 * i) bytes)

numbers_from : (n j : ℕ) (bytes : List ℕ) → map (number_at bytes) (range_with_len (j + 1) n) ≡ map (number_at (drop 8 bytes)) (range_with_len j n)
numbers_from zero j bytes = refl
numbers_from (suc n) j bytes =
    ap₂ (λ x (xs : List ℕ). x ∷ xs)
    (ap (little_number 8) (ap (λ k. drop k bytes) (let e : 8 * (j + 1) ≡ 8 * j + 8 = omega arith in e)
    ∙ sym (drop-drop (8 * j) 8 bytes ∙ ap (λ k. drop k bytes) (let e : 8 + 8 * j ≡ 8 * j + 8 = omega arith in e))))
    (numbers_from n (j + 1) bytes)

pub numbers_in-cons : (n : ℕ) (bytes : List ℕ) → numbers_in (suc n) bytes ≡ little_number 8 bytes ∷ numbers_in n (drop 8 bytes)
numbers_in-cons n bytes = ap (λ (xs : List ℕ). little_number 8 bytes ∷ xs) (numbers_from n 0 bytes)

pub length-numbers : (n : ℕ) (bytes : List ℕ) → length (numbers_in n bytes) ≡ n
length-numbers n bytes = length-map-range_with_len (number_at bytes) 0 n

pub take-numbers : (k n : ℕ) (bytes : List ℕ) → k ≤ n → take k (numbers_in n bytes) ≡ numbers_in k bytes
take-numbers k n bytes few = take-map-range_with_len (number_at bytes) 0 n k few

pub drop-numbers : (k n : ℕ) (bytes : List ℕ) → k ≤ n → drop k (numbers_in n bytes) ≡ numbers_in (n - k) (drop (8 * k) bytes)
drop-numbers zero n bytes few = ap (λ m. numbers_in m bytes) (let e : n ≡ n - 0 = omega arith in e)
drop-numbers (suc k) zero bytes few = absurd (omega (arith, few))
drop-numbers (suc k) (suc n) bytes few =
    ap (drop (suc k)) (numbers_in-cons n bytes)
    ∙ (drop-numbers k n (drop 8 bytes) (omega (arith, few))
    ∙ ap₂ (λ m (xs : List ℕ). numbers_in m xs) (let e : n - k ≡ suc n - suc k = omega arith in e)
    (drop-drop (8 * k) 8 bytes ∙ ap (λ m. drop m bytes) (let e : 8 + 8 * k ≡ 8 * suc k = omega arith in e)))

pub numbers-more : (n : ℕ) (bytes : List ℕ) → numbers_in (n + 1) bytes ≡ numbers_in n bytes ++ number_at bytes n ∷ []
numbers-more n bytes = map-range_with_len_more (number_at bytes) 0 n n (let e : 0 + n ≡ n = omega arith in e)

-- they are those of the bytes alone, whatever stands behind them
pub numbers-append : (n : ℕ) (xs ys : List ℕ) → 8 * n ≤ length xs → numbers_in n (xs ++ ys) ≡ numbers_in n xs
numbers-append zero xs ys long = refl
numbers-append (suc n) xs ys long =
    numbers_in-cons n (xs ++ ys)
    ∙ (ap₂ (λ x (ns : List ℕ). x ∷ ns) (little_number-append 8 xs ys (omega (arith, long)))
    (ap (numbers_in n) (drop-append-le 8 xs ys (omega (arith, long))) ∙ numbers-append n (drop 8 xs) ys (omega (arith, long, length-drop 8 xs)))
    ∙ sym (numbers_in-cons n xs))

pub numbers_read : (bytes into : List ℕ) → IsRead little_number 8 bytes into → into ≡ numbers_in (length into) bytes
numbers_read bytes into is = fill_by_all (number_at bytes) into (length into) 0 refl is

-- the first two of several
pub numbers_first : (n : ℕ) (bytes : List ℕ) → 1 ≤ n → get_or (numbers_in n bytes) 0 0 ≡ little_number 8 bytes
numbers_first n bytes some = get_or-map-range_with_len (number_at bytes) 0 n 0 0 0 (omega (arith, some)) (omega arith)

pub numbers_second : (n : ℕ) (bytes : List ℕ) → 2 ≤ n → get_or (numbers_in n bytes) 1 0 ≡ little_number 8 (drop 8 bytes)
numbers_second n bytes some = get_or-map-range_with_len (number_at bytes) 0 n 1 1 0 (omega (arith, some)) (omega arith)

-- those that were read into the front of others
pub numbers_into : (n : ℕ) (bytes dst rest : List ℕ) → length dst ≡ n → 8 * n ≤ length bytes → IsRead little_number 8 (take (8 * n) bytes) dst →
    take n (dst ++ rest) ≡ numbers_in n bytes
numbers_into n bytes dst rest long enough is =
    take_at dst rest n long
    ∙ (numbers_read (take (8 * n) bytes) dst is
    ∙ (ap (λ m. numbers_in m (take (8 * n) bytes)) long
    ∙ (sym (numbers-append n (take (8 * n) bytes) (drop (8 * n) bytes) (omega (arith, enough, length-take (8 * n) bytes)))
    ∙ ap (numbers_in n) (take-append-drop (8 * n) bytes))))
