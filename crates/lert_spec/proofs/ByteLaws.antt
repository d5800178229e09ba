-- The bytes of the number in some bytes are these bytes.
use Rattle.std.proofs.{Common.{◌≡◌, ℕ, zero, suc, ◌+◌, ◌*◌, ◌/◌, ◌%◌, ◌<◌, ◌≤◌, ◌^◌, List, ◌∷◌, length, take, drop, refl, sym, ap, ap₂, arith, ◌∙◌}, lemmas.List.drop_more}
use Rattle.std.proofs.Math.Nat.{div-div-eq-div-mul, pow-succ'}
use Rattle.std.specs.{Prelude.slice_index, Int.{bytes_low_first, byte_at}}
use Rattle.byteorder.specs.Endian.{little_bytes, little_from}

-- a byte of a number with one byte more below it
byte_above : (k b x : ℕ) → b < 256 → byte_at (suc k) (b + 256 * x) ≡ byte_at k x
byte_above zero b x below = omega (arith, below)
byte_above (suc k) b x below =
    let above : (b + 256 * x) / 256 ≡ x = omega (arith, below) in
    ap (λ (y : ℕ). y % 256)
    (ap (λ (p : ℕ). (b + 256 * x) / p) (pow-succ' 256 (suc k))
    ∙ (sym (div-div-eq-div-mul (b + 256 * x) 256 (256 ^ suc k))
    ∙ ap (λ (y : ℕ). y / 256 ^ suc k) above))

bytes_above : (j n b x : ℕ) → b < 256 → bytes_low_first (suc j) n (b + 256 * x) ≡ bytes_low_first j n x
bytes_above j zero b x below = refl
bytes_above j (suc n) b x below = ap₂ (λ y ys. y ∷ ys) (byte_above j b x below) (bytes_above (suc j) n b x below)

pub bytes_back : (i n : ℕ) (xs : List ℕ) → ((k : ℕ) → slice_index xs k < 256) → i + n ≤ length xs → little_bytes n (little_from i n xs) ≡ take n (drop i xs)
bytes_back i zero xs small long = refl
bytes_back i (suc n) xs small long =
    let byte = slice_index xs i in
    let rest = little_from (suc i) n xs in
    let first : byte_at 0 (byte + 256 * rest) ≡ byte = omega (arith, small i) in
    let others : bytes_low_first 1 n (byte + 256 * rest) ≡ take n (drop (suc i) xs) = bytes_above 0 n byte rest (small i) ∙ bytes_back (suc i) n xs small (omega (arith, long)) in
    let step : suc i ≡ i + 1 = omega arith in
    let more : byte ∷ drop (suc i) xs ≡ drop i xs = ap (λ m. byte ∷ drop m xs) step ∙ sym (drop_more xs i 0 (omega (arith, long))) in
    ap₂ (λ y ys. y ∷ ys) first others ∙ ap (take (suc n)) more
