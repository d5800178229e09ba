-- The parts of a mixed value by shifts and masks.
use Rattle.std.proofs.{Common.{ℕ, ◌≡◌, ◌+◌, ◌-◌, ◌*◌, ◌/◌, ◌%◌, ◌^◌, ◌<◌, ◌≤◌, ap, sym, ◌∙◌, arith, bit_and, bit_or}, Math.Nat.mul_assoc}
use Rattle.std.proofs.{lemmas.Nat.{shr-shr, and_mask, or_shifted, pow-add, shl_whole, shl_below}, lemmas.Nat.Bits.ones_shr}

pub high_part : (m cone_bits : ℕ) → cone_bits ≤ 32 → m / 2 ^ 32 / 2 ^ (32 - cone_bits) ≡ m / 2 ^ (64 - cone_bits)
high_part m cone_bits within =
    shr-shr m 32 (32 - cone_bits) ∙ ap (λ n. m / 2 ^ n) (let bits : 32 + (32 - cone_bits) ≡ 64 - cone_bits = omega arith in bits)

pub low_part : (m cone_bits : ℕ) → cone_bits ≤ 64 → bit_and m ((2 ^ 64 - 1) / 2 ^ cone_bits) ≡ m % 2 ^ (64 - cone_bits)
low_part m cone_bits within = ap (bit_and m) (ones_shr 64 cone_bits within) ∙ and_mask m (64 - cone_bits)

-- the cone in front of the tail
pub joined : (cone tail cone_bits : ℕ) → cone_bits ≤ 32 → cone < 2 ^ cone_bits → tail < 2 ^ (64 - cone_bits) → bit_or (cone * 2 ^ 32 % 2 ^ 64 * 2 ^ (32 - cone_bits) % 2 ^ 64) tail
    ≡ cone * 2 ^ (64 - cone_bits) + tail
joined cone tail cone_bits within cone_below tail_below =
    let first = shl_whole cone cone_bits 32 64 cone_below (omega arith) in
    let second = shl_whole (cone * 2 ^ 32) (cone_bits + 32) (32 - cone_bits) 64 (shl_below cone cone_bits 32 cone_below) (omega arith) in
    let bits : 32 + (32 - cone_bits) ≡ 64 - cone_bits = omega arith in
    let power = sym (pow-add 2 32 (32 - cone_bits)) ∙ ap (λ n. 2 ^ n) bits in
    ap (λ x. bit_or (x * 2 ^ (32 - cone_bits) % 2 ^ 64) tail) first
    ∙ ap (λ x. bit_or x tail) (second ∙ mul_assoc cone (2 ^ 32) (2 ^ (32 - cone_bits)) ∙ ap (λ n. cone * n) power)
    ∙ or_shifted cone (64 - cone_bits) tail tail_below
