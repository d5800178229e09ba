-- The mixed value is a bijection of the numbers below 2^64, and a key comes back from its cone and its tail.
use Rattle.std.proofs.Common.{ℕ, ◌≡◌, ◌+◌, ◌*◌, ◌/◌, ◌%◌, ◌^◌, ◌<◌, ◌≤◌, refl, ap, ap₂, sym, ◌∙◌, arith, lit<, bit_xor}
use Rattle.std.proofs.Math.Nat.{mod-eq_of_lt, mod-lt, mul_assoc, mul_comm, div-add-mod, div-eq_of_lt-le}
use Rattle.std.proofs.lemmas.Nat.{xor_shr, xor_lt, shr-shr, shr_le, mul-mod_first, mul-mod_second, shr_below, pow_pos}
use Rattle.std.specs.Int.Bits.{xor_self, xor_zero_r, xor_assoc}
use Rattle.lert_spec.specs.{Edges.{key_bits, key_limit, tail_bits}, declared.numbers.Numbers.Numbers, Mix.{folded, scaled, mix, cone_of, tail_of}}

-- the other way: what gives a key back from its mixed value
unfoldable pub unmixed : ℕ → ℕ
unmixed m = folded (scaled 0x4f74430c22a54005 (folded (scaled 0x9cb4b2f8129337db (folded m))))

folded_below : (n : ℕ) → n < 2 ^ 64 → folded n < 2 ^ 64
folded_below n below = xor_lt 64 n (n / 2 ^ 33) below (omega (arith, shr_le n 33))

scaled_below : (factor n : ℕ) → scaled factor n < 2 ^ 64
scaled_below factor n = mod-lt (n * factor) {m = 2 ^ 64} (lit< tt)

-- folding twice gives the number back
folded_twice : (n : ℕ) → n < 2 ^ 64 → folded (folded n) ≡ n
folded_twice n below =
    let high = n / 2 ^ 33 in
    let none : high / 2 ^ 33 ≡ 0 = shr-shr n 33 33 ∙ div-eq_of_lt-le {k = 0} (2 ^ 66) {m = n} (omega arith) (omega arith) in
    ap (bit_xor (bit_xor n high)) (xor_shr n high 33 ∙ ap (bit_xor high) none ∙ xor_zero_r high)
    ∙ xor_assoc n high high
    ∙ ap (bit_xor n) (xor_self high)
    ∙ xor_zero_r n

-- a factor and its inverse cancel
scaled_back : (factor inverse n : ℕ) → factor * inverse % 2 ^ 64 ≡ 1 → n < 2 ^ 64 → scaled inverse (scaled factor n) ≡ n
scaled_back factor inverse n unit below =
    mul-mod_first (n * factor) inverse (2 ^ 64)
    ∙ ap (λ x. x % 2 ^ 64) (mul_assoc n factor inverse)
    ∙ sym (mul-mod_second n (factor * inverse) (2 ^ 64))
    ∙ ap (λ x. n * x % 2 ^ 64) unit
    ∙ ap (λ x. x % 2 ^ 64) (let same : n * 1 ≡ n = omega arith in same)
    ∙ mod-eq_of_lt below

-- a mixed value has 64 bits, whatever the key
pub mix_below : (key : ℕ) → mix key < 2 ^ 64
unfolding mix
mix_below key = folded_below _ (scaled_below 0xc4ceb9fe1a85ec53 _)

pub unmixed_below : (m : ℕ) → m < 2 ^ 64 → unmixed m < 2 ^ 64
unfolding unmixed
unmixed_below m below = folded_below _ (scaled_below 0x4f74430c22a54005 _)

pub unmixed-mix : (key : ℕ) → key < 2 ^ 64 → unmixed (mix key) ≡ key
unfolding mix unmixed
unmixed-mix key below =
    let first = folded key in
    let second = scaled 0xff51afd7ed558ccd first in
    let third = folded second in
    let fourth = scaled 0xc4ceb9fe1a85ec53 third in
    ap (λ x. folded (scaled 0x4f74430c22a54005 (folded (scaled 0x9cb4b2f8129337db x)))) (folded_twice fourth (scaled_below 0xc4ceb9fe1a85ec53 third))
    ∙ ap (λ x. folded (scaled 0x4f74430c22a54005 (folded x))) (scaled_back 0xc4ceb9fe1a85ec53 0x9cb4b2f8129337db third refl (folded_below second (scaled_below 0xff51afd7ed558ccd first)))
    ∙ ap (λ x. folded (scaled 0x4f74430c22a54005 x)) (folded_twice second (scaled_below 0xff51afd7ed558ccd first))
    ∙ ap folded (scaled_back 0xff51afd7ed558ccd 0x4f74430c22a54005 first refl (folded_below key below))
    ∙ folded_twice key below

pub mix-unmixed : (m : ℕ) → m < 2 ^ 64 → mix (unmixed m) ≡ m
unfolding mix unmixed
mix-unmixed m below =
    let first = folded m in
    let second = scaled 0x9cb4b2f8129337db first in
    let third = folded second in
    let fourth = scaled 0x4f74430c22a54005 third in
    ap (λ x. folded (scaled 0xc4ceb9fe1a85ec53 (folded (scaled 0xff51afd7ed558ccd x)))) (folded_twice fourth (scaled_below 0x4f74430c22a54005 third))
    ∙ ap (λ x. folded (scaled 0xc4ceb9fe1a85ec53 (folded x))) (scaled_back 0x4f74430c22a54005 0xff51afd7ed558ccd third refl (folded_below second (scaled_below 0x9cb4b2f8129337db first)))
    ∙ ap (λ x. folded (scaled 0xc4ceb9fe1a85ec53 x)) (folded_twice second (scaled_below 0x9cb4b2f8129337db first))
    ∙ ap folded (scaled_back 0x9cb4b2f8129337db 0xc4ceb9fe1a85ec53 first refl (folded_below m below))
    ∙ folded_twice m below

-- two keys with one mixed value are one
pub mix_is_one_to_one : (a b : ℕ) → a < 2 ^ 64 → b < 2 ^ 64 → mix a ≡ mix b → a ≡ b
mix_is_one_to_one a b a_below b_below same = sym (unmixed-mix a a_below) ∙ ap unmixed same ∙ unmixed-mix b b_below

-- a mixed value is its cone and its tail
pub mix_parts : (s : Numbers) (key : ℕ) → cone_of s key * 2 ^ tail_bits s + tail_of s key ≡ mix key
mix_parts s key = omega (arith, div-add-mod (mix key) (2 ^ tail_bits s), mul_comm (2 ^ tail_bits s) (cone_of s key))

-- two keys of one cone and one tail are one
pub one_key : (s : Numbers) (a b : ℕ) → a < key_limit s → b < key_limit s → cone_of s a ≡ cone_of s b → tail_of s a ≡ tail_of s b → a ≡ b
one_key s a b a_below b_below cones tails =
    mix_is_one_to_one a b a_below b_below
    (sym (mix_parts s a) ∙ ap₂ (λ cone tail. cone * 2 ^ tail_bits s + tail) cones tails ∙ mix_parts s b)

-- cones and tails lie in their ranges
pub cone_below : (s : Numbers) (key : ℕ) → s.cone_bits ≤ key_bits s → key < key_limit s → cone_of s key < 2 ^ s.cone_bits
cone_below s key within below = shr_below (mix key) s.cone_bits (tail_bits s) (let bits : s.cone_bits + tail_bits s ≡ key_bits s = omega arith in rw bits (mix_below key))

pub tail_below : (s : Numbers) (key : ℕ) → tail_of s key < 2 ^ tail_bits s
tail_below s key = mod-lt (mix key) {m = 2 ^ tail_bits s} (pow_pos (tail_bits s))
