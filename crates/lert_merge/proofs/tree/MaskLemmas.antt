-- A choice by a mask.
use Rattle.std.proofs.{Common.{◌≡◌, ℕ, ◌+◌, ◌-◌, ◌%◌, ◌^◌, ◌<◌, Bool, true, false, cond, sym, ap, ◌∙◌, arith, bit_and, bit_xor, inl, inr}, lemmas.Bool.cases_lt, lemmas.Nat.{and_mask, xor_lt}}
use Rattle.std.proofs.Math.Nat.{mod-eq_of_lt}
use Rattle.std.specs.Int.Bits.{xor_self, xor_zero_r, xor_zero_l, xor_assoc, and_zero_r}
use mir.Val.{bool_byte}

-- one more than a mask of all bits is no number of so many bits
all_bits : (k mask : ℕ) → mask < 2 ^ k → (mask + 1) % 2 ^ k ≡ 0 → mask ≡ 2 ^ k - 1
all_bits k mask fits is = elim (cases_lt (mask + 1) (2 ^ k)) [
  | inl less ↦ absurd (let same : (mask + 1) % 2 ^ k ≡ mask + 1 = mod-eq_of_lt less in omega arith)
  | inr full ↦ omega arith
]

no_bit : (k mask : ℕ) → mask < 2 ^ k → (mask + 0) % 2 ^ k ≡ 0 → mask ≡ 0
no_bit k mask fits is = sym (mod-eq_of_lt fits) ∙ (ap (λ n. n % 2 ^ k) (let e : mask ≡ mask + 0 = omega arith in e) ∙ is)

-- where the mask and the bit that it is made of add up to 0, the mask takes all bits or none
pub picks : (k : ℕ) (is_other : Bool) (one other mask : ℕ) → one < 2 ^ k → other < 2 ^ k → mask < 2 ^ k → (mask + bool_byte is_other) % 2 ^ k ≡ 0 →
    bit_xor one (bit_and (bit_xor one other) mask) ≡ cond is_other other one
picks k true one other mask one_fits other_fits fits is =
    ap (bit_xor one) (ap (bit_and (bit_xor one other)) (all_bits k mask fits is) ∙ (and_mask (bit_xor one other) k ∙ mod-eq_of_lt (xor_lt k one other one_fits other_fits)))
    ∙ (sym (xor_assoc one one other) ∙ (ap (λ n. bit_xor n other) (xor_self one) ∙ xor_zero_l other))
picks k false one other mask one_fits other_fits fits is =
    ap (bit_xor one) (ap (bit_and (bit_xor one other)) (no_bit k mask fits is) ∙ and_zero_r (bit_xor one other)) ∙ xor_zero_r one
