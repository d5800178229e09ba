-- Tests of numbers.
use Rattle.std.proofs.{Common.{◌≡◌, ℕ, true, eqb, inl, inr}, lemmas.Bool.{cases_eq, ne_eqb}}

pub eqb_true : (a b : ℕ) → eqb a b ≡ true → a ≡ b
eqb_true a b equal =
    elim (cases_eq a b) [
      | inl same ↦ same
      | inr other ↦ absurd (let differs = ne_eqb a b other in cc)
    ]
