-- The order of places.
use Rattle.std.proofs.Common.{ℕ, ◌≤◌, arith}

pub here : (n : ℕ) → n ≤ n
here n = omega arith

pub at_least : {a b c : ℕ} → a ≤ b → b ≤ c → a ≤ c
at_least {a} {b} {c} one two = omega (arith, one, two)
