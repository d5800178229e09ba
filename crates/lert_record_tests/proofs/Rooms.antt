-- Packets of three keys in a journal whose packets have at most 32, by how many bytes an item has.
use Rattle.std.proofs.Common.{◌≡◌, ℕ, ◌+◌, ◌*◌, ◌^◌, ◌<◌, ◌≤◌, arith, subst, sym}

pub few : (each len most : ℕ) → len ≡ 3 → most ≡ 8 + 32 * each → 8 + each * len ≤ most
few each len most three is = subst (λ (n : ℕ). 8 + each * n ≤ most) (sym three) (omega (arith, is))

pub near : (each len gate : ℕ) → len ≡ 3 → gate ≤ 96 → each ≤ 9 → gate + 14 + each * len < 2 ^ 63
near each len gate three early small = subst (λ (n : ℕ). gate + 14 + each * n < 2 ^ 63) (sym three) (omega (arith, early, small))
