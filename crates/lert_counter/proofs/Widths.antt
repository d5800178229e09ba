-- What a width of 8 to 62 bits says of `1 << width`.
use Rattle.std.proofs.{Common.{◌≡◌, ℕ, ◌*◌, ◌%◌, ◌^◌, ◌≤◌, arith}, Math.Nat.pow-le-pow_right, lemmas.Nat.one_shl}

pub shift_is : (width : ℕ) → width ≤ 62 → (1 * 2 ^ width) % 18446744073709551616 ≡ 2 ^ width
shift_is width narrow = one_shl width 64 (omega arith)

pub width_least : (width : ℕ) → 8 ≤ width → 256 ≤ 2 ^ width
width_least width wide = pow-le-pow_right {n = 2} (omega arith) wide
