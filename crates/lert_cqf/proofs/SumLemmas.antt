-- Sums of two rows.
use Rattle.std.proofs.{Common.{◌≡◌, ℕ, zero, suc, ◌+◌, ◌*◌, ◌/◌, ◌^◌, ◌<◌, ◌≤◌, List, [], ◌∷◌, length, replicate, get_or, refl, sym, ap, ap₂, ◌∙◌, inl, inr, arith}, lemmas.Bool.cases_lt}
use Rattle.lert_cqf.specs.{Rows.IsRaised, Spill.{sums, sums_from, IsRaisedTo, AreRaised}}

pub sums_long : (place : ℕ) (own common : List ℕ) → length (sums_from place own common) ≡ length own
sums_long place [] common = refl
sums_long place (n ∷ own) common = ap suc (sums_long (place + 1) own common)

-- the sum at a place
sums_from_at : (place : ℕ) (own common : List ℕ) (i : ℕ) → i < length own → get_or (sums_from place own common) i 0 ≡ get_or own i 0 + get_or common ((place + i) / 64) 0
sums_from_at place [] common i within = absurd (omega arith)
sums_from_at place (n ∷ own) common zero within = ap (λ k. n + get_or common (k / 64) 0) (let e : place ≡ place + 0 = omega arith in e)
sums_from_at place (n ∷ own) common (suc i) within =
    sums_from_at (place + 1) own common i (omega arith) ∙ ap (λ k. get_or own i 0 + get_or common (k / 64) 0) (let e : place + 1 + i ≡ place + suc i = omega arith in e)

pub sums_at : (own common : List ℕ) (i : ℕ) → i < length own → get_or (sums own common) i 0 ≡ get_or own i 0 + get_or common (i / 64) 0
sums_at own common i within = sums_from_at 0 own common i within ∙ ap (λ k. get_or own i 0 + get_or common (k / 64) 0) (let e : 0 + i ≡ i = omega arith in e)

-- behind the last place
behind : (xs : List ℕ) (i : ℕ) → length xs ≤ i → get_or xs i 0 ≡ 0
behind [] i over = refl
behind (x ∷ xs) zero over = absurd (omega arith)
behind (x ∷ xs) (suc i) over = behind xs i (omega arith)

-- where nothing is in common the sums are the own numbers
pub sums_own : (place : ℕ) (own common : List ℕ) → ((block : ℕ) → get_or common block 0 ≡ 0) → sums_from place own common ≡ own
sums_own place [] common none = refl
sums_own place (n ∷ own) common none =
    ap₂ (λ k (t : List ℕ). k ∷ t) (let e : n + get_or common (place / 64) 0 ≡ n = (let z = none (place / 64) in omega arith) in e) (sums_own (place + 1) own common none)

pub zeros_at : (n i : ℕ) → get_or (replicate {A = ℕ} n 0) i 0 ≡ 0
zeros_at zero i = refl
zeros_at (suc n) zero = refl
zeros_at (suc n) (suc i) = zeros_at n i

-- raised one by one
pub near_raised : (own common own_new : List ℕ) (from to : ℕ) → IsRaisedTo own own_new from (to + 1) → AreRaised own common own_new common from to
near_raised own common own_new from to r = record {
  own_long = r.long;
  common_long = refl;
  inside = λ g low high. (let e = r.inside g low (omega arith) in omega arith);
  below = λ g low. ap (λ k. k + get_or common (g / 64) 0) (r.below g low);
  above = λ g high. ap (λ k. k + get_or common (g / 64) 0) (r.above g (omega arith));
}

-- so the sums are raised
pub sums_raised : (own common own_new common_new : List ℕ) (from to : ℕ) → from ≤ to + 1 → to < length own → AreRaised own common own_new common_new from to
    → IsRaised (sums own common) (sums own_new common_new) from to
sums_raised own common own_new common_new from to order within r = record {
  long = sums_long 0 own_new common_new ∙ r.own_long ∙ sym (sums_long 0 own common);
  inside = λ g low high some. (let new = sums_at own_new common_new g (omega (arith, r.own_long)) in
      let old = sums_at own common g (omega arith) in
      new ∙ r.inside g low high ∙ ap (λ k. k + 1) (sym old));
  below = λ g low. sums_at own_new common_new g (omega (arith, r.own_long)) ∙ r.below g low ∙ sym (sums_at own common g (omega arith));
  above = λ g high. elim (cases_lt g (length own)) [
    | inl inside ↦ sums_at own_new common_new g (omega (arith, r.own_long)) ∙ r.above g high ∙ sym (sums_at own common g inside)
    | inr beyond ↦ behind (sums own_new common_new) g (omega (arith, sums_long 0 own_new common_new, r.own_long))
        ∙ sym (behind (sums own common) g (omega (arith, sums_long 0 own common)))
  ];
}

-- a block before the end of raised numbers has one of them
pub block_room : (own common : List ℕ) (from to block : ℕ) → to < length own → ((g : ℕ) → g < length own → get_or own g 0 + get_or common (g / 64) 0 + 1 < 2 ^ 32)
    → block < (to + 1) / 64 → get_or common block 0 + 1 < 2 ^ 32
block_room own common from to block within room before =
    let same : 64 * block / 64 ≡ block = omega arith in
    let sum = room (64 * block) (omega arith) in
    let common_is : get_or common (64 * block / 64) 0 ≡ get_or common block 0 = ap (λ k. get_or common k 0) same in
    omega (arith, sum, common_is)
