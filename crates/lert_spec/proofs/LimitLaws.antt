-- What the rules of the settings give, and how large a level's numbers get.
use Rattle.std.proofs.Common.{ℕ, ◌≡◌, ◌+◌, ◌-◌, ◌*◌, ◌^◌, ◌<◌, ◌≤◌, zero, suc, Bool, true, false, not, leb, List, [], ◌∷◌, ◌++◌, length, get_or, Option, Some}
use Rattle.std.proofs.Common.{None, refl, ap, sym, ◌∙◌, arith, inl, inr, ◌⊎◌, lit<, unwrap_or, max}
use Rattle.std.specs.Int.Count.{count_leading_zeros}
use Rattle.std.proofs.lemmas.Nat.{leading_top}
use Rattle.std.specs.List.{position_from}
use Rattle.std.proofs.Math.Nat.{pow-le-pow_left, pow-le-pow_right, mul-le-mul_left, one-le-pow}
use Rattle.std.proofs.lemmas.Bool.{and_parts, cases_lt, leb-true, le-leb, lt-leb}
use Rattle.std.proofs.lemmas.Nat.{mul-le}
use Rattle.lert_spec.proofs.EdgeLaws.{span_pos}
use Rattle.lert_spec.proofs.FirstPass.{find_is}
use Rattle.lert_spec.specs.declared.numbers.Numbers.{Numbers}
use Rattle.lert_spec.specs.Edges.{span, spans, offset, capacity, quotient_bits}
use Rattle.lert_spec.specs.Limits.{lies, limits_kept, sums_kept, first_or, early_broken, late_broken, first_broken, IsInLimits, IsValid}

-- where none fails, each holds
holds : (at k : ℕ) (kept : List Bool) → position_from not at kept ≡ None → k < length kept → get_or kept k true ≡ true
holds at k [] none within = absurd (omega arith)
holds at zero (true ∷ kept) none within = refl
holds at (suc k) (true ∷ kept) none within = holds (at + 1) k kept none (omega arith)
holds at k (false ∷ kept) none within = absurd (cc)

-- a failure in the first list is the first in both
pub position_from-append_some : (at k : ℕ) (kept more : List Bool) → position_from not at kept ≡ Some k → position_from not at (kept ++ more) ≡ Some k
position_from-append_some at k [] more some = absurd (cc)
position_from-append_some at k (true ∷ kept) more some = position_from-append_some (at + 1) k kept more some
position_from-append_some at k (false ∷ kept) more some = some

-- where the first list has none, it is that of the second
pub position_from-append_none : (at : ℕ) (kept more : List Bool) → position_from not at kept ≡ None → position_from not at (kept ++ more) ≡ position_from not (at + length kept) more
position_from-append_none at [] more none = ap (λ n. position_from not n more) (let same : at ≡ at + 0 = omega arith in same)
position_from-append_none at (true ∷ kept) more none =
    position_from-append_none (at + 1) kept more none ∙ ap (λ n. position_from not n more) (let same : at + 1 + length kept ≡ at + suc (length kept) = omega arith in same)
position_from-append_none at (false ∷ kept) more none = absurd (cc)

cases_broken : (at : ℕ) (kept : List Bool) → ((k : ℕ) × (position_from not at kept ≡ Some k)) ⊎ (position_from not at kept ≡ None)
cases_broken at [] = inr refl
cases_broken at (true ∷ kept) = cases_broken (at + 1) kept
cases_broken at (false ∷ kept) = inl (at, refl)

between : (least most n : ℕ) → lies least most n ≡ true → (least ≤ n) × (n ≤ most)
between least most n holds =
    let both = and_parts (leb least n) (leb n most) holds in (leb-true least n both.0, leb-true n most both.1)

-- where no rule on single numbers is broken, each number lies in its limits
pub IsInLimits-from_none : (s : Numbers) → position_from not 1 (limits_kept s) ≡ None → IsInLimits s
IsInLimits-from_none s none =
    let kept = limits_kept s in
    record {
      threshold_from = (between 1 4294967295 s.threshold (holds 1 0 kept none (lit< tt))).0;
      threshold_to = (between 1 4294967295 s.threshold (holds 1 0 kept none (lit< tt))).1;
      bins_from = (between 2 16 s.bins (holds 1 1 kept none (lit< tt))).0;
      bins_to = (between 2 16 s.bins (holds 1 1 kept none (lit< tt))).1;
      ratio_from = (between 2 16 s.ratio (holds 1 2 kept none (lit< tt))).0;
      ratio_to = (between 2 16 s.ratio (holds 1 2 kept none (lit< tt))).1;
      base_from = (between 4 65536 s.base (holds 1 3 kept none (lit< tt))).0;
      base_to = (between 4 65536 s.base (holds 1 3 kept none (lit< tt))).1;
      levels_from = (between 1 8 s.levels (holds 1 4 kept none (lit< tt))).0;
      levels_to = (between 1 8 s.levels (holds 1 4 kept none (lit< tt))).1;
      cone_bits_to = (between 0 8 s.cone_bits (holds 1 5 kept none (lit< tt))).1;
      room_from = (between 1 4194304 s.room (holds 1 6 kept none (lit< tt))).0;
      room_to = (between 1 4194304 s.room (holds 1 6 kept none (lit< tt))).1;
      packet_from = (between 1 1024 s.packet (holds 1 7 kept none (lit< tt))).0;
      packet_to = (between 1 1024 s.packet (holds 1 7 kept none (lit< tt))).1;
    }

-- and where no rule on several is broken either, they are settings
pub IsValid-from_none : (s : Numbers) → IsInLimits s → position_from not 9 (sums_kept s) ≡ None → IsValid s
IsValid-from_none s limits none =
    let kept = sums_kept s in
    record {
      limits = limits;
      tables_fit = leb-true (2 ^ s.cone_bits * s.bins * s.base) (2 ^ 23) (holds 9 0 kept none (lit< tt));
      reports_fit = leb-true (2 ^ s.cone_bits * s.room) (2 ^ 24) (holds 9 1 kept none (lit< tt));
      positions_fit = leb-true (offset s s.levels + span s s.levels) (2 ^ 31) (holds 9 2 kept none (lit< tt));
    }

-- the rules in their order
pub first_breaks : (first others : Option ℕ) (rule : ℕ) → first ≡ Some rule → first_or first others ≡ Some rule
first_breaks first others rule broken = ap (λ b. first_or b others) broken

pub first_keeps : (first others result : Option ℕ) → first ≡ None → others ≡ result → first_or first others ≡ result
first_keeps first others result kept is = ap (λ b. first_or b others) kept ∙ is

pub first_none : (first others : Option ℕ) → first_or first others ≡ None → (first ≡ None) × (others ≡ None)
first_none (Some rule) others is = absurd (cc)
first_none None others is = (refl, is)

-- numbers that break no rule are settings
pub IsValid-from_unbroken : (s : Numbers) → first_broken s ≡ None → IsValid s
IsValid-from_unbroken s unbroken =
    let none = (first_none (early_broken s) (late_broken s) unbroken).0 in
    elim (cases_broken 1 (limits_kept s)) [
      | inl some ↦ absurd (let early = position_from-append_some 1 some.0 (limits_kept s) (sums_kept s) some.1 in cc)
      | inr kept ↦ IsValid-from_none s (IsInLimits-from_none s kept)
          (sym (position_from-append_none 1 (limits_kept s) (sums_kept s) kept) ∙ none)
    ]

-- how wide a level gets
pub span_within : (s : Numbers) (level : ℕ) → IsInLimits s → level ≤ 8 → span s level ≤ 2 ^ 48
span_within s level limits within =
    let narrow = pow-le-pow_left limits.ratio_to level in
    let few = pow-le-pow_right {n = 16} (lit< tt) {i = level} {j = 8} within in
    omega (arith, mul-le s.base (s.ratio ^ level) 65536 (16 ^ 8) limits.base_to (omega arith))

pub spans_within : (s : Numbers) (level : ℕ) → IsInLimits s → level ≤ 8 → spans s level ≤ (level + 1) * 2 ^ 48
spans_within s zero limits within = omega (arith, span_within s zero limits within)
spans_within s (suc level) limits within =
    omega (arith, spans_within s level limits (omega arith), span_within s (suc level) limits within)

pub offset_within : (s : Numbers) (level : ℕ) → IsInLimits s → level ≤ 8 → offset s level ≤ 2 ^ 56
offset_within s level limits within =
    omega (arith, mul-le (s.bins - 1) (spans s level) 15 (9 * 2 ^ 48) (omega (arith, limits.bins_to)) (omega (arith, spans_within s level limits within)))

-- the least number of bits, from 6 on, that hold a span
pub quotient_bits_is : (s : Numbers) (level q : ℕ) → 6 ≤ q → q < 64 → span s level ≤ 2 ^ q → (6 < q → 2 ^ (q - 1) < span s level) → quotient_bits s level ≡ q
quotient_bits_is s level q from within holds_it least =
    ap (λ found. unwrap_or found 64) (find_is (λ b. leb (span s level) (2 ^ b)) 6 58 q from (omega arith) (le-leb (span s level) (2 ^ q) holds_it)
    (λ k above below.
    let fewer = pow-le-pow_right {n = 2} (lit< tt) {i = k} {j = q - 1} (omega arith) in
    lt-leb (span s level) (2 ^ k) (omega (arith, least (omega arith)))))

span_le-spans : (s : Numbers) (level : ℕ) → span s level ≤ spans s level
span_le-spans s zero = omega arith
span_le-spans s (suc level) = omega arith

-- a cone takes some events, and fewer than 2^31
pub capacity_from : (s : Numbers) → IsValid s → 1 ≤ capacity s
capacity_from s valid =
    let wide = span_pos s s.levels (omega (arith, valid.limits.base_from)) (omega (arith, valid.limits.ratio_from)) in
    let first = span_pos s 0 (omega (arith, valid.limits.base_from)) (omega (arith, valid.limits.ratio_from)) in
    let far = mul-le 1 1 (s.bins - 1) (spans s s.levels) (omega (arith, valid.limits.bins_from)) (omega (arith, span_le-spans s s.levels)) in
    let some = mul-le 1 1 s.threshold s.room valid.limits.threshold_from valid.limits.room_from in
    omega arith

pub capacity_to : (s : Numbers) → IsValid s → capacity s < 2 ^ 31
capacity_to s valid =
    let wide = span_pos s s.levels (omega (arith, valid.limits.base_from)) (omega (arith, valid.limits.ratio_from)) in
    omega (arith, valid.positions_fit)

-- an older level's span is no less
pub span_grows : (s : Numbers) (level older : ℕ) → 1 ≤ s.ratio → level ≤ older → span s level ≤ span s older
span_grows s level older ratio before = mul-le-mul_left s.base (pow-le-pow_right ratio before)

-- a span within the positions of a cone: the oldest level's offset is no less than its span
pub span_in_positions : (s : Numbers) (level : ℕ) → span s level ≤ span s s.levels → IsValid s → span s level ≤ 2 ^ 30
span_in_positions s level grows valid =
    let far = mul-le 1 (span s s.levels) (s.bins - 1) (spans s s.levels) (omega (arith, valid.limits.bins_from)) (span_le-spans s s.levels) in
    omega (arith, valid.positions_fit)

span_from_base : (s : Numbers) → IsValid s → 4 ≤ span s 0
span_from_base s valid = mul-le 4 1 s.base (s.ratio ^ 0) valid.limits.base_from (one-le-pow 0 s.ratio (omega (arith, valid.limits.ratio_from)))

-- the least number of bits by the zeros in front of the last event of a span
pub quotient_bits_by_zeros : (s : Numbers) (level : ℕ) → IsValid s → level ≤ s.levels → (max (64 - count_leading_zeros 64 (span s level - 1)) 6 ≡ quotient_bits s level)
    × (max (64 - count_leading_zeros 64 (span s level - 1)) 6 ≤ 30)
quotient_bits_by_zeros s level valid within =
    let ratio : 1 ≤ s.ratio = omega (arith, valid.limits.ratio_from) in
    let grows = span_grows s level s.levels ratio within in
    let fits = span_in_positions s level grows valid in
    let least = span_grows s 0 level ratio (omega arith) in
    let wide = span_from_base s valid in
    let top = leading_top 64 (span s level - 1) (omega arith) (omega arith) in
    let j = top.0 in
    let few : suc j ≤ 30 = elim (cases_lt j 30) [
      | inl less ↦ less
      | inr more ↦ absurd (let power = pow-le-pow_right {n = 2} (lit< tt) {i = 30} {j = j} more in omega (arith, top.2))
    ] in
    elim (cases_lt 6 (suc j)) [
      | inl above ↦ (
          let q : max (64 - count_leading_zeros 64 (span s level - 1)) 6 ≡ suc j = omega (arith, top.1) in (
            q ∙ sym (quotient_bits_is s level (suc j) (omega arith) (omega arith) (omega (arith, top.3))
                (λ _. (let same : suc j - 1 ≡ j = omega arith in let power = ap (λ n. 2 ^ n) same in omega (arith, top.2)))),
            omega arith,
          ))
      | inr below ↦ (
          let q : max (64 - count_leading_zeros 64 (span s level - 1)) 6 ≡ 6 = omega (arith, top.1) in
          let power = pow-le-pow_right {n = 2} (lit< tt) {i = suc j} {j = 6} below in
          (q ∙ sym (quotient_bits_is s level 6 (omega arith) (omega arith) (omega (arith, top.3)) (λ more. absurd (omega arith))), omega arith))
    ]
