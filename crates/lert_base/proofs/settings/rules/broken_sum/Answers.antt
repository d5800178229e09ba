use Rattle.std.proofs.{Common.{◌≡◌, ℕ, ◌*◌, ◌^◌, ◌%◌, ◌≤◌, arith, lit<, [], ◌∷◌, not, Option, Some, None, ap₂, sym, ◌∙◌}, Math.Nat.pow-le-pow_right}
use Rattle.std.specs.{Prelude.{IfNone, nat_le}, List.position_from}
use Rattle.lert_spec.specs.{declared.numbers.Numbers.Numbers, Limits.{IsInLimits, IsValid, sums_kept}}
use Rattle.lert_spec.proofs.LimitLaws.{IsValid-from_none}
use Rattle.lert_base.proofs.settings.rules.broken_sum.Goals as goal

cones : (bits : ℕ) → bits ≤ 8 → (1 * 2 ^ bits) % 2 ^ 64 ≡ 2 ^ bits
cones bits few = omega (arith, pow-le-pow_right {n = 2} (lit< tt) {i = bits} {j = 8} few)

pub returns-clause-value : goal.returns-clause-value
returns-clause-value c =
    let s = c.args.numbers.now in
    c.first_false.ensures
    ∙ ap₂ (λ cones end. position_from not 9
    (nat_le (cones * s.bins * s.base) (2 ^ 23) ∷ nat_le (cones * s.room) (2 ^ 24) ∷ nat_le end (2 ^ 31) ∷ []))
    (cones s.cone_bits c.requires.limits.cone_bits_to) c.requires.end

valid : (s : Numbers) → IsInLimits s → (broken : Option ℕ) → broken ≡ position_from not 9 (sums_kept s) → IfNone broken (IsValid s)
valid s limits None is = IsValid-from_none s limits (sym is)
valid s limits (Some rule) is = tt

pub returns-clause-none : goal.returns-clause-none
returns-clause-none c = valid c.args.numbers.now c.requires.limits c.first_false.result (returns-clause-value c)
