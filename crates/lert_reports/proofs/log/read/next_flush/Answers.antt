use Rattle.std.proofs.{Common.{ℕ, ◌≡◌, ◌+◌, ◌*◌, ◌≤◌, ◌∙◌, ap, arith, inl, inr, min}, Math.Nat.{min-eq_left, min-eq_right, mul-le-mul}, lemmas.Bool.cases_lt}
use Rattle.lert_spec.specs.declared.numbers.Numbers.{Numbers}
use Rattle.lert_reports.proofs.log.read.next_flush.Goals as goal

-- a sum that is cut at the most there is, and then multiplied and cut, is the product cut once
cut_once : (sum factor most : ℕ) → 1 ≤ factor → min (min sum most * factor) most ≡ min (sum * factor) most
cut_once sum factor most some =
    elim (cases_lt sum most) [
      | inl less ↦ ap (λ n. min (n * factor) most) (min-eq_left (omega (arith, less)))
      | inr more ↦ (
          let cut : most ≤ most * factor = (let one = mul-le-mul {n₁ = most} {m₁ = 1} {n₂ = most} {m₂ = factor} (omega arith) some in omega (arith, one)) in
          let whole : most ≤ sum * factor = (let one = mul-le-mul {n₁ = most} {m₁ = 1} {n₂ = sum} {m₂ = factor} more some in omega (arith, one)) in
          ap (λ n. min (n * factor) most) (min-eq_right more) ∙ omega (arith, cut, whole))
    ]

pub returns : goal.returns
returns c =
    let numbers = c.numbers-numbers in
    let most : ℕ = 18446744073709551615 in
    c.saturating_mul.ensures
    ∙ ap (λ n. min (n * numbers.result.base) most) c.saturating_add.ensures
    ∙ cut_once (numbers.result.bins + c.args.before.now.flushes) numbers.result.base most (omega (arith, numbers.ensures.valid.limits.base_from))
    ∙ ap (λ (s : Numbers). min ((s.bins + c.args.before.now.flushes) * s.base) most) numbers.ensures.value
