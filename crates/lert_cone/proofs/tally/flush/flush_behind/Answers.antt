use Rattle.std.proofs.Common.{◌≡◌, ◌+◌, ◌<◌, ◌^◌, ◌∙◌, ℕ, ap, subst, arith}
use Rattle.lert_spec.specs.{declared.numbers.Numbers.Numbers, Edges.{span, capacity}, Limits.IsValid}
use Rattle.lert_spec.proofs.LimitLaws.{capacity_to, span_within}
use Rattle.lert_cone.proofs.NextFlush.{flush_passed, flush_ahead}
use Rattle.lert_cone.proofs.tally.flush.flush_behind.Goals as goal

pub returns-then-len-flush : goal.returns-then-len-flush
returns-then-len-flush c =
    ap (λ wide. c.args.flush + wide) c.span.ensures.value
    ∙ flush_passed c.args.settings.now (subst IsValid c.numbers-valid.ensures.value c.numbers-valid.ensures.valid) c.args.len c.args.flush c.requires.flush c.if-len-flush.true

pub returns : goal.returns
returns c =
    flush_ahead c.args.settings.now (subst IsValid c.numbers-valid.ensures.value c.numbers-valid.ensures.valid) c.args.len c.args.flush c.requires.flush c.if-len-flush.false

flush_fits : (s : Numbers) → IsValid s → (len flush wide : ℕ) → len < capacity s → len ≡ flush → wide ≡ span s 0 → flush + wide < 2 ^ 64
flush_fits s valid len flush wide fits same wide_is = omega (arith, capacity_to s valid, span_within s 0 valid.limits (omega arith), fits, same, wide_is)

pub overflow_add-result : goal.overflow_add-result
overflow_add-result c =
    omega (
      arith,
      flush_fits c.args.settings.now (subst IsValid c.numbers-valid.ensures.value c.numbers-valid.ensures.valid) c.args.len c.args.flush c.span.result c.requires.fits c.if-len-flush.true
          c.span.ensures.value,
    )
