use Rattle.std.proofs.Common.{◌≡◌, ◌-◌, ◌/◌, ◌^◌, ap, ◌∙◌, arith}
use Rattle.lert_spec.specs.{Edges.tail_bits, declared.numbers.Numbers.Numbers, Mix.cone_of}
use Rattle.lert_spec.proofs.MixLaws.{cone_below}
use Rattle.lert_mixer.proofs.{Parts.high_part, cone.cone_of.Goals.After-mix}
use Rattle.lert_mixer.proofs.cone.cone_of.Goals as goal

value : (c : After-mix) → c.mix.result / 2 ^ 32 / 2 ^ (32 - c.numbers-cone_bits.result.cone_bits) ≡ cone_of c.args.settings.now c.args.key
value c =
    let n = c.numbers-cone_bits.result in
    high_part c.mix.result n.cone_bits (omega (arith, c.numbers-cone_bits.ensures.valid.limits.cone_bits_to))
    ∙ ap (λ m. m / 2 ^ tail_bits n) c.mix.ensures
    ∙ ap (λ (s : Numbers). cone_of s c.args.key) c.numbers-cone_bits.ensures.value

pub returns-clause-value : goal.returns-clause-value
returns-clause-value c = value (goal.at-returns-clause-value c).After-mix

pub returns-clause-below : goal.returns-clause-below
returns-clause-below c =
    let bits = ap (λ (s : Numbers). s.cone_bits) c.numbers-cone_bits.ensures.value in
    omega (
      arith,
      value (goal.at-returns-clause-below c).After-mix,
      cone_below c.args.settings.now c.args.key (omega (arith, bits, c.numbers-cone_bits.ensures.valid.limits.cone_bits_to))
          c.ranges.key.fits,
    )
