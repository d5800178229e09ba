use Rattle.std.proofs.Common.{◌≡◌, ◌-◌, ◌/◌, ◌^◌, ◌%◌, ap, ◌∙◌, arith, bit_and}
use Rattle.lert_spec.specs.{Edges.tail_bits, declared.numbers.Numbers.Numbers, Mix.tail_of}
use Rattle.lert_spec.proofs.MixLaws.{tail_below}
use Rattle.lert_mixer.proofs.{Parts.low_part, cone.tail_of.Goals.After-numbers}
use Rattle.lert_mixer.proofs.cone.tail_of.Goals as goal

value : (c : After-numbers) → bit_and c.mix.result ((2 ^ 64 - 1) / 2 ^ c.numbers.result.cone_bits) ≡ tail_of c.args.settings.now c.args.key
value c =
    let n = c.numbers.result in
    low_part c.mix.result n.cone_bits (omega (arith, c.numbers.ensures.valid.limits.cone_bits_to))
    ∙ ap (λ m. m % 2 ^ tail_bits n) c.mix.ensures
    ∙ ap (λ (s : Numbers). tail_of s c.args.key) c.numbers.ensures.value

pub returns-clause-value : goal.returns-clause-value
returns-clause-value c = value (goal.at-returns-clause-value c).After-numbers

pub returns-clause-below : goal.returns-clause-below
returns-clause-below c =
    omega (arith, value (goal.at-returns-clause-below c).After-numbers, tail_below c.args.settings.now c.args.key)
