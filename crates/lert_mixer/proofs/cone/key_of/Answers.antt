use Rattle.std.proofs.{Common.{◌≡◌, ◌+◌, ◌-◌, ◌*◌, ◌/◌, ◌^◌, ◌%◌, ap, ap₂, sym, ◌∙◌, arith, bit_or}, lemmas.Nat.{shr_high, mod_low}}
use Rattle.lert_spec.specs.{Edges.tail_bits, declared.numbers.Numbers.Numbers, Mix.{mix, cone_of, tail_of}}
use Rattle.lert_spec.proofs.MixLaws.{one_key}
use Rattle.lert_mixer.proofs.{Parts.joined, cone.key_of.Goals.After-unmix}
use Rattle.lert_mixer.proofs.cone.key_of.Goals as goal

-- the mixed value of the key
mixed : (c : After-unmix) → mix c.unmix.result ≡ c.args.cone * 2 ^ tail_bits c.args.settings.now + c.args.tail
mixed c =
    let bits = ap (λ (s : Numbers). s.cone_bits) c.numbers-cone_bits.ensures.value in
    c.unmix.ensures.mixed
    ∙ ap₂ (λ cone bits. bit_or (cone * 2 ^ 32 % 2 ^ 64 * 2 ^ (32 - bits) % 2 ^ 64) c.args.tail) c.from.ensures bits
    ∙ joined c.args.cone c.args.tail c.args.settings.now.cone_bits (omega (arith, bits, c.numbers-cone_bits.ensures.valid.limits.cone_bits_to)) c.requires.cone c.requires.tail

cone_is : (c : After-unmix) → cone_of c.args.settings.now c.unmix.result ≡ c.args.cone
cone_is c =
    let bits = tail_bits c.args.settings.now in
    ap (λ m. m / 2 ^ bits) (mixed c) ∙ shr_high c.args.cone bits c.args.tail c.requires.tail

tail_is : (c : After-unmix) → tail_of c.args.settings.now c.unmix.result ≡ c.args.tail
tail_is c =
    let bits = tail_bits c.args.settings.now in
    ap (λ m. m % 2 ^ bits) (mixed c) ∙ mod_low c.args.cone bits c.args.tail c.requires.tail

pub returns-clause-cone : goal.returns-clause-cone
returns-clause-cone c = cone_is c

pub returns-clause-tail : goal.returns-clause-tail
returns-clause-tail c = tail_is c

pub returns-clause-only : goal.returns-clause-only
returns-clause-only c = λ k below same_cone same_tail.
    one_key c.args.settings.now c.unmix.result k c.unmix.type_inv below (cone_is c ∙ sym same_cone) (tail_is c ∙ sym same_tail)
