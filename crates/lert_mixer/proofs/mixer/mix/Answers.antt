use Rattle.std.proofs.Common.{ap, ◌∙◌}
use Rattle.lert_spec.specs.Mix.{mix, folded, scaled}
use Rattle.lert_mixer.proofs.mixer.mix.Goals as goal

pub returns : goal.returns
unfolding mix
returns c =
    c.fold.ensures
    ∙ ap (λ x. folded (scaled 0xc4ceb9fe1a85ec53 x)) c.fold-k-2.ensures
    ∙ ap (λ x. folded (scaled 0xc4ceb9fe1a85ec53 (folded (scaled 0xff51afd7ed558ccd x)))) c.fold-k.ensures
