use Rattle.std.proofs.Common.{◌≡◌, ap, sym, ◌∙◌}
use Rattle.lert_spec.specs.Mix.{mix, folded, scaled}
use Rattle.lert_spec.proofs.MixLaws.{unmixed, unmixed-mix, mix-unmixed}
use Rattle.lert_mixer.proofs.mixer.unmix.Goals as goal
use Rattle.lert_mixer.proofs.mixer.unmix.Goals.{After-fold}

whole : (c : After-fold) → c.fold.result ≡ unmixed c.args.m
unfolding unmixed
whole c =
    c.fold.ensures
    ∙ ap (λ x. folded (scaled 0x4f74430c22a54005 x)) c.fold-m-2.ensures
    ∙ ap (λ x. folded (scaled 0x4f74430c22a54005 (folded (scaled 0x9cb4b2f8129337db x)))) c.fold-m.ensures

pub returns-clause-mixed : goal.returns-clause-mixed
returns-clause-mixed c = ap mix (whole c) ∙ mix-unmixed c.args.m c.ranges.m.fits

pub returns-clause-only : goal.returns-clause-only
returns-clause-only c = λ k below same. whole c ∙ ap unmixed (sym same) ∙ unmixed-mix k below
